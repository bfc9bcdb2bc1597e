-- Closed sets of doubles (pairs of states) and triples, the graph of triples, and the numbers of its parts, that is, of
-- its strongly connected components. A graph is given by the function `next` from a state and a letter to the list of
-- the targets of its moves, and `rank` gives each state its rank.
use Rattle.std.specs.Prelude.{◌≡◌, ◌≢◌, ℕ, ◌<◌, ◌⊎◌, Bool, IsTrue, List}
use Rattle.rl_graph.specs.Paths.{Has, OnCycle}
use Rattle.rl_graph.specs.Parts.{PartTable, number_of}

-- Holds if the doubles for which `holds` is true have only states below `n`, include the double of each state below `n`
-- with itself, and are closed under steps: if they include a double, they include each double to which a move of its
-- first state and a move of its second state on the same letter lead.
pub record AreClosedDoubles (next : ℕ → ℕ → List ℕ) (n : ℕ) (holds : ℕ → ℕ → Bool) : Type 0 where
  pub equal : (r : ℕ) → r < n → IsTrue (holds r r)
  pub closed : (p q l x y : ℕ) → IsTrue (holds p q) → Has x (next p l) → Has y (next q l) → IsTrue (holds x y)
  pub inside : (p q : ℕ) → IsTrue (holds p q) → (p < n) × (q < n)

-- Three states: a triple without a number.
pub record Three : Type 0 where
  pub p : ℕ
  pub q : ℕ
  pub r : ℕ

-- A step from the triple `s` to the triple `t`: three moves on one letter, one from each state of `s`, to states that
-- have the rank of the first state of `s`.
pub record IsTripleStep (next : ℕ → ℕ → List ℕ) (rank : ℕ → ℕ) (s t : Three) : Type 0 where
  pub letter : ℕ
  pub first : Has t.p (next s.p letter)
  pub middle : Has t.q (next s.q letter)
  pub last : Has t.r (next s.r letter)
  pub first_rank : rank t.p ≡ rank s.p
  pub middle_rank : rank t.q ≡ rank s.p
  pub last_rank : rank t.r ≡ rank s.p

-- A lift from the triple `s`, which is `(r, q, q)` with different `r` and `q`, to the triple `t`, which is `(r, r, q)`.
pub record IsLift (s t : Three) : Type 0 where
  pub apart : s.p ≢ s.r
  pub twice : s.q ≡ s.r
  pub first : t.p ≡ s.p
  pub middle : t.q ≡ s.p
  pub last : t.r ≡ s.r

-- Holds if the triples for which `holds` is true include `(r, r, q)` for all different states `r` and `q` below `n`
-- that have the same rank and lie on cycles, and are closed under steps.
pub record AreClosedTriples (next : ℕ → ℕ → List ℕ) (n : ℕ) (rank : ℕ → ℕ) (holds : ℕ → ℕ → ℕ → Bool) : Type 0 where
  pub starts : (r q : ℕ) → r < n → q < n → r ≢ q → rank r ≡ rank q → OnCycle next r → OnCycle next q → IsTrue (holds r r q)
  pub closed : (s t : Three) → IsTrue (holds s.p s.q s.r) → IsTripleStep next rank s t → IsTrue (holds t.p t.q t.r)

-- Holds if `moves` is a graph of the triples `key 0` to `key (m - 1)`, each of which has three states below `n` of one
-- rank. The state `i` of the graph is the triple `key i`. There is a move from one triple to another if there is a step
-- or a lift between them. Any other move leads back to its own triple.
pub record IsTripleGraph (next : ℕ → ℕ → List ℕ) (n : ℕ) (rank : ℕ → ℕ) (m : ℕ) (key : ℕ → Three) (moves : ℕ → ℕ → List ℕ) : Type 0 where
  pub inside : (i : ℕ) → i < m → ((key i).p < n) × ((key i).q < n) × ((key i).r < n)
  pub one_rank : (i : ℕ) → i < m → (rank (key i).q ≡ rank (key i).p) × (rank (key i).r ≡ rank (key i).p)
  pub steps : (i j : ℕ) → i < m → j < m → IsTripleStep next rank (key i) (key j) ⊎ IsLift (key i) (key j) → (l : ℕ) × Has j (moves i l)
  pub only : (i l j : ℕ) → i < m → Has j (moves i l) → (j < m) × (IsTripleStep next rank (key i) (key j) ⊎ (IsLift (key i) (key j) ⊎ (key j ≡ key i)))

-- Holds if every triple for which `holds` is true is one of the triples `key 0` to `key (m - 1)`, which are the states
-- `0` to `m - 1` of a graph of triples, and `number` gives each triple `key i` with `i` below `m` the number of the
-- part of the state `i` in the table `parts`. Other triples may have any number.
pub record AreNumbers (m : ℕ) (key : ℕ → Three) (parts : PartTable) (holds : ℕ → ℕ → ℕ → Bool) (number : ℕ → ℕ → ℕ → ℕ) : Type 0 where
  pub found : (p q r : ℕ) → IsTrue (holds p q r) → (i : ℕ) × (i < m) × ((key i).p ≡ p) × ((key i).q ≡ q) × ((key i).r ≡ r)
  pub parts_are : (i : ℕ) → i < m → number (key i).p (key i).q (key i).r ≡ number_of parts i
