-- The least closed list of triples, and what it means that it has more than a certain number of triples. A graph is
-- given by the function `next` from a state and a letter to the list of the targets of its moves, and `rank` gives each
-- state its rank. The starts are the triples `(r, r, q)` of different states that have the same rank and lie on cycles.
-- A step of a triple is three moves on one letter, one from each of its states, to states that have the rank of its
-- first state. A list is closed if it has all starts and every triple to which a step of its triples leads. The least
-- closed list has exactly the triples that are reached from the starts by steps.
use Rattle.std.specs.Prelude.{◌≡◌, ◌≢◌, ℕ, suc, ◌<◌, List, length}
use Rattle.rl_graph.specs.Paths.{Has, Each, Pairs, OnCycle}
use Rattle.rl_numbers.specs.Closed.{Three, IsTripleStep}

-- The triples of the least closed list: `start` says that it has each start `(r, r, q)` with `r` and `q` below `n`, and
-- `step` that it has each triple to which a step of one of its triples leads.
pub data LeastTriple (next : ℕ → ℕ → List ℕ) (n : ℕ) (rank : ℕ → ℕ) : Three → Type 0 where
  start : (r q : ℕ) → r < n → q < n → r ≢ q → rank r ≡ rank q → OnCycle next r → OnCycle next q → LeastTriple next n rank (record { p = r; q = r; r = q })
  step : {s t : Three} → LeastTriple next n rank s → IsTripleStep next rank s t → LeastTriple next n rank t

-- Holds if the list has exactly the triples of the least closed list, each once.
pub record IsLeastList (next : ℕ → ℕ → List ℕ) (n : ℕ) (rank : ℕ → ℕ) (keys : List Three) : Type 0 where
  pub once : Pairs (λ s t. s ≢ t) keys
  pub sound : Each (LeastTriple next n rank) keys
  pub whole : (t : Three) → LeastTriple next n rank t → Has t keys

-- Holds if there are more than `m` different triples for which `P` holds.
abbrev pub AreMoreThan : ℕ → (Three → Type 0) → Type 0
AreMoreThan m P = (keys : List Three) × Pairs (λ s t. s ≢ t) keys × Each P keys × (length keys ≡ suc m)
