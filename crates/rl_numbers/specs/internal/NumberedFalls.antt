-- For the contracts of private functions: what the check of the numbers of triples requires. `at` looks up the number
-- of the triple of three states; it gives `None` if the list doesn't have the triple. A row lists the targets of the
-- moves of a state on a letter. A step of a triple is three moves on one letter, one from each of its states, to states
-- that have the rank of its first state.
use Rattle.std.specs.Prelude.{◌≡◌, ◌≢◌, ℕ, ◌<◌, ◌≤◌, IsTrue, List, Option, Some, is_some}
use Rattle.rl_graph.specs.Paths.{Has, Each, OnCycle}
use Rattle.rl_graph.specs.Graph.{Graph, edges_of}
use Rattle.rl_graph.specs.Parts.{PartTable, cycle_of}
use Rattle.rl_numbers.specs.declared.triple.Triple.{Triple}
use Rattle.rl_numbers.specs.Numbered.{IsLevel}

-- Holds if the list has the triple of `x`, `y` and `z`, with a number of at most `most`.
abbrev pub FallsTo : (ℕ → ℕ → ℕ → Option ℕ) → ℕ → ℕ → ℕ → ℕ → Type 0
FallsTo at most x y z = (k : ℕ) × (at x y z ≡ Some k) × (k ≤ most)

-- Holds if the list has the triple of `x`, `y` and each state of the rank `d` in the row, with numbers of at most
-- `most`.
abbrev pub LastsFall : (ℕ → ℕ → ℕ → Option ℕ) → (ℕ → ℕ) → ℕ → ℕ → ℕ → ℕ → List ℕ → Type 0
LastsFall at rank d most x y row = (z : ℕ) → Has z row → rank z ≡ d → FallsTo at most x y z

-- Holds if the list has the triple of `x`, each state of the rank `d` in `row` and each state of the rank `d` in
-- `last`, with numbers of at most `most`.
abbrev pub MiddlesFall : (ℕ → ℕ → ℕ → Option ℕ) → (ℕ → ℕ) → ℕ → ℕ → ℕ → List ℕ → List ℕ → Type 0
MiddlesFall at rank d most x row last = (y : ℕ) → Has y row → rank y ≡ d → LastsFall at rank d most x y last

-- Holds if the list has the triple of any three states of the rank `d`, one from each row in order, with numbers of at
-- most `most`.
abbrev pub FirstsFall : (ℕ → ℕ → ℕ → Option ℕ) → (ℕ → ℕ) → ℕ → ℕ → List ℕ → List ℕ → List ℕ → Type 0
FirstsFall at rank d most row middle last = (x : ℕ) → Has x row → rank x ≡ d → MiddlesFall at rank d most x middle last

-- Holds if any three moves of the states of the triple on one letter, to states of its rank, lead to a triple of the
-- list with a number that is no greater. The rank of a triple is the rank of its first state.
abbrev pub StepsFall : (ℕ → ℕ → List ℕ) → (ℕ → ℕ → ℕ → Option ℕ) → (ℕ → ℕ) → Triple → Type 0
StepsFall next at rank t = (letter : ℕ) → FirstsFall at rank (rank t.p) t.number (next t.p letter) (next t.q letter) (next t.r letter)

-- Holds if the triple isn't `(r, r, q)` with different `r` and `q`, the list doesn't have `(r, q, q)`, or `(r, q, q)`
-- has a greater number.
abbrev pub IsApart : (ℕ → ℕ → ℕ → Option ℕ) → Triple → Type 0
IsApart at t = t.p ≡ t.q → t.p ≢ t.r → (k : ℕ) → at t.p t.r t.r ≡ Some k → t.number < k

-- Holds if the list has `(r, r, q)` for all different states `r` and `q` below `n` that have the same rank and lie on
-- cycles.
abbrev pub HasSplitStarts : (ℕ → ℕ → List ℕ) → ℕ → (ℕ → ℕ → ℕ → Option ℕ) → (ℕ → ℕ) → Type 0
HasSplitStarts next n at rank = (r q : ℕ) → r < n → q < n → r ≢ q → rank r ≡ rank q → OnCycle next r → OnCycle next q → IsTrue (is_some (at r r q))

-- Holds if the triple passes the check: its states are below `n` and have the same rank, any three moves of its states
-- on one letter to states of that rank lead to a triple with a number that is no greater, and, if it is `(r, r, q)`
-- with different `r` and `q`, its number is less than the number of `(r, q, q)` if the list has that triple.
abbrev pub HoldsIn : (ℕ → ℕ → List ℕ) → ℕ → (ℕ → ℕ → ℕ → Option ℕ) → (ℕ → ℕ) → Triple → Type 0
HoldsIn next n at rank t = IsLevel n rank t × StepsFall next at rank t × IsApart at t

-- Holds if each triple of the list passes the check, and the list has `(r, r, q)` for all different states `r` and `q`
-- that have the same rank and that the table `p` marks as lying on cycles.
abbrev pub AllHold : Graph → PartTable → (ℕ → ℕ → ℕ → Option ℕ) → (ℕ → ℕ) → List Triple → Type 0
AllHold g p at rank l =
    Each (HoldsIn (edges_of g) g.states at rank) l × ((r q : ℕ) → r < g.states → q < g.states → r ≢ q → rank r ≡ rank q → IsTrue (cycle_of p r) → IsTrue (cycle_of p q) → IsTrue (is_some (at r r q)))
