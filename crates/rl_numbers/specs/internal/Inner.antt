-- For the contracts of private functions: the graph of the moves that stay within a part (here a rank), while it is
-- being built. The table `p` has the part number of each state.
use Rattle.std.specs.Prelude.{◌≡◌, ◌≢◌, ℕ, ◌<◌, ◌≤◌, ◌↔◌, ◌⊎◌, []}
use Rattle.rl_graph.specs.Paths.{Has, Pairs}
use Rattle.rl_graph.specs.Graph.{Graph, edges_of, IsAdded}
use Rattle.rl_graph.specs.Parts.{PartTable, number_of}

-- Holds if the state `q` has a move on the letter `l` to `m`, and both states are in the same part.
abbrev pub IsKept : Graph → PartTable → ℕ → ℕ → ℕ → Type 0
IsKept g p q l m = Has m (edges_of g q l) × (number_of p m ≡ number_of p q)

-- Holds if `new` has one more move than `old`, on `letter` from the state `from` to the state `to`, which `old` doesn't
-- have, or if `old` has such a move and `new` is `old`.
abbrev pub IsAddedOnce : Graph → Graph → ℕ → ℕ → ℕ → Type 0
IsAddedOnce old new from letter to =
    (IsAdded old new from letter to × (Has to (edges_of old from letter) → ⊥)) ⊎ (Has to (edges_of old from letter) × (new ≡ old))

-- Holds if `h` has a move from one state to another on a letter if and only if `g` has such a move and both states are
-- in the same part. `h` has no parallel moves.
pub record IsInner (g : Graph) (p : PartTable) (h : Graph) : Type 0 where
  pub same_states : h.states ≡ g.states
  pub same_letters : h.letters ≡ g.letters
  pub kept : (q l m : ℕ) → Has m (edges_of h q l) ↔ IsKept g p q l m
  pub once : (q l : ℕ) → Pairs (λ x y. x ≢ y) (edges_of h q l)

-- Holds if the state `q` and the letter `l` come before the state `state` and the letter `letter`: the order is by
-- state, then by letter.
abbrev pub Before : ℕ → ℕ → ℕ → ℕ → Type 0
Before state letter q l = (q < state) ⊎ ((q ≡ state) × (l < letter))

-- Holds if `h` has only moves of `g` that stay within a part, and has all of them, except perhaps parallel moves, from
-- the states and letters before the state `state` and the letter `letter`. `h` has no parallel moves.
pub record IsInnerUpTo (g : Graph) (p : PartTable) (state letter : ℕ) (h : Graph) : Type 0 where
  pub same_states : h.states ≡ g.states
  pub same_letters : h.letters ≡ g.letters
  pub kept : (q l m : ℕ) → Has m (edges_of h q l) → IsKept g p q l m
  pub all : (q l m : ℕ) → Before state letter q l → IsKept g p q l m → Has m (edges_of h q l)
  pub once : (q l : ℕ) → Pairs (λ x y. x ≢ y) (edges_of h q l)

-- Holds if `h` has no moves of the state `state` on the letter `letter` or a greater one, and none of any greater
-- state.
abbrev pub IsBareFrom : ℕ → ℕ → Graph → Type 0
IsBareFrom state letter h = (q l : ℕ) → (state < q) ⊎ ((q ≡ state) × (letter ≤ l)) → edges_of h q l ≡ []
