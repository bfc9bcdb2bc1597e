-- For the contracts of private functions: what the search for a fork finds in the product of two copies of the graph of
-- a component. A fork is two different moves of a state on one letter such that one word leads back to the state from
-- both targets. The program's `Fork` only names two moves of a state on a letter. The states of that graph are places
-- in a kernel, a list of the states of the component. In the product, the pair of the places `i` and `j` is the state
-- `i * m + j`, where `m` is the number of places. A part is a strongly connected component of the product.
use Rattle.std.specs.Prelude.{◌≡◌, ℕ, ◌+◌, ◌*◌, ◌<◌, true, List, length, slice_index, slice_index_or, Option, Some, None}
use Rattle.rl_graph.specs.Graph.{Graph, edges_of}
use Rattle.rl_graph.specs.Parts.{PartTable, number_of}
use Rattle.rl_kernel.specs.Members.{is_member}
use Rattle.rl_kernel.specs.Seats.{Seats, state_at}
use Rattle.rl_expo.specs.declared.forks.Fork.{Fork}

-- Holds if the states `x` and `y` are both in the kernel, and the pair of their places is in the part `own`. The states
-- are then said to meet in that part.
pub record Meets (s : Seats) (p : PartTable) (own x y : ℕ) : Type 0 where
  pub one : is_member s.states s.places x ≡ true
  pub other : is_member s.states s.places y ≡ true
  pub part : number_of p (slice_index s.places x * length s.states + slice_index s.places y) ≡ own

-- The part of the pair of the place `i` with itself.
abbrev pub own_part : Seats → PartTable → ℕ → ℕ
own_part s p i = number_of p (i * length s.states + i)

-- Holds if the two moves of `f` leave the state at some place, and their targets meet in the part of the pair of that
-- place with itself.
pub record IsMet (g : Graph) (s : Seats) (p : PartTable) (f : Fork) : Type 0 where
  pub place : ℕ
  pub place_in : place < length s.states
  pub state : f.state ≡ state_at s place
  pub meet : Meets s p (own_part s p place) (slice_index (edges_of g f.state f.letter) f.first) (slice_index (edges_of g f.state f.letter) f.second)

-- Holds if no two moves on the letter `l` of the state at the place `i` have targets that meet in the part of the pair
-- of that place with itself.
abbrev pub NoneMeets : Graph → Seats → PartTable → ℕ → ℕ → Type 0
NoneMeets g s p i l =
    (j k : ℕ) → j < k → k < length (edges_of g (state_at s i) l)
    → Meets s p (own_part s p i) (slice_index (edges_of g (state_at s i) l) j) (slice_index (edges_of g (state_at s i) l) k) → ⊥

-- Holds if `searched` has an entry for each letter, which is `None` or a place whose state has no two moves on the
-- letter with targets that meet in the part of the pair of that place with itself.
pub record AreSearched (g : Graph) (s : Seats) (p : PartTable) (searched : List (Option ℕ)) : Type 0 where
  pub size : length searched ≡ g.letters
  pub none : (l i : ℕ) → slice_index_or searched l None ≡ Some i → (i < length s.states) × NoneMeets g s p i l
