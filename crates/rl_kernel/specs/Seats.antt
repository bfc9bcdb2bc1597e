-- Kernels: lists of states of a graph with their places. The place of a state is its index in the list, from 0. A
-- component is a strongly connected component of the graph, and `p` has the number of the component of each state of
-- the graph.
use Rattle.std.specs.Prelude.{◌≡◌, ℕ, ◌<◌, ◌≤◌, Bool, true, List, [], ◌∷◌, ◌++◌, length, slice_index, slice_set}
use Rattle.rl_graph.specs.Parts.{PartTable, number_of}
use Rattle.rl_kernel.specs.Members.{is_member}
use Rattle.rl_kernel.specs.declared.kernel.Kernel.{Kernel}

-- A list of states of a graph (`states`), the number of the component of each of them (`levels`), and, for each state
-- of the graph, its place in the list (`places`). The entry of a state that isn't in the list has no meaning.
pub record Seats : Type 0 where
  pub states : List ℕ
  pub levels : List ℕ
  pub places : List ℕ

-- The three lists of the program's `Kernel`.
abbrev pub seats_of : Kernel → Seats
seats_of k = record { states = k.states.items; levels = k.levels.items; places = k.places.items }

-- The state at the place `i` of the list, or 0 if there is none.
abbrev pub state_at : Seats → ℕ → ℕ
state_at s i = slice_index s.states i

-- The list `s` with the state `q` appended, whose component has the number `level`.
abbrev pub with_seat : ℕ → ℕ → Seats → Seats
with_seat q level s =
    record {
      states = s.states ++ q ∷ [];
      levels = s.levels ++ level ∷ [];
      places = slice_set s.places q (length s.states);
    }

-- Holds if the list has no states, and there are `count` entries for places.
pub record IsBareSeats (count : ℕ) (s : Seats) : Type 0 where
  pub states : s.states ≡ []
  pub levels : s.levels ≡ []
  pub size : length s.places ≡ count

-- Holds if the list has only states below `end`, each at most once, with their right places and component numbers, and
-- there are `n` entries for places, one for each state of the graph.
pub record AreSeats (p : PartTable) (n end : ℕ) (s : Seats) : Type 0 where
  pub size : length s.places ≡ n
  pub short : length s.states ≤ end
  pub same_length : length s.levels ≡ length s.states
  pub below : (i : ℕ) → i < length s.states → state_at s i < end
  pub place : (i : ℕ) → i < length s.states → slice_index s.places (state_at s i) ≡ i
  pub level : (i : ℕ) → i < length s.states → slice_index s.levels i ≡ number_of p (state_at s i)

-- Holds if the list has each state below `end` for which `test` is true, and all its states are below `end` and have
-- their right places and component numbers. It may have states for which `test` is false. There are `n` entries for
-- places, one for each state of the graph.
pub record HoldsUpTo (test : ℕ → Bool) (p : PartTable) (n end : ℕ) (s : Seats) : Type 0 where
  pub seats : AreSeats p n end s
  pub held : (q : ℕ) → q < end → test q ≡ true → is_member s.states s.places q ≡ true
