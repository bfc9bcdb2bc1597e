-- For the contracts of private functions: the graph of the inner moves of a kernel while it is being built. A kernel is
-- a list of states of a graph, and the place of a state is its index in the list, from 0. The inner moves are the moves
-- between states of the list that stay within a strongly connected component. The states of the graph of the inner
-- moves are the places in the kernel.
use Rattle.std.specs.Prelude.{◌≡◌, ℕ, ◌<◌, ◌≤◌, ◌⊎◌, [], length}
use Rattle.rl_graph.specs.Paths.{Has}
use Rattle.rl_graph.specs.Graph.{Graph, edges_of}
use Rattle.rl_graph.specs.Parts.{PartTable}
use Rattle.rl_kernel.specs.Seats.{Seats}
use Rattle.rl_kernel.specs.Inner.{IsKept}

-- Holds if the place `i` and the letter `l` come before the place `place` and the letter `letter`: the order is by
-- place, then by letter.
abbrev pub Before : ℕ → ℕ → ℕ → ℕ → Type 0
Before place letter i l = (i < place) ⊎ ((i ≡ place) × (l < letter))

-- Holds if `h` has only inner moves, and all of them from the places and letters before the place `place` and the
-- letter `letter`, except perhaps parallel moves.
pub record IsInnerUpTo (g : Graph) (p : PartTable) (s : Seats) (place letter : ℕ) (h : Graph) : Type 0 where
  pub same_states : h.states ≡ length s.states
  pub same_letters : h.letters ≡ g.letters
  pub kept : (i l j : ℕ) → Has j (edges_of h i l) → IsKept g p s i l j
  pub all : (i l j : ℕ) → Before place letter i l → IsKept g p s i l j → Has j (edges_of h i l)

-- Holds if `h` has no moves of the place `place` on the letter `letter` or a greater one, and none of any greater
-- place.
abbrev pub IsBareFrom : ℕ → ℕ → Graph → Type 0
IsBareFrom place letter h = (i l : ℕ) → (place < i) ⊎ ((i ≡ place) × (letter ≤ l)) → edges_of h i l ≡ []
