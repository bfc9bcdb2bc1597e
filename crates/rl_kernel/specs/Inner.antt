-- The inner moves of a kernel as a graph. A kernel is a list of states of a graph, and the place of a state is its
-- index in the list, from 0. The inner moves are the moves between states of the list that stay within a strongly
-- connected component. The states of the graph of the inner moves are the places in the kernel. `p` has the number of
-- the component of each state of the graph `g`.
use Rattle.std.specs.Prelude.{◌≡◌, ℕ, ◌<◌, ◌↔◌, length}
use Rattle.rl_graph.specs.Paths.{Has}
use Rattle.rl_graph.specs.Graph.{Graph, edges_of}
use Rattle.rl_graph.specs.Parts.{PartTable, number_of}
use Rattle.rl_kernel.specs.Seats.{Seats, state_at}

-- Holds if there is an inner move from the place `i` to the place `j` on the letter `l`: both are places in the kernel,
-- `g` has such a move between the states there, and both states are in the same component.
pub record IsKept (g : Graph) (p : PartTable) (s : Seats) (i l j : ℕ) : Type 0 where
  pub from_in : i < length s.states
  pub to_in : j < length s.states
  pub move : Has (state_at s j) (edges_of g (state_at s i) l)
  pub same : number_of p (state_at s j) ≡ number_of p (state_at s i)

-- Holds if `h` is the graph of the inner moves: its states are the places in the kernel, its letters are the letters of
-- `g`, and it has a move from one place to another on a letter if and only if there is such an inner move. The number of
-- parallel moves can differ.
pub record IsInner (g : Graph) (p : PartTable) (s : Seats) (h : Graph) : Type 0 where
  pub same_states : h.states ≡ length s.states
  pub same_letters : h.letters ≡ g.letters
  pub kept : (i l j : ℕ) → Has j (edges_of h i l) ↔ IsKept g p s i l j
