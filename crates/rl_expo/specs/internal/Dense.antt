-- For the contracts of private functions: the marks in the short search for a fork, that is, for two moves of a state
-- whose targets have moves on one letter to the same state. A mark on a state is two moves that lead there: a move of
-- the mark's `state` on `letter` with the number `number`, then a move on `via`. `p` has the number of each state's
-- component. A component is a strongly connected component of the graph.
use Rattle.std.specs.Prelude.{◌≡◌, ℕ, ◌<◌, List, length, slice_index, slice_index_or, Option, Some, None}
use Rattle.rl_graph.specs.Paths.{Has}
use Rattle.rl_graph.specs.Graph.{Graph, edges_of}
use Rattle.rl_graph.specs.Parts.{PartTable, number_of}
use Rattle.rl_expo.specs.declared.dense.Mark.{Mark}

-- Holds if the mark `k` is right for the state `r`: the move of the mark, followed by a move on the letter `via`, leads
-- to `r`, which is in the component of the mark's state.
pub record IsMark (g : Graph) (p : PartTable) (r : ℕ) (k : Mark) : Type 0 where
  pub target_in : r < g.states
  pub state_in : k.state < g.states
  pub letter_in : k.letter < g.letters
  pub number_in : k.number < length (edges_of g k.state k.letter)
  pub move : Has r (edges_of g (slice_index (edges_of g k.state k.letter) k.number) k.via)
  pub same : number_of p r ≡ number_of p k.state

-- Holds if `marks` has an entry for each state, and every mark in it is right for its state.
pub record AreMarks (g : Graph) (p : PartTable) (marks : List (Option Mark)) : Type 0 where
  pub size : length marks ≡ g.states
  pub right : (r : ℕ) (k : Mark) → slice_index_or marks r None ≡ Some k → IsMark g p r k

-- Holds if the state `r` has a mark (`old`) with the same state and letters as `new`, and its move has the number `i`,
-- which is less than the number of the move of `new`.
pub record IsEarlier (marks : List (Option Mark)) (r : ℕ) (new : Mark) (i : ℕ) : Type 0 where
  pub old : Mark
  pub there : slice_index_or marks r None ≡ Some old
  pub state : old.state ≡ new.state
  pub letter : old.letter ≡ new.letter
  pub via : old.via ≡ new.via
  pub number : old.number ≡ i
  pub order : i < new.number
