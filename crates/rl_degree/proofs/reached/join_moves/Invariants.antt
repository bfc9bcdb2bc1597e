use Rattle.std.proofs.Common.{◌≡◌, ℕ, ◌<◌, [], length, get_or}
use Rattle.rl_lanes.specs.Rows.{IsSubset}
use Rattle.rl_graph.specs.Paths.{Has}
use Rattle.rl_graph.specs.Graph.{edges_of}
use Rattle.rl_graph.specs.Parts.{number_of}
use Rattle.rl_degree.proofs.reached.join_moves.Given as goal

abbrev pub invariant-loop-letter : goal.invariant-loop-letter
invariant-loop-letter l = record {
  len : length l.row ≡ length l.fn.row;
  grows : IsSubset l.fn.row l.row;
  joined : (k : ℕ) → k < l.letter → (m : ℕ) → Has m (edges_of l.g l.state k) → number_of l.components m < length l.rows → IsSubset (get_or l.rows (number_of l.components m) []) l.row;
}
