use Rattle.std.proofs.Common.{◌≡◌, ℕ, ◌<◌, [], length, get_or}
use Rattle.rl_lanes.specs.Rows.{IsSubset}
use Rattle.rl_graph.specs.Parts.{number_of}
use Rattle.rl_degree.proofs.reached.join_targets.Given as goal

abbrev pub invariant-loop-place : goal.invariant-loop-place
invariant-loop-place l = record {
  len : length l.row ≡ length l.fn.row;
  grows : IsSubset l.fn.row l.row;
  joined : (i : ℕ) → i < l.place → number_of l.components (get_or l.targets i 0) < length l.rows → IsSubset (get_or l.rows (number_of l.components (get_or l.targets i 0)) []) l.row;
}
