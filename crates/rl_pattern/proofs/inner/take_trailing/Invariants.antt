-- The run so far, and the run that is left.
use Rattle.std.proofs.Common.{◌≡◌, map, reverse, length}
use Rattle.rl_pattern.specs.internal.Views.{node_of}
use Rattle.rl_pattern.specs.internal.Judged.{trail_at, both_trails, without_trailing}
use Rattle.rl_pattern.specs.Found.{trailing_run}
use Rattle.rl_pattern.proofs.inner.take_trailing.Given as goal

abbrev pub invariant-loop-last : goal.invariant-loop-last
invariant-loop-last l = record {
  last : l.last ≡ trail_at (reverse (map node_of l.items.items));
  rest : without_trailing (reverse (map node_of l.items.items)) ≡ without_trailing (reverse (map node_of l.fn.items.items));
  run : both_trails l.run (trailing_run (reverse (map node_of l.items.items))) ≡ trailing_run (reverse (map node_of l.fn.items.items));
}

abbrev pub decreases-loop-last : goal.decreases-loop-last
decreases-loop-last l = length l.items.items
