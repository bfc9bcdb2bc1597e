-- Without the run, what is left is the same as before.
use Rattle.std.proofs.Common.{◌≡◌, map, reverse, length}
use Rattle.rl_pattern.specs.internal.Views.{node_of}
use Rattle.rl_pattern.specs.internal.Judged.{without_leading}
use Rattle.rl_pattern.proofs.inner.take_from_back.Given as goal

abbrev pub invariant-loop-items : goal.invariant-loop-items
invariant-loop-items l = without_leading (reverse (map node_of l.items.items)) ≡ without_leading (reverse (map node_of l.fn.items.items))

abbrev pub decreases-loop-items : goal.decreases-loop-items
decreases-loop-items l = length l.items.items
