-- The arguments so far are skipped.
use Rattle.std.proofs.Common.{◌≡◌}
use Rattle.std.specs.Prelude.{slice_get}
use Rattle.rl_sites.specs.Arguments.{arguments_of}
use Rattle.rl_sites.specs.internal.Walks.{IsTable}
use Rattle.rl_sites.proofs.arguments.argument_at.Given as goal

abbrev pub invariant-loop-left : goal.invariant-loop-left
invariant-loop-left l = record {
  same : slice_get (arguments_of l.source l.arguments) l.place ≡ slice_get (arguments_of l.source l.rest) l.left;
  table : IsTable l.source l.rest l.sizes;
}

abbrev pub decreases-loop-left : goal.decreases-loop-left
decreases-loop-left l = l.left
