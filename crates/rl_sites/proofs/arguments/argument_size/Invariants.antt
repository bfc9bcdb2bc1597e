-- What is skipped and what is left are the whole.
use Rattle.std.proofs.Common.{◌≡◌, ◌≤◌, ◌+◌, length, false}
use Rattle.rl_sites.specs.internal.Walks.{IsTable, argument_size}
use Rattle.rl_sites.proofs.arguments.argument_size.Given as goal

abbrev pub invariant-loop-left : goal.invariant-loop-left
invariant-loop-left l = record {
  within : length l.left ≤ length l.rest;
  same : argument_size l.source 0 false l.rest + length l.left ≡ length l.rest + argument_size l.source 0 l.in_lambda l.left;
  table : IsTable l.source l.left l.sizes;
}

abbrev pub decreases-loop-left : goal.decreases-loop-left
decreases-loop-left l = length l.left
