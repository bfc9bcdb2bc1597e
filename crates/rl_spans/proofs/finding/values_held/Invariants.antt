use Rattle.std.proofs.Common.{◌≡◌}
use Rattle.rl_spans.specs.internal.HeldSights.{held_values}
use Rattle.rl_spans.proofs.finding.values_held.Given as goal

abbrev pub invariant-loop-index : goal.invariant-loop-index
invariant-loop-index l = l.values ≡ held_values l.index l.held
