use Rattle.std.proofs.Common.{◌≡◌}
use Rattle.std.proofs.Math.ListN.{drop}
use Rattle.rl_marks.specs.internal.Caps.{span_of_group}
use Rattle.rl_spans.proofs.differing.span_held.Given as goal

abbrev pub invariant-loop-span : goal.invariant-loop-span
invariant-loop-span l = span_of_group l.number (drop l.span-index l.held) ≡ span_of_group l.number l.held
