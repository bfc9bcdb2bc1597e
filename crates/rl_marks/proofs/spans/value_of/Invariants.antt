use Rattle.std.proofs.Common.{◌≡◌}
use Rattle.std.proofs.Math.ListN.{drop}
use Rattle.rl_marks.specs.Finds.{group, group_after}
use Rattle.rl_marks.proofs.spans.value_of.Given as goal

abbrev pub invariant-loop-span : goal.invariant-loop-span
invariant-loop-span l = group_after l.number l.known (drop l.span-index l.spans) ≡ group l.number l.spans
