-- Whether it is among the spans so far, or those that are left.
use Rattle.std.proofs.Common.{◌≡◌, drop, ◌||◌}
use Rattle.rl_pattern.specs.Suggested.{among}
use Rattle.rl_rewrite.proofs.parts.among.Given as goal

abbrev pub invariant-loop-other : goal.invariant-loop-other
invariant-loop-other l = (l.found || among (drop l.other-index l.spans) l.span) ≡ among l.spans l.span
