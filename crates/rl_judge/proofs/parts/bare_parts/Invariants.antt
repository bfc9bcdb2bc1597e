-- The parts are those of the spans so far.
use Rattle.std.proofs.Common.{◌≡◌, map, take}
use Rattle.rl_judge.specs.Analysis.{bare_part}
use Rattle.rl_judge.proofs.parts.bare_parts.Given as goal

abbrev pub invariant-loop-span : goal.invariant-loop-span
invariant-loop-span l = l.parts ≡ map (bare_part l.literal) (take l.span-index l.spans)
