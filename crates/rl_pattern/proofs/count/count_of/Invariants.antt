-- The remaining codes make of the part what the whole text spells.
use Rattle.std.proofs.Common.{◌≡◌, drop}
use Rattle.rl_pattern.specs.Codes.{least_of}
use Rattle.rl_pattern.specs.internal.Views.{part_rest}
use Rattle.rl_pattern.proofs.count.count_of.Given as goal

abbrev pub invariant-loop-code : goal.invariant-loop-code
invariant-loop-code l = part_rest l.part (drop l.code-index l.text) ≡ least_of 0 l.text
