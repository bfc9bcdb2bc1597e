use Rattle.std.proofs.Common.{◌≡◌, map, take}
use Rattle.rl_ranges.specs.Letters.{letter_at}
use Rattle.rl_prio.proofs.build.codes.kinds_of.Given as goal

abbrev pub invariant-loop-code : goal.invariant-loop-code
invariant-loop-code l = l.list.items ≡ map (letter_at l.kinds) (take l.code-index l.codes)
