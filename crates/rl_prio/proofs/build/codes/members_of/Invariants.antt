use Rattle.std.proofs.Common.{◌≡◌, map, take}
use Rattle.rl_ranges.specs.Codes.{has}
use Rattle.rl_prio.proofs.build.codes.members_of.Given as goal

abbrev pub invariant-loop-code : goal.invariant-loop-code
invariant-loop-code l = l.list.items ≡ map (has l.set) (take l.code-index l.codes)
