use Rattle.std.proofs.Common.{◌≡◌, ◌++◌, map, take}
use Rattle.rl_prio.specs.internal.GuardSets.{code_shown}
use Rattle.rl_prio.proofs.build.codes.add_shown.Given as goal

abbrev pub invariant-loop-code : goal.invariant-loop-code
invariant-loop-code l = l.list.items ≡ l.initial.list.items ++ map (code_shown l.kinds) (take l.code-index l.codes)
