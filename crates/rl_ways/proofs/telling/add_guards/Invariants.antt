use Rattle.std.proofs.Common.{◌≡◌, ◌++◌, take}
use Rattle.rl_ways.proofs.telling.add_guards.Given as goal

abbrev pub invariant-loop-guard : goal.invariant-loop-guard
invariant-loop-guard l = l.list ≡ l.fn.list ++ take l.guard-index l.guards
