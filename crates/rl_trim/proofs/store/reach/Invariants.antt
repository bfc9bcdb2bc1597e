use Rattle.std.proofs.Common.{length}
use Rattle.rl_trim.specs.Reached.{IsClosedTo}
use Rattle.rl_trim.proofs.store.reach.Given as goal

abbrev pub invariant-loop-set : goal.invariant-loop-set
invariant-loop-set l = IsClosedTo l.a l.walk l.set (length l.walk.sets)
