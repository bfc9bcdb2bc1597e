use Rattle.std.proofs.Common.{◌-◌, ◌≤◌, length}
use Rattle.rl_pairs.proofs.CountingLaws.{IsClosing}
use Rattle.rl_pairs.proofs.counting.close.Given as goal

abbrev pub invariant-loop-set : goal.invariant-loop-set
invariant-loop-set l = record { closing : IsClosing l.a l.initial.walk l.walk l.set 0; within : l.set ≤ length l.walk.sets }

abbrev pub decreases-loop-set : goal.decreases-loop-set
decreases-loop-set l = 20000 - l.set
