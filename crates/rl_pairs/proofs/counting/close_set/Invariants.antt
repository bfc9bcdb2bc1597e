use Rattle.rl_pairs.proofs.CountingLaws.{IsClosing}
use Rattle.rl_pairs.proofs.counting.close_set.Given as goal

abbrev pub invariant-loop-letter : goal.invariant-loop-letter
invariant-loop-letter l = IsClosing l.a l.initial.walk l.walk l.set l.letter
