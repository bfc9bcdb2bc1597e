use Rattle.rl_trim.proofs.ClosingLaws.{IsExpanding}
use Rattle.rl_trim.proofs.store.expand.Given as goal

abbrev pub invariant-loop-letter : goal.invariant-loop-letter
invariant-loop-letter l = IsExpanding l.a l.walk l.set l.letter
