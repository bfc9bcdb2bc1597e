use Rattle.rl_trim.proofs.HolderLaws.{IsFilling}
use Rattle.rl_trim.proofs.holders.holders_of.Given as goal

abbrev pub invariant-loop-set : goal.invariant-loop-set
invariant-loop-set l = IsFilling l.a l.walk l.count l.set l.table
