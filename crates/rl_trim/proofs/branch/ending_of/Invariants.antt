use Rattle.rl_trim.specs.Endings.{state_ends}
use Rattle.rl_trim.proofs.RowLaws.{IsFilled}
use Rattle.rl_trim.proofs.branch.ending_of.Given as goal

abbrev pub invariant-loop-state : goal.invariant-loop-state
invariant-loop-state l = IsFilled (state_ends l.a) l.states l.state l.ending
