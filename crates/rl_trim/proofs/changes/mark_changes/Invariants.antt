use Rattle.rl_trim.proofs.ChangeLaws.{IsMarking}
use Rattle.rl_trim.proofs.changes.mark_changes.Given as goal

abbrev pub invariant-loop-letter : goal.invariant-loop-letter
invariant-loop-letter l = IsMarking l.a l.state l.letter l.rows
