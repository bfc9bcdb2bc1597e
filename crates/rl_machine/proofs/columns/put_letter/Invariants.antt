use Rattle.rl_machine.specs.Columns.{StandBelow}
use Rattle.rl_machine.proofs.columns.put_letter.Given as goal

abbrev pub invariant-loop-state : goal.invariant-loop-state
invariant-loop-state l = StandBelow l.a l.cells l.into.items l.letter l.state
