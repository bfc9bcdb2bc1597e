use Rattle.rl_degree.specs.internal.Moves.{IsMoveTableUpTo}
use Rattle.rl_degree.proofs.moves.move_table.Given as goal

abbrev pub invariant-loop-state : goal.invariant-loop-state
invariant-loop-state l = IsMoveTableUpTo l.g l.letter l.state l.table
