use Rattle.std.proofs.Common.{◌-◌, length}
use Rattle.rl_sets.specs.internal.Moves.{MoveAlike}
use Rattle.rl_sets.proofs.rows.move_alike.Given as goal

abbrev pub invariant-loop-state : goal.invariant-loop-state
invariant-loop-state l = MoveAlike l.a l.set l.from (l.letter - 1) l.letter

abbrev pub decreases-loop-state : goal.decreases-loop-state
decreases-loop-state l = length l.set - l.from
