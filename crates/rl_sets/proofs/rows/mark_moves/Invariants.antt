use Rattle.std.proofs.Common.{◌-◌, length}
use Rattle.rl_sets.proofs.RowLemmas.{IsMarkingMoves}
use Rattle.rl_sets.proofs.rows.mark_moves.Given as goal

abbrev pub invariant-loop-state : goal.invariant-loop-state
invariant-loop-state l = IsMarkingMoves l.a l.letter l.set l.initial.row l.row l.from

abbrev pub decreases-loop-state : goal.decreases-loop-state
decreases-loop-state l = length l.set - l.from
