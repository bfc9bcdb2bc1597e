use Rattle.rl_degree.proofs.TableLaws.{IsMarkedUpTo}
use Rattle.rl_degree.proofs.moves.mark_moves.Given as goal

abbrev pub invariant-loop-place : goal.invariant-loop-place
invariant-loop-place l = IsMarkedUpTo l.g l.letter l.state l.place l.table
