use Rattle.std.proofs.Common.{below_more}
use Rattle.rl_spans.proofs.checking.are_moves.Goals as goal

pub loop-letter-preserved : goal.loop-letter-preserved
loop-letter-preserved c = below_more _ _ c.loop-letter.invariant (c.in_ok-is_move.ensures c.if-not-branch.false)
