use Rattle.std.proofs.Common.{◌∙◌, arith}
use Rattle.rl_sets.proofs.SplitLemmas.{IsSquare-marked}
use Rattle.rl_sets.proofs.split.add_targets.Goals as goal

pub loop-q-preserved : goal.loop-q-preserved
loop-q-preserved c = record {
  square = IsSquare-marked c.args.a.now.states c.loop-q.q c.loop-q.targets c.mark_row.new.table c.moves-moves.result.now (omega (arith, c.states-q-end.ensures.count)) c.loop-q.invariant.square c.mark_row.ensures;
  entered = c.mark.ensures.len ∙ c.loop-q.invariant.entered;
}
