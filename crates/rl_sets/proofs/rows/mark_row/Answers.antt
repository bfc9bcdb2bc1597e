use Rattle.std.proofs.Common.{refl}
use Rattle.rl_sets.proofs.RowLemmas.{IsMarking-more}
use Rattle.rl_sets.proofs.rows.mark_row.Goals as goal

pub loop-q-preserved : goal.loop-q-preserved
loop-q-preserved c =
    IsMarking-more c.args.table.now c.loop-q.table c.set.new.self c.args.at c.loop-q.q-index _ c.args.states.now c.requires.row_in c.loop-q-test.true refl c.loop-q.invariant c.set.ensures
