use Rattle.std.proofs.Common.{sym}
use Rattle.rl_prio.proofs.RowsLemmas.{row_at}
use Rattle.rl_prio.proofs.rows.part.Goals as goal

pub returns : goal.returns
returns c =
    rw (c.range_of-start.ensures.start, c.range_of-start.ensures.end)
    (sym (row_at 0 c.args.ends.now c.args.targets.now c.args.i c.requires.in_ends))
