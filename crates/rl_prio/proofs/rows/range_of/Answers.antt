use Rattle.rl_prio.proofs.RowsLemmas.{row_within}
use Rattle.rl_prio.proofs.rows.range_of.Goals as goal

pub returns-clause-in_order : goal.returns-clause-in_order
returns-clause-in_order c = rw c.start_of.ensures (row_within c.args.size 0 c.args.ends.now c.args.i c.requires.rise c.requires.in_ends).0

pub returns-clause-within : goal.returns-clause-within
returns-clause-within c = (row_within c.args.size 0 c.args.ends.now c.args.i c.requires.rise c.requires.in_ends).1
