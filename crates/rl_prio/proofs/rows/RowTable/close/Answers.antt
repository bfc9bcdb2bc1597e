use Rattle.std.proofs.Common.{length}
use Rattle.rl_prio.proofs.RowsLemmas.{RiseTo-close, rows_of-close}
use Rattle.rl_prio.proofs.rows.RowTable.close.Goals as goal

pub invariant_of-self-2 : goal.invariant_of-self-2
invariant_of-self-2 c =
    rw (c.in_ok-push.ensures.items, c.len-end.ensures, c.self.inside.targets.ok.0)
    (RiseTo-close (length c.self.inside.targets.items) 0 c.self.inside.ends.items c.self.invariant)

pub returns-clause-closed : goal.returns-clause-closed
returns-clause-closed c =
    rw (c.in_ok-push.ensures.items, c.len-end.ensures, ← c.self.view_is, c.self.inside.targets.ok.0)
    (rows_of-close c.self.inside.ends.items c.self.inside.targets.items c.self.invariant)
