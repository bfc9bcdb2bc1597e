use Rattle.std.proofs.Common.{◌<◌, length, sym, subst}
use Rattle.rl_prio.specs.internal.Rows.{Rows}
use Rattle.rl_prio.proofs.RowsLemmas.{length-rows_from}
use Rattle.rl_prio.proofs.rows.RowTable.row.Goals as goal

pub part-requires-clause-in_ends : goal.part-requires-clause-in_ends
part-requires-clause-in_ends c =
    rw (c.deref-2.ensures.value, ← length-rows_from 0 c.self.inside.ends.items c.self.inside.targets.items)
    (let P : Rows → Type 0 = λ r. c.args.i < length r.rows in subst P (sym c.self.view_is) c.requires)
