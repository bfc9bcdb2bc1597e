use Rattle.std.proofs.Common.{[], ◌∷◌, length, arith, length-append}
use Rattle.rl_prio.proofs.RowsLemmas.{RiseTo-grows, rows_of-put}
use Rattle.rl_prio.proofs.rows.RowTable.put.Goals as goal

pub invariant_of-self-2 : goal.invariant_of-self-2
invariant_of-self-2 c =
    rw c.in_ok-push.ensures.items (RiseTo-grows (length c.self.inside.targets.items) _ 0 c.self.inside.ends.items (omega (arith, length-append c.self.inside.targets.items (c.args.target ∷ []))) c.self.invariant)

pub returns-clause-put : goal.returns-clause-put
returns-clause-put c = rw (c.in_ok-push.ensures.items, ← c.self.view_is) (rows_of-put c.self.inside.ends.items c.self.inside.targets.items c.args.target c.self.invariant)
