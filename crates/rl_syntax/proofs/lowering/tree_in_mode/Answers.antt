use Rattle.std.proofs.Common.{◌≡◌, sym, IfOk}
use Rattle.rl_syntax.specs.Pattern.{body_of}
use Rattle.rl_syntax.specs.Tree.{tree_of}
use Rattle.rl_syntax.specs.Lowering.{lowered}
use Rattle.rl_syntax.proofs.lowering.tree_in_mode.Goals as goal

pub returns-in-Match : goal.returns-in-Match
returns-in-Match c =
    let e : IfOk c.lower_part-body.result (λ re. tree_of re ≡ lowered (body_of c.args.p.now)) = rw (sym c.body.ensures.same) c.lower_part-body.ensures in
    rw c.in-Match.is (rw (sym c.trailing.ensures) (c.with_trail.ensures _ e))

pub returns-in-Search : goal.returns-in-Search
returns-in-Search c =
    let e : IfOk c.lower_part-body.result (λ re. tree_of re ≡ lowered (body_of c.args.p.now)) = rw (sym c.body.ensures.same) c.lower_part-body.ensures in
    rw c.in-Search.is (rw (sym c.universe.ensures) (rw (sym c.leading.ensures) (rw (sym c.trailing-in-Search.ensures)
    (c.after_any.ensures _ (c.with_trail-trailed.ensures _ e)))))
