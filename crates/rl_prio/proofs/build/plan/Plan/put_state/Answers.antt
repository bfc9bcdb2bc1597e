use Rattle.std.proofs.Common.{sym, ◌∙◌}
use Rattle.std.proofs.lemmas.Result.{on_ok_weaker}
use Rattle.rl_prio.proofs.PlanLemmas.{unguarded_state}
use Rattle.rl_prio.proofs.build.plan.Plan.put_state.Goals as goal

pub returns-then-are_unguarded : goal.returns-then-are_unguarded
returns-then-are_unguarded c =
    on_ok_weaker c.put_unguarded.result
    (unguarded_state c.args.self.now c.args.state c.attempts-attempts.result.now c.args.rows.now c.put_unguarded.new.rows
    c.attempts-attempts.ensures.value (sym c.are_unguarded.ensures ∙ c.if-are_unguarded.true))
    c.put_unguarded.ensures
