use Rattle.std.proofs.Common.{◌+◌, ap, sym, ◌∙◌}
use Rattle.rl_prio.proofs.PlanLemmas.{end_goes-hit, end_goes-miss}
use Rattle.rl_prio.proofs.build.plan.Plan.end_target.Goals as goal

pub returns-then-may_end : goal.returns-then-may_end
returns-then-may_end c =
    ap (λ n. n + 1) c.place_states.ensures.value
    ∙ end_goes-hit c.args.self.now c.args.letter (sym c.may_end.ensures ∙ c.if-may_end.true)

pub returns-else-may_end : goal.returns-else-may_end
returns-else-may_end c =
    ap (λ n. n + 2) c.place_states-else-may_end.ensures.value
    ∙ end_goes-miss c.args.self.now c.args.letter (sym c.may_end.ensures ∙ c.if-may_end.false)
