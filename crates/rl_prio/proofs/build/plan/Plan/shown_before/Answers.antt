use Rattle.rl_prio.proofs.PlanLemmas.{before_at-first, before_at-read}
use Rattle.rl_prio.proofs.build.plan.Plan.shown_before.Goals as goal

pub returns-then-state-eq0 : goal.returns-then-state-eq0
returns-then-state-eq0 c =
    before_at-first c.args.self.now c.args.state c.index.result.now c.index.result.now c.requires c.if-state-eq0.true c.index.ensures

pub returns-else-state-eq0 : goal.returns-else-state-eq0
returns-else-state-eq0 c =
    before_at-read c.args.self.now c.args.state c.kinds.result c.index-else-state-eq0.result.now c.index-else-state-eq0.result.now c.requires
    c.if-state-eq0.false c.kinds.ensures.value c.index-else-state-eq0.ensures
