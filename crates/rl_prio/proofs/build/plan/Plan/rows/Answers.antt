use Rattle.std.proofs.Common.{ap, arith}
use Rattle.rl_prio.specs.internal.Rows.{Rows}
use Rattle.rl_prio.proofs.PlanLemmas.{rows-all}
use Rattle.rl_prio.proofs.build.plan.Plan.rows.Goals as goal

pub returns : goal.returns
returns c =
    rows-all c.args.self.now c.loop-state.rows.rows c.loop-state.state (omega (arith, c.loop-state-test.false, c.states-states.ensures.value))
    (ap (λ (r : Rows). r.rows) c.loop-state.invariant)
