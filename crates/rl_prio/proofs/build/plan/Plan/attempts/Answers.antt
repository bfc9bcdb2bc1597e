use Rattle.std.proofs.Common.{◌∙◌, arith}
use Rattle.rl_prio.proofs.PlanLemmas.{attempts_at-start, attempts_at-none, attempts_at-placed, attempts_at-read}
use Rattle.rl_prio.proofs.build.plan.Plan.attempts.Goals as goal

pub returns-then-state-eq0-clause-value : goal.returns-then-state-eq0-clause-value
returns-then-state-eq0-clause-value c = c.as_slice.ensures ∙ attempts_at-start c.args.self.now c.args.state c.if-state-eq0.true

pub returns-then-state-eq0-clause-placed : goal.returns-then-state-eq0-clause-placed
returns-then-state-eq0-clause-placed c = attempts_at-placed c.args.self.now c.args.state c.as_slice.result.now c.requires (returns-then-state-eq0-clause-value c)

pub returns-then-state-place_states-clause-value : goal.returns-then-state-place_states-clause-value
returns-then-state-place_states-clause-value c =
    c.as_slice-then-state-place_states.ensures
    ∙ attempts_at-read c.args.self.now c.args.state c.kinds.result c.place_states.result c.index.result.now c.index.result.now c.requires
    c.if-state-eq0.false c.place_states.ensures.value c.if-state-place_states.true c.kinds.ensures.value c.index.ensures

pub returns-then-state-place_states-clause-placed : goal.returns-then-state-place_states-clause-placed
returns-then-state-place_states-clause-placed c =
    attempts_at-placed c.args.self.now c.args.state c.as_slice-then-state-place_states.result.now c.requires (returns-then-state-place_states-clause-value c)

pub returns-else-state-place_states-clause-value : goal.returns-else-state-place_states-clause-value
returns-else-state-place_states-clause-value c =
    attempts_at-none c.args.self.now c.args.state (omega (arith, c.if-state-eq0.false)) (omega (arith, c.if-state-place_states.false, c.place_states.ensures.value))
