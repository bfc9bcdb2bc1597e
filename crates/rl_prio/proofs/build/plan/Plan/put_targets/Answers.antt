use Rattle.std.proofs.Common.{◌++◌, map, ap, ◌∙◌}
use Rattle.std.proofs.lemmas.List.{take_all}
use Rattle.rl_prio.specs.internal.Plans.{target_of}
use Rattle.rl_prio.specs.internal.Rows.{Rows}
use Rattle.rl_prio.proofs.PlanLemmas.{target_more}
use Rattle.rl_prio.proofs.build.plan.Plan.put_targets.Goals as goal

pub loop-attempt-preserved : goal.loop-attempt-preserved
loop-attempt-preserved c =
    target_more (target_of c.args.self.now c.args.letter) c.args.rows.now c.loop-attempt.rows c.put.new.self c.args.attempts.now c.loop-attempt.attempt-index _ c.target.result
    c.loop-attempt-test.true c.loop-attempt.invariant c.target.ensures c.in_ok-put.ensures.put

pub returns : goal.returns
returns c =
    c.loop-attempt.invariant
    ∙ ap (λ l. let r : Rows = record c.args.rows.now { open_row = c.args.rows.now.open_row ++ map (target_of c.args.self.now c.args.letter) l } in r)
    (take_all c.loop-attempt.attempt-index c.args.attempts.now c.loop-attempt-test.false)
