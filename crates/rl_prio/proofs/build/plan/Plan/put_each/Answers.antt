use Rattle.std.proofs.Common.{◌++◌, ap, ◌∙◌}
use Rattle.std.proofs.lemmas.List.{take_all}
use Rattle.rl_prio.specs.internal.Plans.{move_of, moves_of}
use Rattle.rl_prio.specs.internal.Rows.{Rows}
use Rattle.rl_prio.proofs.PlanLemmas.{moves_more}
use Rattle.rl_prio.proofs.build.plan.Plan.put_each.Goals as goal

pub loop-attempt-preserved : goal.loop-attempt-preserved
loop-attempt-preserved c =
    moves_more (move_of c.args.self.now c.args.held c.args.letter) c.args.rows.now c.loop-attempt.rows c.put_move.new.rows c.args.attempts.now c.loop-attempt.attempt-index _
    c.loop-attempt-test.true c.loop-attempt.invariant c.in_ok-put_move.ensures

pub returns : goal.returns
returns c =
    c.loop-attempt.invariant
    ∙ ap (λ l. let r : Rows = record c.args.rows.now { open_row = c.args.rows.now.open_row ++ moves_of c.args.self.now c.args.held c.args.letter l } in r)
    (take_all c.loop-attempt.attempt-index c.args.attempts.now c.loop-attempt-test.false)
