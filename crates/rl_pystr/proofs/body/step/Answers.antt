-- A unit is read.
use Rattle.std.proofs.Common.{◌∙◌, ap, ◌-◌}
use Rattle.rl_pystr.proofs.Bodies.{step_done}
use Rattle.rl_pystr.proofs.body.step.Goals as goal

pub returns-clause-ok : goal.returns-clause-ok
returns-clause-ok c =
    step_done c.args.raw c.args.bytes c.args.place c.args.skip c.saturating_sub.result c.args.body.now c.args.out.now c.push_given.new.out c.unit-gives.result
    c.if-skip-gt0.false c.requires.some c.unit-gives.ensures c.in_ok-push_given.ensures.ok
    (c.saturating_sub.ensures ∙ ap (λ n. n - 1) c.size_of.ensures)
