use Rattle.std.proofs.Common.{arith, ◌<◌, length}
use Rattle.rl_source.proofs.Seen.{Seen-turn, Seen-met}
use Rattle.rl_source.proofs.doubles.names_repeat.Goals as goal

pub returns-then-not-branch : goal.returns-then-not-branch
returns-then-not-branch c =
    let within : c.loop-child.child-index < length c.args.children.now = omega arith in
    Seen-met (λ x. x.name) _ _ _ _ c.as_str.result _ within c.child-item.is c.as_str.ensures c.loop-child.invariant c.in_ok-insert.ensures.added c.if-not-branch.true

pub loop-child-preserved : goal.loop-child-preserved
loop-child-preserved c =
    let within : c.loop-child.child-index < length c.args.children.now = omega arith in
    Seen-turn (λ x. x.name) _ _ _ _ _ c.as_str.result _ within c.child-item.is c.as_str.ensures c.loop-child.invariant c.in_ok-insert.ensures.added c.if-not-branch.false c.in_ok-insert.ensures.updates
