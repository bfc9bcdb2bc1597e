use Rattle.std.proofs.Common.{arith, ◌<◌, length}
use Rattle.rl_source.proofs.Seen.{Seen-turn, Seen-met}
use Rattle.rl_source.proofs.doubles.paths_repeat.Goals as goal

pub returns-then-not-branch : goal.returns-then-not-branch
returns-then-not-branch c =
    let within : c.loop-node.node-index < length c.args.nodes.now = omega arith in
    Seen-met (λ x. x.path) _ _ _ _ c.as_str.result _ within c.node-item.is c.as_str.ensures c.loop-node.invariant c.in_ok-insert.ensures.added c.if-not-branch.true

pub loop-node-preserved : goal.loop-node-preserved
loop-node-preserved c =
    let within : c.loop-node.node-index < length c.args.nodes.now = omega arith in
    Seen-turn (λ x. x.path) _ _ _ _ _ c.as_str.result _ within c.node-item.is c.as_str.ensures c.loop-node.invariant c.in_ok-insert.ensures.added c.if-not-branch.false c.in_ok-insert.ensures.updates
