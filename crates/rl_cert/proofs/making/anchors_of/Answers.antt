use Rattle.std.proofs.Common.{ap, arith}
use Rattle.rl_growth.specs.Routes.{state_after}
use Rattle.rl_cert.proofs.MadeLaws.{anchors-more, anchors-all, single}
use Rattle.rl_cert.proofs.making.anchors_of.Goals as goal

pub loop-place-preserved : goal.loop-place-preserved
loop-place-preserved c = anchors-more c.args.splits.now c.loop-place.place c.index-splits-place.result _ _ (omega arith) c.index-splits-place.is c.loop-place.invariant c.in_ok-push.ensures.pushed

pub returns : goal.returns
returns c =
    anchors-all c.args.splits.now c.loop-place.place (state_after c.args.splits.now c.args.alone) _ _ _ c.loop-place-test.false c.loop-place.invariant
    (ap single c.state_behind-last.ensures) c.in_ok-push-2.ensures.pushed
