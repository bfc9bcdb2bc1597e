use Rattle.rl_cert.proofs.MadeLaws.{one-pushed}
use Rattle.rl_cert.proofs.making.one_anchor.Goals as goal

pub returns : goal.returns
returns c = one-pushed _ _ _ c.new-anchors.ensures c.in_ok-push.ensures.pushed
