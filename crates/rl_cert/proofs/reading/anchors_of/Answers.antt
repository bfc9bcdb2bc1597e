use Rattle.std.proofs.Common.{◌∙◌, ap, sym}
use Rattle.rl_cert.specs.Form.{anchor_of}
use Rattle.rl_cert.proofs.AllRows.{all_on-next, all_on-all}
use Rattle.rl_cert.proofs.reading.anchors_of.Goals as goal

pub loop-row-preserved : goal.loop-row-preserved
loop-row-preserved c =
    all_on-next anchor_of _ _ c.args.rows.now c.loop-row.row-index c.row-item.result _ c.loop-row-test.true c.row-item.is (ap anchor_of (sym c.as_slice.ensures) ∙ (sym c.anchor_of.ensures ∙ c.in-Some.is)) c.in_ok-push.ensures.pushed c.loop-row.invariant

pub returns-clause-anchors : goal.returns-clause-anchors
returns-clause-anchors c = all_on-all anchor_of _ c.args.rows.now c.loop-row.row-index c.loop-row-test.false c.loop-row.invariant
