use Rattle.std.proofs.Common.{get_or, refl}
use Rattle.rl_cert.specs.Form.{row_data, anchor_row}
use Rattle.rl_cert.proofs.Rows.{row_more, row_all_of}
use Rattle.rl_cert.proofs.writing.anchors_value.Goals as goal

pub returns : goal.returns
returns c = row_all_of anchor_row row_data c.loop-anchor.values c.args.anchors.now c.loop-anchor.anchor-index c.loop-anchor-test.false c.loop-anchor.invariant

pub loop-anchor-preserved : goal.loop-anchor-preserved
loop-anchor-preserved c =
    let i = c.loop-anchor.anchor-index in
    row_more (λ x. row_data (anchor_row x)) _ _ c.args.anchors.now i (get_or c.args.anchors.now i _) _ c.in_ok-row_value.field-0 c.loop-anchor-test.true refl c.in_ok-row_value.ensures c.loop-anchor.invariant c.in_ok-push.ensures.items
