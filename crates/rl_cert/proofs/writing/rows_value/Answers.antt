use Rattle.std.proofs.Common.{◌∙◌, ap}
use Rattle.rl_cert.specs.Form.{row_data}
use Rattle.rl_cert.proofs.Rows.{row_more, row_all}
use Rattle.rl_cert.proofs.writing.rows_value.Goals as goal

pub returns : goal.returns
returns c = row_all row_data c.loop-row.values c.args.rows.now c.loop-row.row-index c.loop-row-test.false c.loop-row.invariant

pub loop-row-preserved : goal.loop-row-preserved
loop-row-preserved c =
    row_more row_data _ _ c.args.rows.now c.loop-row.row-index c.row-item.result _ _ c.loop-row-test.true c.row-item.is (c.in_ok-row_value.ensures ∙ ap row_data c.as_slice.ensures) c.loop-row.invariant c.in_ok-push.ensures.items
