use Rattle.std.proofs.Common.{get_or, refl}
use Rattle.rl_cert.specs.Form.{row_data, double_row}
use Rattle.rl_cert.proofs.Rows.{row_more, row_all_of}
use Rattle.rl_cert.proofs.writing.doubles_value.Goals as goal

pub returns : goal.returns
returns c = row_all_of double_row row_data c.loop-double.values c.args.doubles.now c.loop-double.double-index c.loop-double-test.false c.loop-double.invariant

pub loop-double-preserved : goal.loop-double-preserved
loop-double-preserved c =
    let i = c.loop-double.double-index in
    row_more (λ x. row_data (double_row x)) _ _ c.args.doubles.now i (get_or c.args.doubles.now i _) _ c.in_ok-row_value.field-0 c.loop-double-test.true refl c.in_ok-row_value.ensures c.loop-double.invariant c.in_ok-push.ensures.items
