use Rattle.std.proofs.Common.{get_or, refl}
use Rattle.rl_cert.specs.Form.{whole}
use Rattle.rl_cert.proofs.Rows.{row_more, row_all}
use Rattle.rl_cert.proofs.writing.row_value.Goals as goal

pub returns : goal.returns
returns c = row_all whole c.loop-number.values c.args.row.now c.loop-number.number-index c.loop-number-test.false c.loop-number.invariant

pub loop-number-preserved : goal.loop-number-preserved
loop-number-preserved c =
    let i = c.loop-number.number-index in
    row_more whole _ _ c.args.row.now i (get_or c.args.row.now i 0) 0 c.from.result c.loop-number-test.true refl c.from.ensures c.loop-number.invariant c.in_ok-push.ensures.items
