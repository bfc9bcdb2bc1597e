use Rattle.rl_cert.specs.Form.{row_read}
use Rattle.rl_cert.proofs.ReadRows.{read_on-next, read_on-all}
use Rattle.rl_cert.proofs.reading.rows_of.Goals as goal

pub loop-value-preserved : goal.loop-value-preserved
loop-value-preserved c =
    read_on-next row_read _ _ c.args.values.now c.loop-value.value-index c.value-item.result _ c.loop-value-test.true c.value-item.is c.in_ok-row.ensures.row c.in_ok-push.ensures.pushed c.loop-value.invariant

pub returns-clause-rows : goal.returns-clause-rows
returns-clause-rows c = read_on-all row_read _ c.args.values.now c.loop-value.value-index c.loop-value-test.false c.loop-value.invariant
