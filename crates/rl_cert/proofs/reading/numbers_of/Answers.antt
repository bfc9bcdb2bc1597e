use Rattle.std.proofs.Common.{◌∙◌, sym}
use Rattle.rl_cert.specs.Form.{number_read}
use Rattle.rl_cert.proofs.ReadRows.{read_on-refused, read_on-next, read_on-all}
use Rattle.rl_cert.proofs.reading.numbers_of.Goals as goal

pub loop-value-preserved : goal.loop-value-preserved
loop-value-preserved c =
    read_on-next number_read _ _ c.args.values.now c.loop-value.value-index c.value-item.result _ c.loop-value-test.true c.value-item.is (sym c.number_of.ensures ∙ c.in-Some.is) c.in_ok-push.ensures.pushed c.loop-value.invariant

pub returns-in_default-clause-refused : goal.returns-in_default-clause-refused
returns-in_default-clause-refused c = λ _. read_on-refused number_read _ c.args.values.now c.loop-value.value-index c.value-item.result c.loop-value-test.true c.value-item.is (sym c.number_of.ensures ∙ c.in_default.is) c.loop-value.invariant

pub returns-clause-row : goal.returns-clause-row
returns-clause-row c = read_on-all number_read _ c.args.values.now c.loop-value.value-index c.loop-value-test.false c.loop-value.invariant
