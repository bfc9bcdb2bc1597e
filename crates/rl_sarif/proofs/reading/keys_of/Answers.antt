use Rattle.std.proofs.Common.{ap, ◌∙◌}
use Rattle.rl_sarif.proofs.ReadingLemmas.{read_on, read_on-none, read_on-refused, read_on-next, read_on-all}
use Rattle.rl_sarif.proofs.reading.keys_of.Goals as goal

pub loop-value-init : goal.loop-value-init
loop-value-init c = ap (λ keys. read_on keys c.args.values.now) c.new-keys.ensures.items ∙ read_on-none c.args.values.now

pub loop-value-preserved : goal.loop-value-preserved
loop-value-preserved c =
    read_on-next c.loop-value.keys.items _ c.args.values.now c.loop-value.value-index c.value-item.result c.in_ok-key.key c.loop-value-test.true
    c.value-item.is c.in_ok-key.ensures.key c.in_ok-push.ensures.items c.loop-value.invariant

pub returns-clause-keys : goal.returns-clause-keys
returns-clause-keys c =
    read_on-all c.loop-value.keys.items c.args.values.now c.loop-value.value-index c.loop-value-test.false c.loop-value.invariant

pub returns-in_err-key-clause-refused : goal.returns-in_err-key-clause-refused
returns-in_err-key-clause-refused c = λ e.
    let gives = rw e at c.from_residual.ensures.1 in
    read_on-refused c.loop-value.keys.items c.args.values.now c.loop-value.value-index c.value-item.result c.loop-value-test.true c.value-item.is
    (c.in_err-key.ensures.refused (cc gives)) c.loop-value.invariant
