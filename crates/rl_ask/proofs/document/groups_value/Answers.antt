use Rattle.rl_ask.specs.Document.{value_data}
use Rattle.rl_ask.proofs.ValueLemmas.{value_next, value_all}
use Rattle.rl_ask.proofs.document.groups_value.Goals as goal

pub loop-index-preserved : goal.loop-index-preserved
loop-index-preserved c =
    value_next value_data _ _ c.args.groups.now c.loop-index.index _ c.in_ok-value.value c.loop-index-test.true c.in_ok-value.ensures c.loop-index.invariant c.in_ok-push.ensures.items

pub returns : goal.returns
returns c =
    value_all value_data c.loop-index.values c.args.groups.now c.loop-index.index c.loop-index-test.false c.loop-index.invariant
