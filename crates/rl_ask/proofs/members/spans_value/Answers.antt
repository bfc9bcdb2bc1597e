use Rattle.rl_syntax.specs.declared.span.Span.{Span}
use Rattle.rl_ask.specs.Document.{span_data}
use Rattle.rl_ask.proofs.ValueLemmas.{value_next, value_all}
use Rattle.rl_ask.proofs.members.spans_value.Goals as goal

pub loop-index-preserved : goal.loop-index-preserved
loop-index-preserved c =
    value_next (λ (s : Span). span_data s.from s.upto) _ _ c.args.spans.now c.loop-index.index _ c.in_ok-value.value c.loop-index-test.true c.in_ok-value.ensures c.loop-index.invariant c.in_ok-push.ensures.items

pub returns : goal.returns
returns c =
    value_all (λ (s : Span). span_data s.from s.upto) c.loop-index.values c.args.spans.now c.loop-index.index c.loop-index-test.false c.loop-index.invariant
