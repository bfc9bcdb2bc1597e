-- The values are those of the items so far.
use Rattle.std.proofs.Common.{◌≡◌, map, take}
use Rattle.serde_json.specs.View.{view}
use Rattle.rl_syntax.specs.declared.span.Span.{Span}
use Rattle.rl_ask.specs.Document.{span_data}
use Rattle.rl_ask.proofs.members.spans_value.Given as goal

abbrev pub invariant-loop-index : goal.invariant-loop-index
invariant-loop-index l = map view l.values.items ≡ map (λ (s : Span). span_data s.from s.upto) (take l.index l.spans)
