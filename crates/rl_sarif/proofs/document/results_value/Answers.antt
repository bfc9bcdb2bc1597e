use Rattle.std.proofs.Common.{ap, map, sym, ◌∙◌, Vec, Global}
use Rattle.serde_json.specs.View.{view}
use Rattle.serde_json.specs.declared.value.Value.{Value}
use Rattle.rl_sarif.specs.Sarif.{is_result, result_data}
use Rattle.rl_sarif.proofs.ResultLemmas.{value_more, value_passed, value_all}
use Rattle.rl_sarif.proofs.document.results_value.Goals as goal
use Rattle.rl_sarif.proofs.document.results_value.Goals.{then-is_result+in_ok-value+in_ok-push, else-is_result}

pub loop-entry-preserved : goal.loop-entry-preserved
loop-entry-preserved c =
    let told = is_result c.args.max_degree in
    let data_of = result_data c.args.max_pairs in
    let entries = c.args.entries.now in
    let at = c.loop-entry.entry-index in
    let entry = c.entry-item.result in
    elim c.if-is_result.branch [
      | then-is_result+in_ok-value+in_ok-push w ↦
          ap (λ (vs : Vec Value Global). map view vs.items) w.values-is
          ∙ value_more told data_of c.loop-entry.values.items _ entries at entry w.in_ok-value.value c.loop-entry-test.true c.entry-item.is
          (sym c.is_result.ensures ∙ w.if-is_result.true) w.in_ok-value.ensures c.loop-entry.invariant w.in_ok-push.ensures.items
      | else-is_result w ↦
          ap (λ (vs : Vec Value Global). map view vs.items) w.values-is
          ∙ value_passed told data_of c.loop-entry.values.items entries at entry c.loop-entry-test.true c.entry-item.is
          (sym c.is_result.ensures ∙ w.if-is_result.false) c.loop-entry.invariant
    ]

pub returns : goal.returns
returns c =
    value_all (is_result c.args.max_degree) (result_data c.args.max_pairs) c.loop-entry.values c.args.entries.now c.loop-entry.entry-index c.loop-entry-test.false
    c.loop-entry.invariant
