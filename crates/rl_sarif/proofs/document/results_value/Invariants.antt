-- The values are those of the results so far.
use Rattle.std.proofs.Common.{◌≡◌, map, filter, take}
use Rattle.serde_json.specs.View.{view}
use Rattle.rl_sarif.specs.Sarif.{is_result, result_data}
use Rattle.rl_sarif.proofs.document.results_value.Given as goal

abbrev pub invariant-loop-entry : goal.invariant-loop-entry
invariant-loop-entry l = map view l.values.items ≡ map (result_data l.max_pairs) (filter (is_result l.max_degree) (take l.entry-index l.entries))
