-- The values are those of the entries so far.
use Rattle.std.proofs.Common.{◌≡◌, map, take}
use Rattle.serde_json.specs.View.{view}
use Rattle.rl_report.specs.Document.{entry_data}
use Rattle.rl_report.proofs.document.entries_value.Given as goal

abbrev pub invariant-loop-entry : goal.invariant-loop-entry
invariant-loop-entry l = map view l.values.items ≡ map (entry_data l.terms.max_pairs l.terms.report) (take l.entry-index l.entries)
