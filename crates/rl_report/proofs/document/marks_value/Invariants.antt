-- The values are those of the marks so far.
use Rattle.std.proofs.Common.{◌≡◌, map, take}
use Rattle.serde_json.specs.View.{view}
use Rattle.rl_report.specs.Document.{place_data}
use Rattle.rl_report.proofs.document.marks_value.Given as goal

abbrev pub invariant-loop-mark : goal.invariant-loop-mark
invariant-loop-mark l = map view l.values.items ≡ map (λ m. place_data m.at) (take l.mark-index l.marks)
