use Rattle.std.proofs.Common.{◌≡◌, map, take}
use Rattle.serde_json.specs.View.{view}
use Rattle.rl_cert.specs.Form.{row_data, double_row}
use Rattle.rl_cert.proofs.writing.doubles_value.Given as goal

abbrev pub invariant-loop-double : goal.invariant-loop-double
invariant-loop-double l = map view l.values.items ≡ map (λ a. row_data (double_row a)) (take l.double-index l.doubles)
