use Rattle.std.proofs.Common.{◌≡◌, map, take}
use Rattle.serde_json.specs.View.{view}
use Rattle.rl_cert.specs.Form.{row_data, anchor_row}
use Rattle.rl_cert.proofs.writing.anchors_value.Given as goal

abbrev pub invariant-loop-anchor : goal.invariant-loop-anchor
invariant-loop-anchor l = map view l.values.items ≡ map (λ a. row_data (anchor_row a)) (take l.anchor-index l.anchors)
