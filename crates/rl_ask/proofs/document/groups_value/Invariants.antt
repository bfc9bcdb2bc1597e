-- The values are those of the items so far.
use Rattle.std.proofs.Common.{◌≡◌, map, take}
use Rattle.serde_json.specs.View.{view}
use Rattle.rl_ask.specs.Document.{value_data}
use Rattle.rl_ask.proofs.document.groups_value.Given as goal

abbrev pub invariant-loop-index : goal.invariant-loop-index
invariant-loop-index l = map view l.values.items ≡ map value_data (take l.index l.groups)
