-- The keys so far and the keys of the values that are left make up the keys of all values.
use Rattle.std.proofs.Common.{◌≡◌, drop}
use Rattle.serde_json.specs.View.{items_view}
use Rattle.rl_sarif.specs.Baseline.{keys_read}
use Rattle.rl_sarif.proofs.ReadingLemmas.{read_on}
use Rattle.rl_sarif.proofs.reading.keys_of.Given as goal

abbrev pub invariant-loop-value : goal.invariant-loop-value
invariant-loop-value l = read_on l.keys.items (drop l.value-index l.values) ≡ keys_read (items_view l.values)
