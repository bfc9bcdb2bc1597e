-- The values so far and those of the splits that are left make up all values.
use Rattle.std.proofs.Common.{◌≡◌, ◌++◌, map}
use Rattle.std.proofs.Math.ListN.{drop}
use Rattle.serde_json.specs.View.{view}
use Rattle.rl_explained.specs.Replies.{splits_data}
use Rattle.rl_explained.proofs.readings.splits_value.Given as goal

abbrev pub invariant-loop-index : goal.invariant-loop-index
invariant-loop-index l =
    map view l.values.items ++ splits_data l.universe l.pumps l.index (drop l.index l.splits) ≡ splits_data l.universe l.pumps 0 l.splits
