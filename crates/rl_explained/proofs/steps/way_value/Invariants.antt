-- The values so far and those of the steps that are left make up all values.
use Rattle.std.proofs.Common.{◌≡◌, ◌++◌, map}
use Rattle.std.proofs.Math.ListN.{drop}
use Rattle.serde_json.specs.View.{view}
use Rattle.rl_explained.specs.Steps.{step_data}
use Rattle.rl_explained.proofs.steps.way_value.Given as goal

abbrev pub invariant-loop-step : goal.invariant-loop-step
invariant-loop-step l = map view l.values.items ++ map step_data (drop l.step-index l.way) ≡ map step_data l.way
