-- The values so far and those of the decisions that are left make up all values.
use Rattle.std.proofs.Common.{◌≡◌, ◌++◌, map}
use Rattle.std.proofs.Math.ListN.{drop}
use Rattle.serde_json.specs.View.{view}
use Rattle.rl_explained.specs.Steps.{taken_data}
use Rattle.rl_explained.proofs.steps.taken_values.Given as goal

abbrev pub invariant-loop-decision : goal.invariant-loop-decision
invariant-loop-decision l = map view l.values.items ++ map taken_data (drop l.decision-index l.taken) ≡ map taken_data l.taken
