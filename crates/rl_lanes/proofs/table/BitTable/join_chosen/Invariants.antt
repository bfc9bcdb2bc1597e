use Rattle.std.proofs.Common.{◌-◌, length}
use Rattle.rl_lanes.proofs.ImageLemmas.{JoinsRows}
use Rattle.rl_lanes.proofs.table.BitTable.join_chosen.Given as goal

abbrev pub invariant-loop-row : goal.invariant-loop-row
invariant-loop-row l = JoinsRows l.self l.chosen (length l.fn.into) l.at l.into

abbrev pub decreases-loop-row : goal.decreases-loop-row
decreases-loop-row l = length l.chosen - l.at
