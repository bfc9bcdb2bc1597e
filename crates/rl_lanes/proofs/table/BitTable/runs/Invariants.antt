use Rattle.rl_lanes.proofs.RunLemmas.{AreRunsFrom}
use Rattle.rl_lanes.proofs.table.BitTable.runs.Given as goal

abbrev pub invariant-loop-row : goal.invariant-loop-row
invariant-loop-row l = AreRunsFrom l.self l.row l.ends.items

abbrev pub decreases-loop-row : goal.decreases-loop-row
decreases-loop-row l = l.row
