use Rattle.std.proofs.Common.{◌-◌, length}
use Rattle.rl_lanes.specs.Runs.{IsRun}
use Rattle.rl_lanes.proofs.table.BitTable.run_from.Given as goal

abbrev pub invariant-loop-end : goal.invariant-loop-end
invariant-loop-end l = IsRun l.self l.fn.row l.end

abbrev pub decreases-loop-end : goal.decreases-loop-end
decreases-loop-end l = length l.ends - l.end
