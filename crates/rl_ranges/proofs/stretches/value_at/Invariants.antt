use Rattle.std.proofs.Common.{length, ◌-◌, ◌<◌, ◌≤◌}
use Rattle.rl_ranges.specs.Building.{range_at}
use Rattle.rl_ranges.proofs.stretches.value_at.Given as goal

abbrev pub invariant-loop-high : goal.invariant-loop-high
invariant-loop-high l = record {
  ordered : l.low < l.high;
  high_in : l.high ≤ length l.stretches;
  begun : (range_at l.stretches l.low).0 ≤ l.code;
  later : l.high < length l.stretches → l.code < (range_at l.stretches l.high).0;
}

abbrev pub decreases-loop-high : goal.decreases-loop-high
decreases-loop-high l = l.high - l.low
