use Rattle.std.proofs.Common.{length, ℕ, ◌-◌, ◌<◌, ◌≤◌}
use Rattle.rl_ranges.specs.Building.{range_at}
use Rattle.rl_ranges.proofs.ranges.holds.Given as goal

abbrev pub invariant-loop-low : goal.invariant-loop-low
invariant-loop-low l = record {
  high_in : l.high ≤ length l.ranges;
  before : (k : ℕ) → k < l.low → (range_at l.ranges k).1 < l.code;
  after : (k : ℕ) → l.high ≤ k → k < length l.ranges → l.code < (range_at l.ranges k).0;
}

abbrev pub decreases-loop-low : goal.decreases-loop-low
decreases-loop-low l = l.high - l.low
