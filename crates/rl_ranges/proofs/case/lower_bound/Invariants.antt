use Rattle.std.proofs.Common.{length, ℕ, ◌-◌, ◌<◌, ◌≤◌}
use Rattle.rl_ranges.specs.Building.{range_at}
use Rattle.rl_ranges.proofs.case.lower_bound.Given as goal

abbrev pub invariant-loop-low : goal.invariant-loop-low
invariant-loop-low l = record {
  ordered : l.low ≤ l.high;
  high_in : l.high ≤ length l.pairs;
  before : (k : ℕ) → k < l.low → (range_at l.pairs k).0 < l.key;
  after : (k : ℕ) → l.high ≤ k → k < length l.pairs → l.key ≤ (range_at l.pairs k).0;
}

abbrev pub decreases-loop-low : goal.decreases-loop-low
decreases-loop-low l = l.high - l.low
