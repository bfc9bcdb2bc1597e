use Rattle.std.proofs.Common.{◌≡◌, ◌-◌, ◌≤◌, map, take, count_ones}
use Rattle.std.specs.Simd.Lanes.{sum_l}
use Rattle.rl_lanes.proofs.words.count_words.Given as goal

abbrev pub invariant-lanes : goal.invariant-lanes
invariant-lanes l = (l.at ≤ l.len) × (l.count ≡ sum_l (map count_ones (take l.at l.words)))

abbrev pub decreases-lanes : goal.decreases-lanes
decreases-lanes l = l.len - l.at

abbrev pub invariant-rest : goal.invariant-rest
invariant-rest l = (l.at ≤ l.len) × (l.count ≡ sum_l (map count_ones (take l.at l.words)))

abbrev pub decreases-rest : goal.decreases-rest
decreases-rest l = l.len - l.at
