use Rattle.std.proofs.Common.{◌≡◌, ℕ, ◌-◌, ◌<◌, ◌≤◌, get_or}
use Rattle.rl_lanes.specs.internal.Words.{and_not}
use Rattle.rl_lanes.proofs.words.any_outside.Given as goal

abbrev pub invariant-lanes : goal.invariant-lanes
invariant-lanes l = (l.at ≤ l.len) × ((k : ℕ) → k < l.at → and_not (get_or l.a k 0) (get_or l.b k 0) ≡ 0)

abbrev pub decreases-lanes : goal.decreases-lanes
decreases-lanes l = l.len - l.at

abbrev pub invariant-rest : goal.invariant-rest
invariant-rest l = (l.at ≤ l.len) × ((k : ℕ) → k < l.at → and_not (get_or l.a k 0) (get_or l.b k 0) ≡ 0)

abbrev pub decreases-rest : goal.decreases-rest
decreases-rest l = l.len - l.at
