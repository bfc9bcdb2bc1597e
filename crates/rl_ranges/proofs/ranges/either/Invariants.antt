use Rattle.std.proofs.Common.{◌≡◌, ℕ, ◌<◌, ◌≤◌, ◌+◌, ◌-◌, ◌||◌, length, drop}
use Rattle.rl_ranges.specs.Codes.{has, Above}
use Rattle.rl_ranges.specs.Building.{range_at}
use Rattle.rl_ranges.specs.internal.Ordering.{BeginsBy}
use Rattle.rl_ranges.proofs.ranges.either.Given as goal

abbrev pub invariant-loop-i : goal.invariant-loop-i
invariant-loop-i l = record {
  left_in : l.i ≤ length l.left;
  right_in : l.j ≤ length l.right;
  sorted : Above 0 l.ranges.items;
  begins_left : l.i < length l.left → BeginsBy l.ranges.items (range_at l.left l.i).0;
  begins_right : l.j < length l.right → BeginsBy l.ranges.items (range_at l.right l.j).0;
  members : (c : ℕ) → (has l.left c || has l.right c) ≡ (has l.ranges.items c || (has (drop l.i l.left) c || has (drop l.j l.right) c));
}

abbrev pub decreases-loop-i : goal.decreases-loop-i
decreases-loop-i l = (length l.left - l.i) + (length l.right - l.j)
