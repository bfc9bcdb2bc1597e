use Rattle.std.proofs.Common.{◌≡◌, ℕ, ◌<◌, ◌≤◌, ◌||◌, length, drop}
use Rattle.rl_ranges.specs.Codes.{has, Above}
use Rattle.rl_ranges.specs.Building.{range_at}
use Rattle.rl_ranges.specs.internal.Ordering.{BeginsBy}
use Rattle.rl_ranges.proofs.ranges.append_from.Given as goal

abbrev pub invariant-loop-i : goal.invariant-loop-i
invariant-loop-i l = record {
  sorted : Above 0 l.ranges.items;
  begins : l.i < length l.more → BeginsBy l.ranges.items (range_at l.more l.i).0;
  same : l.i ≤ l.from → l.ranges.items ≡ l.fn.ranges.items;
  members : (c : ℕ) → (has l.fn.ranges.items c || has (drop l.from l.more) c) ≡ (has l.ranges.items c || has (drop l.i l.more) c);
}
