use Rattle.std.proofs.Common.{◌≡◌, ℕ, ◌<◌, ◌≤◌, true, not, ◌&&◌, take, ltb, length}
use Rattle.rl_ranges.specs.Codes.{has, Above}
use Rattle.rl_ranges.specs.Building.{range_at}
use Rattle.rl_ranges.specs.internal.Ordering.{BeginsBy}
use Rattle.rl_ranges.proofs.ranges.gaps.Given as goal

abbrev pub invariant-loop-first : goal.invariant-loop-first
invariant-loop-first l = record {
  sorted : Above 0 l.ranges.items;
  begins : BeginsBy l.ranges.items l.next;
  next_in : l.next ≤ l.count;
  behind : (c : ℕ) → has (take l.first-index l.held) c ≡ true → c < l.next;
  below : l.first-index < length l.held → l.next ≤ (range_at l.held l.first-index).0;
  members : (c : ℕ) → has l.ranges.items c ≡ (ltb c l.next && not (has (take l.first-index l.held) c));
}
