use Rattle.std.proofs.Common.{get_or, length, take, ℕ, ◌<◌, ◌≡◌}
use Rattle.rl_ranges.specs.internal.Ordering.{BeginsBy}
use Rattle.rl_ranges.specs.Codes.{Above, has}
use Rattle.rl_ranges.specs.internal.Images.{is_among}
use Rattle.rl_ranges.proofs.case.ranges_of.Given as goal

abbrev pub invariant-loop-code : goal.invariant-loop-code
invariant-loop-code l = record {
  sorted : Above 0 l.ranges.items;
  begins : l.code-index < length l.codes → BeginsBy l.ranges.items (get_or l.codes l.code-index 0);
  members : (c : ℕ) → has l.ranges.items c ≡ is_among (take l.code-index l.codes) c;
}
