-- What the members so far hold, and what the remaining ones hold.
use Rattle.std.proofs.Common.{◌≡◌, ◌||◌, ℕ, drop}
use Rattle.rl_ranges.specs.Codes.{has, IsInside}
use Rattle.rl_pattern.specs.internal.LeafSets.{codes_in}
use Rattle.rl_pattern.proofs.leaf_set.all_codes.Given as goal

abbrev pub invariant-loop-member : goal.invariant-loop-member
invariant-loop-member l =
    record {
      inside : IsInside l.fn.universe l.set;
      members : (x : ℕ) → (has l.set x || codes_in l.fn.universe (drop l.member-index l.members) x) ≡ codes_in l.fn.universe l.fn.members x;
    }
