-- What the members so far hold, and what the remaining ones hold.
use Rattle.std.proofs.Common.{◌≡◌, ◌||◌, ℕ, drop}
use Rattle.rl_ranges.specs.Codes.{has, IsInside}
use Rattle.rl_pattern.specs.internal.LeafSets.{classes_in}
use Rattle.rl_pattern.proofs.leaf_set.all_kinds.Given as goal

abbrev pub invariant-loop-member : goal.invariant-loop-member
invariant-loop-member l =
    record {
      inside : IsInside l.fn.universe l.set;
      members : (x : ℕ) → (has l.set x || classes_in l.fn.universe l.fn.flags (drop l.member-index l.members) x) ≡ classes_in l.fn.universe l.fn.flags l.fn.members x;
    }
