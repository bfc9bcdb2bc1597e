-- For the contracts of private functions: rows of truth values that are stored in words. The place `i` is the bit
-- `i % 64` of the word `i / 64`.
use Rattle.std.specs.Prelude.{◌≡◌, ℕ, ◌<◌, ◌≤◌, true, false, List}
use Rattle.rl_lanes.specs.Packed.{bit}

-- Holds if no place from `start` on is true.
abbrev pub NoBitFrom : List ℕ → ℕ → Type 0
NoBitFrom words start = (k : ℕ) → start ≤ k → bit words k ≡ false

-- Holds if `least` is the first place from `start` on that is true.
pub record IsLeastBitFrom (words : List ℕ) (start least : ℕ) : Type 0 where
  pub after : start ≤ least
  pub member : bit words least ≡ true
  pub before : (k : ℕ) → start ≤ k → k < least → bit words k ≡ false
