-- For private contracts: ranges in ascending order. A range is a pair: its first code and its last code.
use Rattle.std.specs.Prelude.{[], ℕ, ◌≤◌, ◌<◌, List, ◌∷◌, length}
use Rattle.rl_ranges.specs.Building.{range_at}

-- The first code of the last range, or `n` if there is no range.
unfoldable pub last_first_or : ℕ → List (ℕ × ℕ) → ℕ
last_first_or n [] = n
last_first_or n (r ∷ rs) = last_first_or r.0 rs

-- Holds if the last range begins at the code or before it, or if there is no range.
abbrev pub BeginsBy : List (ℕ × ℕ) → ℕ → Type 0
BeginsBy ranges code = last_first_or 0 ranges ≤ code

-- Holds if each range has at least one code, and no range begins before an earlier one in the list. Ranges may overlap.
pub record ComeInOrder (ranges : List (ℕ × ℕ)) : Type 0 where
  pub filled : (k : ℕ) → k < length ranges → (range_at ranges k).0 ≤ (range_at ranges k).1
  pub rising : (j k : ℕ) → j ≤ k → k < length ranges → (range_at ranges j).0 ≤ (range_at ranges k).0
