-- Rows of truth values as lists. A row represents the set of the places, numbered from 0, whose values are true. The
-- value at a place past the end is false.
use Rattle.std.specs.Prelude.{◌≡◌, ℕ, ◌<◌, ◌≤◌, Bool, true, false, not, ◌&&◌, ◌||◌, List, length, slice_index_or, refl}
use Rattle.std.specs.Bool.{Decides}
use Rattle.std.specs.Cmp.{booleans_Decides}
use Rattle.std.proofs.lemmas.Slice.Eq.{slice_eq-Decides}
use mathlib.Core.Bool.{beq}
use Rattle.std.specs.Cmp.Lexicographic.{pointwise}
use Rattle.std.specs.Simd.Lanes.{zip2}

-- The union of two rows of the same length: a value is true if it is true in at least one of the rows.
unfoldable pub list_or : List Bool → List Bool → List Bool
list_or a b = zip2 (λ x y. x || y) a b

-- The difference of two rows of the same length: a value is true if it is true in the first row and not in the second.
unfoldable pub list_and_not : List Bool → List Bool → List Bool
list_and_not a b = zip2 (λ x y. x && not y) a b

-- Holds if some place is true in both rows.
abbrev pub Meets : List Bool → List Bool → Type 0
Meets a b = (i : ℕ) × (slice_index_or a i false ≡ true) × (slice_index_or b i false ≡ true)

-- Holds if no place is true in both rows.
abbrev pub AreApart : List Bool → List Bool → Type 0
AreApart a b = (i : ℕ) → slice_index_or a i false ≡ true → slice_index_or b i false ≡ false

-- Holds if every place that is true in the first row is true in the second.
abbrev pub IsSubset : List Bool → List Bool → Type 0
IsSubset a b = (i : ℕ) → slice_index_or a i false ≡ true → slice_index_or b i false ≡ true

-- Holds if some place is true in the first row and not in the second.
abbrev pub HasOther : List Bool → List Bool → Type 0
HasOther a b = (i : ℕ) × (slice_index_or a i false ≡ true) × (slice_index_or b i false ≡ false)

-- Holds if no place from `start` on is true.
abbrev pub NoneFrom : List Bool → ℕ → Type 0
NoneFrom row start = (k : ℕ) → start ≤ k → slice_index_or row k false ≡ false

-- Holds if `least` is the first place from `start` on that is true.
pub record IsLeastFrom (row : List Bool) (start least : ℕ) : Type 0 where
  pub after : start ≤ least
  pub within : least < length row
  pub member : slice_index_or row least false ≡ true
  pub before : (k : ℕ) → start ≤ k → k < least → slice_index_or row k false ≡ false

-- True if the two rows have the same length and the same values.
abbrev pub row_eq : List Bool → List Bool → Bool
row_eq = pointwise beq

-- Proves that `row_eq` is true if and only if the two rows are equal.
pub row_eq_decides : (a b : List Bool) → Decides (row_eq a b) (a ≡ b)
row_eq_decides a b = slice_eq-Decides booleans_Decides a b (row_eq a b) refl
