-- For private contracts: images of sets under tables of pairs of codes. A pair leads from its first code to its second. The
-- program uses such tables to close a set under case. A set is a list of ranges, and a range is a pair: its first code and its
-- last code.
use Rattle.std.specs.Prelude.{ℕ, ◌<◌, ◌≤◌, Bool, true, false, ◌&&◌, ◌||◌, ◌==◌, List, length}
use Rattle.std.specs.List.{list_any}
use Rattle.rl_ranges.specs.Codes.{has, is_between}
use Rattle.rl_ranges.specs.Building.{range_at}
use Rattle.rl_ranges.specs.declared.tables.TheConstants.{ASCII_PAIRS, I_PAIRS}
use Rattle.unicode.specs.CaseFolding.{fold_pairs}

-- Whether some pair leads from a code in the ranges to this code.
unfoldable pub in_image : List (ℕ × ℕ) → List (ℕ × ℕ) → ℕ → Bool
in_image pairs ranges code = list_any (λ p. has ranges p.0 && p.1 == code) pairs

-- Holds if the first codes of the pairs are in ascending order. Equal codes may follow each other.
abbrev pub KeysRise : List (ℕ × ℕ) → Type 0
KeysRise pairs = (i j : ℕ) → i ≤ j → j < length pairs → (range_at pairs i).0 ≤ (range_at pairs j).0

-- Holds if the index `place` is the lower bound of the key: the pairs before it have first codes less than the key, and the
-- others don't.
pub record IsLowerBound (pairs : List (ℕ × ℕ)) (key place : ℕ) : Type 0 where
  pub within : place ≤ length pairs
  pub before : (k : ℕ) → k < place → (range_at pairs k).0 < key
  pub after : (k : ℕ) → place ≤ k → k < length pairs → key ≤ (range_at pairs k).0

-- Whether the code occurs in the list.
unfoldable pub is_among : List ℕ → ℕ → Bool
is_among codes code = list_any (λ x. x == code) codes

-- Whether some pair leads from a code between `first` and `last`, both included, to this code.
unfoldable pub in_range_image : List (ℕ × ℕ) → ℕ → ℕ → ℕ → Bool
in_range_image pairs first last code = list_any (λ p. is_between first last p.0 && p.1 == code) pairs

-- Whether the tables of case lead from a code in the ranges to this code. The flag `true` selects the ASCII table, `false`
-- those of Unicode.
abbrev pub has_kin : Bool → List (ℕ × ℕ) → ℕ → Bool
has_kin true ranges code = in_image ASCII_PAIRS ranges code
has_kin false ranges code = in_image fold_pairs ranges code || in_image I_PAIRS ranges code
