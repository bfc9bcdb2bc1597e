-- Numberings. Codes that are alike share a number, and the numbers, from 0, follow the order of the least codes. A stretch is
-- a pair: the first code of a run of codes, and the number of all codes from there up to the next stretch. A letter is the
-- class of all codes that share a number, and a sample is one of its codes. There may be at most MOST_LETTERS letters: 128.
use Rattle.std.specs.Prelude.{[], ◌≡◌, ℕ, ◌<◌, ◌≤◌, suc, zero, Bool, ◌==◌, List, ◌∷◌, ◌++◌, length, if◌then◌else◌}
use Rattle.std.specs.List.{list_any}
use Rattle.rl_ranges.specs.Letters.{letter_from, place_where}
use Rattle.rl_ranges.specs.Building.{range_at}
use Rattle.rl_ranges.specs.declared.letters.TheConstants.{MOST_LETTERS}

-- The codes below `n` that aren't like any earlier item of this list, in ascending order. `like c d` says whether `c` and `d`
-- are alike. If this is an equivalence, the list has the least code of each class.
unfoldable pub firsts : (ℕ → ℕ → Bool) → ℕ → List ℕ
firsts like zero = []
firsts like (suc n) = let l = firsts like n in if list_any (like n) l then l else l ++ n ∷ []

-- Whether the function gives the two codes the same value.
abbrev pub same_value : (ℕ → ℕ) → ℕ → ℕ → Bool
same_value value c d = value c == value d

-- Holds if the stretches cover the codes below `count`: there is at least one, the first begins at 0, and each begins after
-- the one before it and below `count`.
pub record Covers (stretches : List (ℕ × ℕ)) (count : ℕ) : Type 0 where
  pub some : 0 < length stretches
  pub start : (range_at stretches 0).0 ≡ 0
  pub rising : (j k : ℕ) → j < k → k < length stretches → (range_at stretches j).0 < (range_at stretches k).0
  pub within : (k : ℕ) → k < length stretches → (range_at stretches k).0 < count

-- Holds if the number of every stretch is less than `m`. Holds for the empty list.
abbrev pub ValuesBelow : ℕ → List (ℕ × ℕ) → Type 0
ValuesBelow m stretches = (k : ℕ) → k < length stretches → (range_at stretches k).1 < m

-- Holds if the stretches and the list `least` number the codes below `count` by their values. Codes share a number exactly if
-- `value` gives them the same value, `least` has the least code of each number, and there are at most MOST_LETTERS numbers.
pub record IsNumbered (value : ℕ → ℕ) (count : ℕ) (stretches : List (ℕ × ℕ)) (least : List ℕ) : Type 0 where
  pub covers : Covers stretches count
  pub below : ValuesBelow (length least) stretches
  pub few : length least ≤ MOST_LETTERS
  pub same_firsts : least ≡ firsts (same_value value) count
  pub same_number : (c : ℕ) → c < count → letter_from 0 stretches c ≡ place_where (same_value value c) least

-- Holds if a table of letters can consist of these parts: the stretches cover the codes below `codes`, each letter in a
-- stretch has a sample, and there are at most MOST_LETTERS samples.
pub record IsTable (codes : ℕ) (stretches : List (ℕ × ℕ)) (samples : List ℕ) : Type 0 where
  pub covers : Covers stretches codes
  pub below : ValuesBelow (length samples) stretches
  pub few : length samples ≤ MOST_LETTERS
