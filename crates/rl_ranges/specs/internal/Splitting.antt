-- For private contracts: how letters are distinguished, one set after another. Two codes belong to the same letter if every
-- set holds both or neither. A stretch is a pair: the first code of a run of codes, and the number of all codes from there up
-- to the next stretch. A numbering is a list of stretches with a list `least` of the least code of each number. There may be
-- at most MOST_LETTERS numbers: 128.
use Rattle.std.specs.Prelude.{[], ◌≡◌, ℕ, ◌+◌, ◌*◌, ◌<◌, ◌≤◌, ◌⊎◌, Bool, nat_lt, List, ◌∷◌, ◌++◌, length, Option, Some, None, slice_set, if◌then◌else◌}
use Rattle.rl_ranges.specs.Letters.{alike, classes, letter_from, place_where}
use Rattle.rl_ranges.specs.Building.{range_at}
use Rattle.rl_ranges.specs.Codes.{has}
use Rattle.rl_ranges.specs.Numbering.{firsts, Covers, ValuesBelow}
use Rattle.rl_ranges.specs.declared.letters.TheConstants.{MOST_LETTERS}

-- The first code of the stretch or range at index `place`, or `count` if there is none.
abbrev pub start_or : List (ℕ × ℕ) → ℕ → ℕ → ℕ
start_or stretches place count = if nat_lt place (length stretches) then (range_at stretches place).0 else count

-- The combined value of a code: twice its number in the stretches, plus one if the ranges `held` contain it.
abbrev pub value_in : List (ℕ × ℕ) → List (ℕ × ℕ) → ℕ → ℕ
value_in stretches held code = 2 * letter_from 0 stretches code + (if has held code then 1 else 0)

-- Holds if each stretch after index `place` begins after the code.
abbrev pub AreLater : List (ℕ × ℕ) → ℕ → ℕ → Type 0
AreLater stretches place code = (k : ℕ) → place < k → k < length stretches → code < (range_at stretches k).0

-- Holds if each range before index `place` ends before the code, and the range at `place`, if there is one, doesn't.
pub record IsFirstReaching (ranges : List (ℕ × ℕ)) (place code : ℕ) : Type 0 where
  pub before : (k : ℕ) → k < place → k < length ranges → (range_at ranges k).1 < code
  pub unpassed : place < length ranges → code ≤ (range_at ranges place).1

-- Holds if a step at the code `code` gives `value` the number `number`. The first argument is the number that the value had
-- before, if any. `known` (the numbers by value) and `least` are the lists before the step, `known'` and `least'` those after
-- it. If the value had a number, nothing changes. Otherwise fewer than MOST_LETTERS numbers are in use, and it gets the next
-- one, with `code` as its least code.
abbrev pub HasNumber : Option ℕ → ℕ → List (Option ℕ) → List (Option ℕ) → List ℕ → List ℕ → ℕ → ℕ → Type 0
HasNumber None number known known' least least' value code =
    (number ≡ length least) × (known' ≡ slice_set known value (Some number)) × (least' ≡ least ++ code ∷ []) × (length least < MOST_LETTERS)
HasNumber (Some n) number known known' least least' value code = (number ≡ n) × (known' ≡ known) × (least' ≡ least)

-- Holds if the numbering is that of the letters of the sets, among the codes below `count`: two codes share a number if and
-- only if each set holds both or neither. There are at most MOST_LETTERS numbers.
pub record NumbersLetters (stretches : List (ℕ × ℕ)) (least : List ℕ) (sets : List (ℕ → Bool)) (count : ℕ) : Type 0 where
  pub covers : Covers stretches count
  pub below : ValuesBelow (length least) stretches
  pub few : length least ≤ MOST_LETTERS
  pub same_firsts : least ≡ firsts (alike sets) count
  pub same_number : (c : ℕ) → c < count → letter_from 0 stretches c ≡ place_where (alike sets c) (firsts (alike sets) count)

-- Holds if refining by the sets `more` leads from the numbering `stretches`, `least` to `stretches'`, `least'`: if the first
-- is that of the letters of some sets, the second is that of the letters of those sets and `more` together.
abbrev pub RefinesLetters : List (ℕ × ℕ) → List ℕ → List (ℕ × ℕ) → List ℕ → List (ℕ → Bool) → ℕ → Type 0
RefinesLetters stretches least stretches' least' more count =
    (sets : List (ℕ → Bool)) → NumbersLetters stretches least sets count → NumbersLetters stretches' least' (sets ++ more) count

-- Holds if refining by the sets `more` exceeds the limit: if the numbering is that of the letters of some sets, those sets and
-- `more` together have more than MOST_LETTERS letters.
abbrev pub HasTooMany : List (ℕ × ℕ) → List ℕ → List (ℕ → Bool) → ℕ → Type 0
HasTooMany stretches least more count =
    (sets : List (ℕ → Bool)) → NumbersLetters stretches least sets count → MOST_LETTERS < length (classes (sets ++ more) count)

-- Holds if `code` is the least code from `low` to 126 whose number in the stretches is `value` or, if there is no such code,
-- if `code` is `least`.
abbrev pub IsPreferred : List (ℕ × ℕ) → ℕ → ℕ → ℕ → ℕ → Type 0
IsPreferred stretches low value least code =
    ((low ≤ code) × (code ≤ 126) × (letter_from 0 stretches code ≡ value) × ((d : ℕ) → low ≤ d → d < code → letter_from 0 stretches d ≡ value → ⊥))
    ⊎ ((code ≡ least) × ((d : ℕ) → low ≤ d → d ≤ 126 → letter_from 0 stretches d ≡ value → ⊥))
