-- Letters, or alphabet classes. Two codes belong to the same letter if every set of a list holds both or neither. Letters
-- are numbered from 0 in the order of their least codes. In this file a set is the test of its codes. A stretch is a pair: the
-- first code of a run of codes, and the letter of all codes from there up to the next stretch.
use Rattle.std.specs.Prelude.{ℕ, ◌≡◌, ◌<◌, ◌≤◌, ◌⊎◌, suc, zero, Bool, true, ◌&&◌, List, [], ◌∷◌, ◌++◌, length, nat_le, slice_get, slice_index_or, if◌then◌else◌, Some}
use Rattle.std.specs.List.{list_any}
use Rattle.std.proofs.Math.Bool.{beq}

-- Whether each set of the list holds both codes or neither of them. `true` for the empty list.
abbrev pub alike : List (ℕ → Bool) → ℕ → ℕ → Bool
alike [] c d = true
alike (s ∷ sets) c d = beq (s c) (s d) && alike sets c d

-- The least code of each letter that has a code below `n`, in ascending order. The index of a code in this list is the number
-- of its letter.
unfoldable pub classes : List (ℕ → Bool) → ℕ → List ℕ
classes sets zero = []
classes sets (suc n) = let l = classes sets n in if list_any (alike sets n) l then l else l ++ n ∷ []

-- The index, from 0, of the first item that satisfies the test, or the length of the list if none does.
abbrev pub place_where : (ℕ → Bool) → List ℕ → ℕ
place_where p [] = zero
place_where p (x ∷ l) = if p x then zero else suc (place_where p l)

-- The number of the letter that the code `c` belongs to, among the letters that have a code below `n`. If `c` belongs to none
-- of them, it is how many of them there are.
unfoldable pub class_of : List (ℕ → Bool) → ℕ → ℕ → ℕ
class_of sets n c = place_where (alike sets c) (classes sets n)

-- What the program stores about the letters: `codes`, the number of codes in the universe; `stretches`, in ascending order;
-- and `samples`, which has a code of each letter, at the index that is the letter's number.
pub record LetterTable : Type 0 where
  pub codes : ℕ
  pub stretches : List (ℕ × ℕ)
  pub samples : List ℕ

-- The letter of the last stretch in the list that begins at or before the code, or `found` if no stretch does.
abbrev pub letter_from : ℕ → List (ℕ × ℕ) → ℕ → ℕ
letter_from found [] code = found
letter_from found (s ∷ stretches) code = letter_from (if nat_le s.0 code then s.1 else found) stretches code

-- The letter of the code according to the table's stretches. It is 0 if no stretch begins at or before the code.
unfoldable pub letter_at : LetterTable → ℕ → ℕ
letter_at t code = letter_from 0 t.stretches code

-- Holds if the code is a printable character of ASCII, from 32 to 126. Samples are chosen from these codes if possible.
abbrev pub IsPlain : ℕ → Type 0
IsPlain code = (32 ≤ code) × (code ≤ 126)

-- Holds if the code is the sample of the letter with the number `letter`, among the letters of the sets for the codes below
-- `n`: the letter's least printable ASCII code, or its least code if it has no printable ASCII code.
pub record IsSample (sets : List (ℕ → Bool)) (n letter code : ℕ) : Type 0 where
  pub within : code < n
  pub in_it : class_of sets n code ≡ letter
  pub least : ((d : ℕ) → d < code → class_of sets n d ≡ letter → IsPlain d → ⊥)
  pub plain : IsPlain code ⊎ ((slice_get (classes sets n) letter ≡ Some code) × ((d : ℕ) → d < n → class_of sets n d ≡ letter → IsPlain d → ⊥))

-- Holds if the table describes the letters of the sets among the codes below `n`: it gives each of these codes its letter, and
-- has the sample of each letter, as `IsSample` says.
pub record IsLetters (t : LetterTable) (sets : List (ℕ → Bool)) (n : ℕ) : Type 0 where
  pub same_codes : t.codes ≡ n
  pub same_count : length t.samples ≡ length (classes sets n)
  pub same_letter : (c : ℕ) → c < n → letter_at t c ≡ class_of sets n c
  pub same_sample : (l : ℕ) → l < length t.samples → IsSample sets n l (slice_index_or t.samples l 0)
