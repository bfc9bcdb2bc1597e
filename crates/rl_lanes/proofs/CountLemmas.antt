-- Lemmas about the number of set bits in words, and about the words that hold a row's values.
use Rattle.std.proofs.Common.{◌≡◌, ◌≢◌, ℕ, zero, suc, ◌+◌, ◌-◌, ◌*◌, ◌/◌, ◌%◌, ◌^◌, ◌<◌, ◌≤◌, Bool, true, false, cond, eqb, List, length, get_or, take, drop, map, refl, sym, ap, ◌∙◌, inl, inr, arith, count_ones, count_by}
use Rattle.std.specs.Int.{bit_at, div_ceil}
use Rattle.std.specs.List.{range_with_len}
use Rattle.std.specs.Simd.Lanes.{sum_l, mask_l}
use Rattle.std.proofs.lemmas.Bool.{cases_lt, false_from_ne_true}
use Rattle.std.proofs.lemmas.Bool.Decides.{same_from_decides}
use Rattle.std.proofs.lemmas.Slice.Eq.{slice_eq-Decides}
use Rattle.std.specs.Cmp.{unsigned_Decides}
use Rattle.std.specs.Cmp.Lexicographic.{pointwise}
use Rattle.rl_lanes.specs.Rows.{row_eq, row_eq_decides}
use Rattle.std.proofs.lemmas.List.{ext_get_or, get_or_past, length-take}
use Rattle.std.proofs.Math.Seq.{take-length}
use Rattle.std.proofs.Math.Pow.{pow_mono}
use Rattle.std.proofs.lemmas.List.Sums.{sum_by-cons}
use Rattle.std.proofs.lemmas.List.FromFn.{length-map-range_with_len, get_or-map-range_with_len}
use Rattle.std.proofs.lemmas.Nat.Bits.{bit_at-lt, bit_at-zero, same_from_bits_below}
use Rattle.std.proofs.lemmas.Simd.{bit_mask_l, mask_l-lt, ones-mask_l, get_or-chunk}
use Rattle.rl_lanes.specs.Packed.{bit, truths, words_of}
use Rattle.rl_lanes.proofs.WordLemmas.{ones-take_one}
use Rattle.rl_lanes.proofs.PackedLemmas.{AreWords, IsRow, IsRow-from_bits, IsRow-length, IsRow-get_or, bit-at}

-- The number of the `n` places from `a` on that satisfy `p`.
ones_from : (ℕ → Bool) → ℕ → ℕ → ℕ
ones_from p a zero = 0
ones_from p a (suc n) = cond (p a) 1 0 + ones_from p (a + 1) n

ones_from_is : (p : ℕ → Bool) (a n : ℕ) → count_by (λ b. b) (map p (range_with_len a n)) ≡ ones_from p a n
unfolding ones_from
ones_from_is p a zero = refl
ones_from_is p a (suc n) = sum_by-cons (λ b. cond b 1 0) (p a) (map p (range_with_len (a + 1) n)) ∙ ap (λ m. cond (p a) 1 0 + m) (ones_from_is p (a + 1) n)

ones_by_is : (p : ℕ → Bool) (a n : ℕ) → count_by p (range_with_len a n) ≡ ones_from p a n
unfolding ones_from
ones_by_is p a zero = refl
ones_by_is p a (suc n) = sum_by-cons (λ i. cond (p i) 1 0) a (range_with_len (a + 1) n) ∙ ap (λ m. cond (p a) 1 0 + m) (ones_by_is p (a + 1) n)

ones_from-split : (p : ℕ → Bool) (a m n : ℕ) → ones_from p a (m + n) ≡ ones_from p a m + ones_from p (a + m) n
unfolding ones_from
ones_from-split p a zero n = (λ i. ones_from p (zeroed i) (left i)) ∙ omega arith
  where
    zeroed : a ≡ a + 0
    zeroed = omega arith

    left : 0 + n ≡ n
    left = omega arith
ones_from-split p a (suc m) n =
    ap (ones_from p a) more ∙ ap (λ k. cond (p a) 1 0 + k) (ones_from-split p (a + 1) m n ∙ ap (λ b. ones_from p (a + 1) m + ones_from p b n) next) ∙ omega arith
  where
    more : suc m + n ≡ suc (m + n)
    more = omega arith

    next : a + 1 + m ≡ a + suc m
    next = omega arith

ones_from-same : (p q : ℕ → Bool) (a b n : ℕ) → ((j : ℕ) → j < n → p (a + j) ≡ q (b + j)) → ones_from p a n ≡ ones_from q b n
unfolding ones_from
ones_from-same p q a b zero same = refl
ones_from-same p q a b (suc n) same =
    let rest = ones_from-same p q (a + 1) (b + 1) n (λ j lt. ap p (next a j) ∙ same (suc j) (omega arith) ∙ sym (ap q (next b j))) in
    (λ i. cond (first i) 1 0 + rest i)
  where
    zeroed : (c : ℕ) → c ≡ c + 0
    zeroed c = omega arith

    first : p a ≡ q b
    first = ap p (zeroed a) ∙ same 0 (omega arith) ∙ sym (ap q (zeroed b))

    next : (c j : ℕ) → c + 1 + j ≡ c + suc j
    next c j = omega arith

ones_from-none : (p : ℕ → Bool) (a n : ℕ) → ((j : ℕ) → a ≤ j → p j ≡ false) → ones_from p a n ≡ 0
unfolding ones_from
ones_from-none p a zero none = refl
ones_from-none p a (suc n) none = (λ i. cond (none a (omega arith) i) 1 0 + ones_from-none p (a + 1) n (λ j ge. none j (omega arith)) i)

-- The bits of a word, as truth values.
word_bit : ℕ → ℕ → Bool
word_bit w j = eqb (bit_at w j) 1

as_number : (b : ℕ) → b < 2 → cond (eqb b 1) 1 0 ≡ b
as_number zero lt = refl
as_number (suc zero) lt = refl
as_number (suc (suc b)) lt = absurd (omega arith)

-- Truth values that equal the bits of a word give that word as their mask.
mask_l_is : (ms : List Bool) (w : ℕ) → length ms ≤ 64 → w < 2 ^ 64 → ((j : ℕ) → j < 64 → get_or ms j false ≡ eqb (bit_at w j) 1) → mask_l ms ≡ w
mask_l_is ms w short fits same =
    same_from_bits_below 64 (mask_l ms) w (omega (arith, mask_l-lt ms, pow_mono {i = length ms} {j = 64} short)) fits (λ j lt.
    bit_mask_l ms j ∙ ap (λ b. cond b 1 0) (same j lt) ∙ as_number (bit_at w j) (bit_at-lt w j))

ones_of_word : (w : ℕ) → w < 2 ^ 64 → ones_from (word_bit w) 0 64 ≡ count_ones w
unfolding word_bit
ones_of_word w fits =
    let ms = map (word_bit w) (range_with_len 0 64) in
    sym (ones_by_is (word_bit w) 0 64)
    ∙ sym (ones-mask_l (word_bit w) (range_with_len 0 64))
    ∙ ap count_ones (mask_l_is ms w (omega (arith, length-map-range_with_len (word_bit w) 0 64)) fits (λ j lt. get_or-map-range_with_len (word_bit w) 0 64 j j false lt (omega arith)))

-- The number of bits set in the first `m` words.
ones_of_words : (words : List ℕ) (m : ℕ) → AreWords words → m ≤ length words → ones_from (bit words) 0 (64 * m) ≡ sum_l (map count_ones (take m words))
unfolding ones_from word_bit
ones_of_words words zero fits le = refl
ones_of_words words (suc m) fits le =
    ap (ones_from (bit words) 0) more
    ∙ ones_from-split (bit words) 0 (64 * m) 64
    ∙ (λ i. ones_of_words words m fits (omega arith) i + here i)
    ∙ sym (ones-take_one words m (omega arith))
    ∙ ap (λ k. sum_l (map count_ones (take k words))) next
  where
    more : 64 * suc m ≡ 64 * m + 64
    more = omega arith

    next : m + 1 ≡ suc m
    next = omega arith

    here : ones_from (bit words) (0 + 64 * m) 64 ≡ count_ones (get_or words m 0)
    here =
        ones_from-same (bit words) (word_bit (get_or words m 0)) (0 + 64 * m) 0 64 (λ j lt. ap (bit words) (place j) ∙ bit-at words m j lt ∙ ap (λ k. eqb (bit_at (get_or words m 0) k) 1) (alone j))
        ∙ ones_of_word (get_or words m 0) (fits m)
      where
        place : (j : ℕ) → 0 + 64 * m + j ≡ 64 * m + j
        place j = omega arith

        alone : (j : ℕ) → j ≡ 0 + j
        alone j = omega arith

-- The number of places of a row that are true equals the number of bits set in its words.
count_by-IsRow : {len : ℕ} {words : List ℕ} {row : List Bool} → IsRow len words row → AreWords words → count_by (λ b. b) row ≡ sum_l (map count_ones words)
unfolding truths
count_by-IsRow {len} {words} {row} r fits =
    let spare = 64 * length words - len in
    let all : len + spare ≡ 64 * length words = omega (arith, r.packed.enough) in
    sym (ap (count_by (λ b. b)) r.shows)
    ∙ ones_from_is (bit words) 0 len
    ∙ omega (arith, ones_from-split (bit words) 0 len spare, ones_from-none (bit words) (0 + len) spare (λ j ge. r.packed.clear j (omega arith)), ap (ones_from (bit words) 0) all, ones_of_words words (length words) fits (omega arith), ap (λ ws. sum_l (map count_ones ws)) (take-length words))

-- `words_of` gives the words of a row.
pub words_of-IsRow : {len : ℕ} {words : List ℕ} {row : List Bool} → IsRow len words row → AreWords words → words_of row ≡ words
unfolding words_of
words_of-IsRow {len} {words} {row} r fits =
    let n = div_ceil (length row) 64 in
    let f = λ (k : ℕ). mask_l (take 64 (drop (64 * k) row)) in
    let long : length words ≡ n = r.packed.enough ∙ ap (λ m. div_ceil m 64) (sym (IsRow-length r)) in
    ext_get_or 0 (map f (range_with_len 0 n)) words (length-map-range_with_len f 0 n ∙ sym long) (λ k lt.
    let below : k < n = omega (arith, length-map-range_with_len f 0 n) in
    get_or-map-range_with_len f 0 n k k 0 below (omega arith)
    ∙ mask_l_is (take 64 (drop (64 * k) row)) (get_or words k 0) (omega (arith, length-take 64 (drop (64 * k) row))) (fits k)
    (λ j small. get_or-chunk (64 * k) 64 row j false small ∙ IsRow-get_or r (64 * k + j) ∙ bit-at words k j small))

test_of : (b : Bool) → eqb (cond b 1 0) 1 ≡ b
test_of true = refl
test_of false = refl

length-words_of : (row : List Bool) → length (words_of row) ≡ div_ceil (length row) 64
unfolding words_of
length-words_of row = length-map-range_with_len (λ k. mask_l (take 64 (drop (64 * k) row))) 0 (div_ceil (length row) 64)

-- `words_of` holds the values of a row.
bit-words_of : (row : List Bool) (i : ℕ) → bit (words_of row) i ≡ get_or row i false
unfolding words_of bit
bit-words_of row i =
    let n = div_ceil (length row) 64 in
    let k = i / 64 in
    let j = i % 64 in
    let f = λ (k : ℕ). mask_l (take 64 (drop (64 * k) row)) in
    let place : 64 * k + j ≡ i = omega arith in
    elim (cases_lt k n) [
      | inl lt ↦
          ap (λ w. eqb (bit_at w j) 1) (get_or-map-range_with_len f 0 n k k 0 lt (omega arith))
          ∙ ap (λ b. eqb b 1) (bit_mask_l (take 64 (drop (64 * k) row)) j)
          ∙ test_of (get_or (take 64 (drop (64 * k) row)) j false)
          ∙ get_or-chunk (64 * k) 64 row j false (omega arith)
          ∙ ap (λ p. get_or row p false) place
      | inr ge ↦
          ap (λ w. eqb (bit_at w j) 1) (get_or_past (map f (range_with_len 0 n)) k 0 (omega (arith, length-map-range_with_len f 0 n)))
          ∙ ap (λ b. eqb b 1) (bit_at-zero j)
          ∙ sym (get_or_past row i false (omega arith))
    ]

pub AreWords-words_of : (row : List Bool) → AreWords (words_of row)
unfolding words_of
AreWords-words_of row k =
    let n = div_ceil (length row) 64 in
    let f = λ (k : ℕ). mask_l (take 64 (drop (64 * k) row)) in
    let part = take 64 (drop (64 * k) row) in
    elim (cases_lt k n) [
      | inl lt ↦ omega (arith, get_or-map-range_with_len f 0 n k k 0 lt (omega arith), mask_l-lt part, pow_mono {i = length part} {j = 64} (omega (arith, length-take 64 (drop (64 * k) row))))
      | inr ge ↦ omega (arith, get_or_past (map f (range_with_len 0 n)) k 0 (omega (arith, length-map-range_with_len f 0 n)))
    ]

pub IsRow-words_of : (row : List Bool) → IsRow (length row) (words_of row) row
IsRow-words_of row = IsRow-from_bits (length row) (words_of row) row (length-words_of row) refl (bit-words_of row)

-- The number of places of a row that are true, counted by its words.
pub count_by-words_of : (row : List Bool) → count_by (λ b. b) row ≡ sum_l (map count_ones (words_of row))
count_by-words_of row = count_by-IsRow (IsRow-words_of row) (AreWords-words_of row)

-- Rows of equal length with the same words are equal.
pub same_row : (x y : List Bool) → length x ≡ length y → words_of x ≡ words_of y → x ≡ y
same_row x y long same =
    ext_get_or false x y long (λ i lt. sym (bit-words_of x i) ∙ ap (λ ws. bit ws i) same ∙ bit-words_of y i)

-- Comparing the words of two rows of equal length decides whether the rows are equal.
pub rows_equal : (x y : List Bool) (r : Bool) → length x ≡ length y → r ≡ pointwise eqb (words_of x) (words_of y) → r ≡ row_eq x y
rows_equal x y r long tested =
    let words_tell = slice_eq-Decides unsigned_Decides (words_of x) (words_of y) r tested in
    same_from_decides r (row_eq x y) (λ e. same_row x y long (words_tell.0 e), λ e. words_tell.1 (ap words_of e)) (row_eq_decides x y)

-- Rows of different lengths aren't equal.
pub rows_apart : (x y : List Bool) → length x ≢ length y → row_eq x y ≡ false
rows_apart x y apart = false_from_ne_true (row_eq x y) (λ e. apart (ap length ((row_eq_decides x y).0 e)))
