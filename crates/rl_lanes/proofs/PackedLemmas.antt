-- Lemmas about the truth values that words hold.
use Rattle.std.proofs.Common.{◌≡◌, ◌≢◌, ℕ, zero, suc, ◌+◌, ◌-◌, ◌*◌, ◌/◌, ◌%◌, ◌^◌, ◌<◌, ◌≤◌, ◌⊎◌, Bool, true, false, cond, not, ◌&&◌, ◌||◌, eqb, List, length, get_or, set, replicate, min, max, refl, sym, ap, ◌∙◌, subst, inl, inr, arith, bit_and, bit_or, w64}
use Rattle.std.specs.Int.{bit_at, bit_not, div_ceil, trailing_zeros}
use Rattle.std.proofs.lemmas.Bool.{eq-eqb, cases_eq, cases_lt}
use Rattle.std.proofs.lemmas.List.{ext_get_or, get_or_past, get_or-set_same, get_or-set_other, length-set}
use Rattle.std.proofs.lemmas.List.FromFn.{length-map-range_with_len, get_or-map-range_with_len}
use Rattle.std.proofs.lemmas.Nat.Bits.{bit_at-lt, bit_at-zero, bit_at_and, bit_at_or, bit_at_not, bit_at-trailing_zeros}
use Rattle.rl_lanes.specs.internal.Words.{JoinsEach, SomePair, NoPair, and_not}
use Rattle.std.specs.Simd.Lanes.{zip2}
use Rattle.std.proofs.lemmas.Simd.{length-zip2, length-replicate}
use Rattle.rl_lanes.specs.Packed.{bit, truths, IsPacked}
use Rattle.rl_lanes.proofs.RowLemmas.{get_or-zip2_all}

pub length-truths : (len : ℕ) (words : List ℕ) → length (truths len words) ≡ len
unfolding truths
length-truths len words = length-map-range_with_len (bit words) 0 len

pub get_or-truths : (len : ℕ) (words : List ℕ) (i : ℕ) (d : Bool) → i < len → get_or (truths len words) i d ≡ bit words i
unfolding truths
get_or-truths len words i d lt = get_or-map-range_with_len (bit words) 0 len i i d lt (omega arith)

-- After its end, a row is false, and so are the bits of its words.
pub get_or-truths_all : (len : ℕ) (words : List ℕ) (i : ℕ) → IsPacked len words → get_or (truths len words) i false ≡ bit words i
get_or-truths_all len words i packed =
    elim (cases_lt i len) [
      | inl lt ↦ get_or-truths len words i false lt
      | inr ge ↦ get_or_past (truths len words) i false (omega (arith, length-truths len words)) ∙ sym (packed.clear i ge)
    ]

-- The words hold a row if they agree with it at every place.
pub truths_is : (len : ℕ) (words : List ℕ) (row : List Bool) → length row ≡ len → ((i : ℕ) → i < len → bit words i ≡ get_or row i false) → truths len words ≡ row
truths_is len words row long same =
    ext_get_or false (truths len words) row (length-truths len words ∙ sym long)
    (λ i lt. let below : i < len = omega (arith, length-truths len words) in get_or-truths len words i false below ∙ same i below)

-- The place of bit `j` of word `k`.
pub bit-at : (words : List ℕ) (k j : ℕ) → j < 64 → bit words (64 * k + j) ≡ eqb (bit_at (get_or words k 0) j) 1
unfolding bit
bit-at words k j lt =
    let word : (64 * k + j) / 64 ≡ k = omega arith in
    let place : (64 * k + j) % 64 ≡ j = omega arith in
    (λ i. eqb (bit_at (get_or words (word i) 0) (place i)) 1)

max_zero : (q : ℕ) → max 0 q ≡ q
max_zero q = omega arith

min_zero : (q : ℕ) → min 0 q ≡ 0
min_zero q = omega arith

min_one : (q : ℕ) → q < 2 → min 1 q ≡ q
min_one q lt = omega arith

-- After the last word, every place is false.
pub bit_past : (words : List ℕ) (i : ℕ) → length words ≤ i / 64 → bit words i ≡ false
unfolding bit
bit_past words i past = ap (λ w. eqb (bit_at w (i % 64)) 1) (get_or_past words (i / 64) 0 past) ∙ ap (λ b. eqb b 1) (bit_at-zero (i % 64))

-- ---- a bit as 0 or 1
bits_or : (p q : ℕ) → p < 2 → q < 2 → eqb (max p q) 1 ≡ (eqb p 1 || eqb q 1)
bits_or zero q a b = ap (λ m. eqb m 1) (max_zero q)
bits_or (suc zero) q a b = eq-eqb _ 1 (omega arith)
bits_or (suc (suc p)) q a b = absurd (omega arith)

bits_and : (p q : ℕ) → p < 2 → q < 2 → eqb (min p q) 1 ≡ (eqb p 1 && eqb q 1)
bits_and zero q a b = ap (λ m. eqb m 1) (min_zero q)
bits_and (suc zero) q a b = ap (λ m. eqb m 1) (min_one q b)
bits_and (suc (suc p)) q a b = absurd (omega arith)

bits_not : (q : ℕ) → q < 2 → eqb (1 - q) 1 ≡ not (eqb q 1)
bits_not zero b = refl
bits_not (suc zero) b = refl
bits_not (suc (suc q)) b = absurd (omega arith)

word-or : (x y j : ℕ) → eqb (bit_at (bit_or x y) j) 1 ≡ (eqb (bit_at x j) 1 || eqb (bit_at y j) 1)
word-or x y j = ap (λ m. eqb m 1) (bit_at_or x y j) ∙ bits_or _ _ (bit_at-lt x j) (bit_at-lt y j)

word-and : (x y j : ℕ) → eqb (bit_at (bit_and x y) j) 1 ≡ (eqb (bit_at x j) 1 && eqb (bit_at y j) 1)
word-and x y j = ap (λ m. eqb m 1) (bit_at_and x y j) ∙ bits_and _ _ (bit_at-lt x j) (bit_at-lt y j)

word-and_not : (x y j : ℕ) → y < 2 ^ 64 → j < 64 → eqb (bit_at (and_not x y) j) 1 ≡ (eqb (bit_at x j) 1 && not (eqb (bit_at y j) 1))
word-and_not x y j fits lt =
    word-and x (bit_not w64 y) j
    ∙ ap (λ b. eqb (bit_at x j) 1 && b) (ap (λ m. eqb m 1) (bit_at_not w64 y j fits lt) ∙ bits_not _ (bit_at-lt y j))

-- Each number of the list is a word of 64 bits.
abbrev pub AreWords : List ℕ → Type 0
AreWords words = (k : ℕ) → get_or words k 0 < 2 ^ 64

-- ---- the values of words combined by f, which does to bits what t does to truth values
pub record JoinsBits (f : ℕ → ℕ → ℕ) (t : Bool → Bool → Bool) : Type 0 where
  pub each : (x y j : ℕ) → y < 2 ^ 64 → j < 64 → eqb (bit_at (f x y) j) 1 ≡ t (eqb (bit_at x j) 1) (eqb (bit_at y j) 1)
  pub none : t false false ≡ false

pub JoinsBits-or : JoinsBits bit_or (λ x y. x || y)
JoinsBits-or = record { each = λ x y j fits lt. word-or x y j; none = refl }

pub JoinsBits-and : JoinsBits bit_and (λ x y. x && y)
JoinsBits-and = record { each = λ x y j fits lt. word-and x y j; none = refl }

pub JoinsBits-and_not : JoinsBits and_not (λ x y. x && not y)
JoinsBits-and_not = record { each = word-and_not; none = refl }

pub bit-joined : (f : ℕ → ℕ → ℕ) (t : Bool → Bool → Bool) (a b c : List ℕ) (i : ℕ) → JoinsBits f t → length a ≡ length b → AreWords b → JoinsEach f a b c → bit c i ≡ t (bit a i) (bit b i)
unfolding bit
bit-joined f t a b c i law same fits joined =
    elim (cases_lt (i / 64) (length a)) [
      | inl lt ↦ ap (λ w. eqb (bit_at w (i % 64)) 1) (joined.each (i / 64) lt) ∙ law.each _ _ (i % 64) (fits (i / 64)) (omega arith)
      | inr ge ↦
          bit_past c i (omega (arith, joined.long)) ∙ sym law.none ∙ sym (λ j. t (bit_past a i ge j) (bit_past b i (omega arith) j))
    ]

-- If `f` isn't 0 for some pair of words, `t` is true at some place.
pub place_from_pair : (f : ℕ → ℕ → ℕ) (t : Bool → Bool → Bool) (a b : List ℕ) → JoinsBits f t → AreWords b → ((x y : ℕ) → f x y ≤ x) → AreWords a → SomePair f a b → (i : ℕ) × (t (bit a i) (bit b i) ≡ true)
place_from_pair f t a b law fits below fits_a (k, lt, set) =
    let x = get_or a k 0 in
    let y = get_or b k 0 in
    let small : f x y < 2 ^ 64 = omega (arith, below x y, fits_a k) in
    let lowest = bit_at-trailing_zeros w64 (f x y) (omega (arith, set)) small in
    let j = trailing_zeros w64 (f x y) in
    (64 * k + j, (λ i. t (bit-at a k j lowest.0 i) (bit-at b k j lowest.0 i)) ∙ sym (law.each x y j (fits k) lowest.0) ∙ eq-eqb _ 1 lowest.1)

-- If `f` is 0 for all pairs of words, `t` is false at every place.
pub no_place_from_pairs : (f : ℕ → ℕ → ℕ) (t : Bool → Bool → Bool) (a b : List ℕ) → JoinsBits f t → length a ≡ length b → AreWords b → NoPair f a b → (i : ℕ) → t (bit a i) (bit b i) ≡ false
unfolding bit
no_place_from_pairs f t a b law same fits none i =
    elim (cases_lt (i / 64) (length a)) [
      | inl lt ↦ sym (law.each _ _ (i % 64) (fits (i / 64)) (omega arith)) ∙ ap (λ w. eqb (bit_at w (i % 64)) 1) (none (i / 64) lt) ∙ ap (λ b. eqb b 1) (bit_at-zero (i % 64))
      | inr ge ↦ (λ j. t (bit_past a i ge j) (bit_past b i (omega arith) j)) ∙ law.none
    ]

-- ---- rows
-- The words hold the values of a row.
pub record IsRow (len : ℕ) (words : List ℕ) (row : List Bool) : Type 0 where
  pub packed : IsPacked len words
  pub shows : truths len words ≡ row

pub IsRow-length : {len : ℕ} {words : List ℕ} {row : List Bool} → IsRow len words row → length row ≡ len
IsRow-length {len} {words} r = sym (ap length r.shows) ∙ length-truths len words

pub IsRow-get_or : {len : ℕ} {words : List ℕ} {row : List Bool} → IsRow len words row → (i : ℕ) → get_or row i false ≡ bit words i
IsRow-get_or {len} {words} r i = sym (ap (λ l. get_or l i false) r.shows) ∙ get_or-truths_all len words i r.packed

-- Rows of equal length have the same number of words.
pub IsRow-words : {m n : ℕ} {a b : List ℕ} {x y : List Bool} → IsRow m a x → IsRow n b y → length x ≡ length y → length a ≡ length b
IsRow-words {m} {n} r s same =
    let lens : m ≡ n = sym (IsRow-length r) ∙ same ∙ IsRow-length s in
    r.packed.enough ∙ ap (λ k. div_ceil k 64) lens ∙ sym s.packed.enough

pub IsRow-from_bits : (len : ℕ) (words : List ℕ) (row : List Bool) → length words ≡ div_ceil len 64 → length row ≡ len → ((i : ℕ) → bit words i ≡ get_or row i false) → IsRow len words row
IsRow-from_bits len words row enough long same = record {
  packed = record { enough = enough; clear = λ i ge. same i ∙ get_or_past row i false (omega arith) };
  shows = truths_is len words row long (λ i lt. same i);
}

-- A row whose words are all 0.
pub IsRow-zeros : (len : ℕ) → IsRow len (replicate (div_ceil len 64) 0) (replicate len false)
unfolding bit
IsRow-zeros len = IsRow-from_bits len _ (replicate len false) (length-replicate (div_ceil len 64) 0) (length-replicate len false) (λ i.
    ap (λ w. eqb (bit_at w (i % 64)) 1) (zero_word (div_ceil len 64) (i / 64)) ∙ ap (λ b. eqb b 1) (bit_at-zero (i % 64)) ∙ sym (false_value len i))
  where
    zero_word : (n k : ℕ) → get_or (replicate n zero) k zero ≡ zero
    zero_word zero k = refl
    zero_word (suc n) zero = refl
    zero_word (suc n) (suc k) = zero_word n k

    false_value : (n k : ℕ) → get_or (replicate n false) k false ≡ false
    false_value zero k = refl
    false_value (suc n) zero = refl
    false_value (suc n) (suc k) = false_value n k

-- A row whose words are combined by `f` with those of another.
pub IsRow-joined : (f : ℕ → ℕ → ℕ) (t : Bool → Bool → Bool) {m n : ℕ} {a b c : List ℕ} {x y : List Bool} → JoinsBits f t → IsRow m a x → IsRow n b y → length x ≡ length y → AreWords b → JoinsEach f a b c → IsRow m c (zip2 t x y)
IsRow-joined f t {m} {n} {a} {b} {c} {x} {y} law r s same fits joined =
    IsRow-from_bits m c (zip2 t x y) (joined.long ∙ r.packed.enough) (length-zip2 t x y same ∙ IsRow-length r) (λ i.
    bit-joined f t a b c i law (IsRow-words r s same) fits joined
    ∙ sym (λ j. t (IsRow-get_or r i j) (IsRow-get_or s i j))
    ∙ sym (get_or-zip2_all t x y i law.none same))

-- A row after setting the value at a place.
pub IsRow-set : {len : ℕ} {words : List ℕ} {row : List Bool} (i word : ℕ) (to : Bool) → IsRow len words row → i < length row → bit_at word (i % 64) ≡ cond to 1 0 → ((k : ℕ) → k < 64 → k ≢ i % 64 → bit_at word k ≡ bit_at (get_or words (i / 64) 0) k) → IsRow len (set words (i / 64) word) (set row i to)
unfolding bit
IsRow-set {len} {words} {row} i word to r lt at others =
    IsRow-from_bits len (set words (i / 64) word) (set row i to) (length-set words (i / 64) word ∙ r.packed.enough) (length-set row i to ∙ IsRow-length r) (λ k. cases k (cases_eq (k / 64) (i / 64)) (cases_eq (k % 64) (i % 64)))
  where
    there : i / 64 < length words
    there = omega (arith, IsRow-length r, r.packed.enough)

    value : (b : Bool) → eqb (cond b 1 0) 1 ≡ b
    value true = refl
    value false = refl

    cases : (k : ℕ) → (k / 64 ≡ i / 64) ⊎ (k / 64 ≢ i / 64) → (k % 64 ≡ i % 64) ⊎ (k % 64 ≢ i % 64) → bit (set words (i / 64) word) k ≡ get_or (set row i to) k false
    cases k (inl same_word) (inl same_bit) =
        let here : k ≡ i = omega arith in
        subst (λ j. bit (set words (i / 64) word) j ≡ get_or (set row i to) j false) (sym here)
        (ap (λ w. eqb (bit_at w (i % 64)) 1) (get_or-set_same words (i / 64) word 0 there) ∙ ap (λ b. eqb b 1) at ∙ value to ∙ sym (get_or-set_same row i to false lt))
    cases k (inl same_word) (inr other_bit) =
        let other : k ≢ i = λ e. other_bit (ap (λ n. n % 64) e) in
        ap (λ n. eqb (bit_at (get_or (set words (i / 64) word) n 0) (k % 64)) 1) same_word
        ∙ ap (λ w. eqb (bit_at w (k % 64)) 1) (get_or-set_same words (i / 64) word 0 there)
        ∙ ap (λ b. eqb b 1) (others (k % 64) (omega arith) other_bit)
        ∙ ap (λ n. eqb (bit_at (get_or words n 0) (k % 64)) 1) (sym same_word)
        ∙ sym (IsRow-get_or r k)
        ∙ sym (get_or-set_other row i k to false other)
    cases k (inr other_word) bits =
        let other : k ≢ i = λ e. other_word (ap (λ n. n / 64) e) in
        ap (λ w. eqb (bit_at w (k % 64)) 1) (get_or-set_other words (i / 64) (k / 64) word 0 other_word)
        ∙ sym (IsRow-get_or r k)
        ∙ sym (get_or-set_other row i k to false other)

-- The values of a row of at most 64 places, read from its first word.
pub IsRow-word : {len w : ℕ} {words : List ℕ} {row : List Bool} → IsRow len words row → w ≡ get_or words 0 0 → (i : ℕ) → i < 64 → get_or row i false ≡ eqb (bit_at w i) 1
IsRow-word {len} {w} {words} r word_is i lt =
    IsRow-get_or r i ∙ ap (bit words) place ∙ bit-at words 0 i lt ∙ ap (λ n. eqb (bit_at n i) 1) (sym word_is)
  where
    place : i ≡ 64 * 0 + i
    place = omega arith

-- A row of 1 to 64 places after replacing its word.
word_put : (words : List ℕ) (word i : ℕ) → 0 < length words → i < 64 → bit (set words 0 word) i ≡ eqb (bit_at word i) 1
word_put words word i some lt =
    ap (bit (set words 0 word)) place ∙ bit-at (set words 0 word) 0 i lt ∙ ap (λ n. eqb (bit_at n i) 1) (get_or-set_same words 0 word 0 some)
  where
    place : i ≡ 64 * 0 + i
    place = omega arith

pub IsPacked-word : {len : ℕ} {words : List ℕ} {row : List Bool} (word : ℕ) → IsRow len words row → 0 < length row → length row ≤ 64 → ((i : ℕ) → length row ≤ i → i < 64 → bit_at word i ≡ 0) → IsPacked len (set words 0 word)
IsPacked-word {len} {words} {row} word r some few clear = record {
  enough = length-set words 0 word ∙ r.packed.enough;
  clear = λ i ge. elim (cases_lt i 64) [
    | inl lt ↦ word_put words word i (omega (arith, IsRow-length r, r.packed.enough)) lt ∙ ap (λ b. eqb b 1) (clear i (omega (arith, IsRow-length r)) lt)
    | inr past ↦ bit_past (set words 0 word) i (omega (arith, length-set words 0 word, IsRow-length r, r.packed.enough))
  ];
}

pub truths-word : {len : ℕ} {words : List ℕ} {row : List Bool} (word : ℕ) → IsRow len words row → 0 < length row → length row ≤ 64 → ((i : ℕ) → length row ≤ i → i < 64 → bit_at word i ≡ 0) → (i : ℕ) → i < 64 → get_or (truths len (set words 0 word)) i false ≡ eqb (bit_at word i) 1
truths-word {len} {words} word r some few clear i lt =
    get_or-truths_all len (set words 0 word) i (IsPacked-word word r some few clear)
    ∙ word_put words word i (omega (arith, IsRow-length r, r.packed.enough)) lt
