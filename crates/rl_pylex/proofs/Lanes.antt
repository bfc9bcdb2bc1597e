-- The content of the lanes of a block of bytes, and the mask of the lanes that satisfy a test.
use Rattle.std.proofs.Common.{◌≡◌, ℕ, zero, suc, ◌+◌, ◌-◌, ◌*◌, ◌/◌, ◌%◌, ◌^◌, ◌<◌, ◌≤◌, Bool, true, false, cond, not, ◌&&◌, ◌||◌, eqb, leb, List, [], ◌∷◌, length, get_or, drop, map, replicate, refl, subst, ap, ap₂, sym, ◌∙◌, arith, w8, Fits, bit_and, bit_or}
use Rattle.std.specs.Prelude.{◌==◌}
use Rattle.std.specs.Char.{is_ascii_lowercase}
use Rattle.std.specs.List.{prefix_len, range_with_len}
use Rattle.std.specs.Int.Count.{count_trailing_zeros}
use Rattle.std.specs.Simd.Lanes.{Each1, chunk, zip2, mask_l, top}
use Rattle.std.proofs.lemmas.Bool.{eq-eqb, ne_eqb}
use Rattle.std.proofs.lemmas.Bool.Decides.{nat_tests}
use Rattle.std.proofs.lemmas.Nat.{and_mask}
use Rattle.std.proofs.Common.{add-zero}
use Rattle.std.proofs.lemmas.List.{length-map, get_or-map}
use Rattle.std.proofs.lemmas.List.FromFn.{get_or-range_with_len}
use Rattle.std.proofs.lemmas.List.Folds.{prefix_len-append}
use Rattle.std.proofs.lemmas.List.Sums.{prefix_len-le-length, prefix_len_passes}
use Rattle.std.proofs.lemmas.Simd.{zip2_splat, get_or-replicate, Each1-get_or, length-zip2, get_or-zip2, length-chunk, chunk-drop, get_or-chunk, map-map, mask_l-mod, first_set_mask_l, swz_l, SwzOk, SwzOk-from_below}
use Rattle.rl_pylex.specs.Bytes.{in_line}
use Rattle.rl_pylex.specs.internal.Bodies.{is_plain}
use Rattle.rl_pylex.specs.internal.Absence.{is_ordinary}
use Rattle.rl_pylex.specs.internal.Blocks.{is_stop, stops_at}
use Rattle.rl_pylex.proofs.ClassTables.{table_from, read_each}
use Rattle.rl_pylex.proofs.Runs.{prefix_len-not-not}

-- A lane of `simd_eq` and of `simd_ne`.
abbrev pub hit : ℕ → ℕ → ℕ
hit a b = cond (eqb a b) 255 0

abbrev pub miss : ℕ → ℕ → ℕ
miss a b = cond (not (eqb a b)) 255 0

-- A lane of `simd_ge`, with its sides swapped.
abbrev pub at_most : ℕ → ℕ → ℕ
at_most a b = cond (leb a b) 255 0

-- ---- an operator on vectors that were computed lane by lane
zip2-same : (h : ℕ → ℕ → ℕ) (f g : ℕ → ℕ) (xs : List ℕ) → zip2 h (map f xs) (map g xs) ≡ map (λ x. h (f x) (g x)) xs
zip2-same h f g [] = refl
zip2-same h f g (x ∷ xs) = ap (λ r. h (f x) (g x) ∷ r) (zip2-same h f g xs)

-- Bytes for which two functions agree.
map-bytes : {B : Type 0} (f g : ℕ → B) → ((x : ℕ) → x < 256 → f x ≡ g x) → (xs : List ℕ) → Each1 (Fits w8) xs → map f xs ≡ map g xs
map-bytes f g same [] fits = refl
map-bytes f g same (x ∷ xs) fits = ap₂ (λ b r. b ∷ r) (same x fits.0.fits) (map-bytes f g same xs fits.1)

-- ---- a table of 16 bytes, looked up with a half of each lane
small-lanes : (f : ℕ → ℕ) → ((x : ℕ) → x < 256 → f x < 16) → (v : List ℕ) → Each1 (Fits w8) v → Each1 (λ j. j < 16) (map f v)
small-lanes f small [] fits = fits
small-lanes f small (x ∷ xs) fits = (small x fits.0.fits, small-lanes f small xs fits.1)

read-lane : (table : List ℕ) (i j : ℕ) → i < 16 → j < 16 → cond (leb 128 j) 0 (get_or table (16 * (i / 16) + j) 0) ≡ get_or table j 0
read-lane table i j ih jh =
    let place : 16 * (i / 16) + j ≡ j = omega arith in
    let kept : leb 128 j ≡ false = grind (arith, nat_tests) in
    rw (kept, place) refl

read-lanes : (table : List ℕ) (f : ℕ → ℕ) → ((x : ℕ) → x < 256 → f x < 16) → (i : ℕ) (v : List ℕ) → i + length v ≤ 16 → Each1 (Fits w8) v
    → swz_l w8 16 table i (map f v) ≡ map (λ x. get_or table (f x) 0) v
read-lanes table f small i [] room fits = refl
read-lanes table f small i (x ∷ xs) room fits =
    ap₂ (λ b r. b ∷ r) (read-lane table i (f x) (omega arith) (small x fits.0.fits)) (read-lanes table f small (suc i) xs (omega (arith, room)) fits.1)

low-small : (x : ℕ) → x < 256 → bit_and x 15 < 16
low-small x h = omega (arith, and_mask x 4)

high-small : (x : ℕ) → x < 256 → x / 2 ^ 4 < 16
high-small x h = omega arith

module _ (v : List ℕ) (fits : (length v ≡ 16) × Each1 (Fits w8) v) where
  lows : zip2 bit_and v (replicate 16 15) ≡ map (λ x. bit_and x 15) v
  lows = zip2_splat bit_and v 16 15 fits.0

  highs : zip2 (λ a b. a / 2 ^ b) v (replicate 16 4) ≡ map (λ x. x / 2 ^ 4) v
  highs = zip2_splat (λ a b. a / 2 ^ b) v 16 4 fits.0

  readable : (js : List ℕ) (f : ℕ → ℕ) → js ≡ map f v → ((x : ℕ) → x < 256 → f x < 16) → SwzOk w8 16 16 0 js
  readable js f e small =
      let long : length js ≡ 16 = ap length e ∙ length-map v f ∙ fits.0 in
      SwzOk-from_below w8 16 1 16 0 js refl (omega (arith, long)) (subst (Each1 (λ j. j < 16)) (sym e) (small-lanes f small v fits.1))

  pub lows_read : SwzOk w8 16 16 0 (zip2 bit_and v (replicate 16 15))
  lows_read = readable _ (λ x. bit_and x 15) lows low-small

  pub highs_read : SwzOk w8 16 16 0 (zip2 (λ a b. a / 2 ^ b) v (replicate 16 4))
  highs_read = readable _ (λ x. x / 2 ^ 4) highs high-small

  kinds : (low high : List ℕ) → zip2 bit_and (swz_l w8 16 low 0 (zip2 bit_and v (replicate 16 15))) (swz_l w8 16 high 0 (zip2 (λ a b. a / 2 ^ b) v (replicate 16 4)))
      ≡ map (λ x. bit_and (get_or low (bit_and x 15) 0) (get_or high (x / 2 ^ 4) 0)) v
  kinds low high =
      ap₂ (zip2 bit_and)
      (ap (swz_l w8 16 low 0) lows ∙ read-lanes low (λ x. bit_and x 15) low-small 0 v (omega (arith, fits.0)) fits.1)
      (ap (swz_l w8 16 high 0) highs ∙ read-lanes high (λ x. x / 2 ^ 4) high-small 0 v (omega (arith, fits.0)) fits.1)
      ∙ zip2-same bit_and (λ x. get_or low (bit_and x 15) 0) (λ x. get_or high (x / 2 ^ 4) 0) v

  -- two tables that are looked up with the halves of each byte decide whether it belongs to a class
  pub halves_tell : (low high : List ℕ) (class : ℕ → Bool) → table_from (λ x. bit_and (get_or low (bit_and x 15) 0) (get_or high (x / 2 ^ 4) 0) == 0) 0 256 ≡ table_from class 0 256
      → map (λ k. k == 0) (zip2 bit_and (swz_l w8 16 low 0 (zip2 bit_and v (replicate 16 15))) (swz_l w8 16 high 0 (zip2 (λ a b. a / 2 ^ b) v (replicate 16 4)))) ≡ map class v
  halves_tell low high class same =
      let kind : ℕ → ℕ = λ x. bit_and (get_or low (bit_and x 15) 0) (get_or high (x / 2 ^ 4) 0) in
      ap (map (λ k. k == 0)) (kinds low high) ∙ map-map (λ k. k == 0) kind v
      ∙ map-bytes (λ x. kind x == 0) class (λ x h. read_each (λ y. kind y == 0) class x same h) v fits.1

-- ---- masks
pub mask_is : (bits ms : List Bool) → bits ≡ ms → length ms ≡ 16 → mask_l bits % 2 ^ 64 ≡ mask_l ms
mask_is bits ms e long = ap (λ l. mask_l l % 2 ^ 64) e ∙ mask_l-mod ms 64 (omega (arith, long))

-- v has 16 lanes, and lane k holds f k.
record Holds (v : List ℕ) (f : ℕ → ℕ) : Type 0 where
  long : length v ≡ 16
  each : (k : ℕ) → k < 16 → get_or v k 0 ≡ f k

Holds-self : (v : List ℕ) → length v ≡ 16 → Holds v (λ k. get_or v k 0)
Holds-self v long = record { long = long; each = λ k l. refl }

Holds-splat : (x : ℕ) → Holds (replicate 16 x) (λ _. x)
Holds-splat x = record { long = refl; each = λ k l. get_or-replicate 16 k x 0 l }

Holds-zip2 : (h : ℕ → ℕ → ℕ) (a b : List ℕ) (f g : ℕ → ℕ) → Holds a f → Holds b g → Holds (zip2 h a b) (λ k. h (f k) (g k))
Holds-zip2 h a b f g p q = record {
  long = length-zip2 h a b (p.long ∙ sym q.long) ∙ p.long;
  each = λ k l. get_or-zip2 h a b k 0 0 0 (omega (arith, p.long)) (omega (arith, q.long)) ∙ ap₂ h (p.each k l) (q.each k l);
}

top-bits : (p : ℕ → Bool) (i n : ℕ) (v : List ℕ) → length v ≡ n → ((k : ℕ) → k < n → top 7 (get_or v k 0) ≡ p (i + k)) → map (top 7) v ≡ map p (range_with_len i n)
top-bits p i zero [] long each = refl
top-bits p i zero (x ∷ v) long each = absurd (omega (arith, long))
top-bits p i (suc n) [] long each = absurd (omega (arith, long))
top-bits p i (suc n) (x ∷ v) long each =
    ap₂ (λ b r. b ∷ r) (each 0 (omega arith) ∙ ap p (add-zero i))
    (top-bits p (i + 1) n v (omega (arith, long)) (λ k l. let place : i + suc k ≡ i + 1 + k = omega arith in each (suc k) (omega (arith, l)) ∙ ap p place))

odd-lane : (b : Bool) → cond {A = ℕ} (not b) 255 0 ≡ cond b 0 255
odd-lane true = refl
odd-lane false = refl

-- The lane of a byte's class.
odd-lanes : (kinds v : List ℕ) (class : ℕ → Bool) → length v ≡ 16 → map (λ k. k == 0) kinds ≡ map class v → Holds (zip2 miss kinds (replicate 16 0)) (λ k. cond (class (get_or v k 0)) 0 255)
odd-lanes kinds v class long e =
    let long_kinds : length kinds ≡ 16 = sym (length-map kinds (λ k. k == 0)) ∙ ap length e ∙ length-map v class ∙ long in
    let h = Holds-zip2 miss kinds (replicate 16 0) _ _ (Holds-self kinds long_kinds) (Holds-splat 0) in
    record {
      long = h.long;
      each = λ k l.
          let same : (get_or kinds k 0 == 0) ≡ class (get_or v k 0) =
          sym (get_or-map (λ x. x == 0) kinds k 0 false (omega (arith, long_kinds))) ∙ ap (λ bs. get_or bs k false) e ∙ get_or-map class v k 0 false (omega (arith, long)) in
          h.each k l ∙ odd-lane (get_or kinds k 0 == 0) ∙ ap (λ b. cond b 0 255) same;
    }

-- Whether a byte isn't a lower-case letter, by a subtraction that wraps around.
no-small : (x : ℕ) → x < 256 → leb 26 ((x + (256 - 97)) % 256) ≡ not (is_ascii_lowercase x)
unfolding table_from
no-small x h = read_each (λ c. leb 26 ((c + (256 - 97)) % 256)) (λ c. not (is_ascii_lowercase c)) x refl h

-- The bit of a byte, computed from the tests of its class, of the pair, and of the byte after it.
stop-bit : (b c d e : Bool) → top 7 (bit_or (bit_and (bit_and (cond c 255 0) (cond d 255 0)) (cond e 255 0)) (cond b 0 255)) ≡ (not b || (c && d && e))
stop-bit true true true true = refl
stop-bit true true true false = refl
stop-bit true true false e = elim e as (λ e. top 7 (bit_or (bit_and (bit_and (cond true 255 0) (cond false 255 0)) (cond e 255 0)) (cond true 0 255)) ≡ (not true || (true && false && e))) [ true ↦ refl | false ↦ refl ]
stop-bit true false true true = refl
stop-bit true false true false = refl
stop-bit true false false true = refl
stop-bit true false false false = refl
stop-bit false true true true = refl
stop-bit false true true false = refl
stop-bit false true false true = refl
stop-bit false true false false = refl
stop-bit false false true true = refl
stop-bit false false true false = refl
stop-bit false false false true = refl
stop-bit false false false false = refl

pub stop_lanes : (first second : ℕ) (block behind after kinds : List ℕ) → length block ≡ 16 → length behind ≡ 16 → (length after ≡ 16) × Each1 (Fits w8) after → map (λ k. k == 0) kinds ≡ map is_ordinary block
    → map (top 7) (zip2 bit_or (zip2 bit_and (zip2 bit_and (zip2 hit block (replicate 16 first)) (zip2 hit behind (replicate 16 second)))
    (zip2 at_most (replicate 16 26) (zip2 (λ a b. (a + (256 - b)) % 256) after (replicate 16 97)))) (zip2 miss kinds (replicate 16 0)))
    ≡ map (λ k. is_stop first second (get_or block k 0) (get_or behind k 0) (get_or after k 0)) (range_with_len 0 16)
stop_lanes first second block behind after kinds long long_behind fits e =
    let begins = Holds-zip2 hit block (replicate 16 first) _ _ (Holds-self block long) (Holds-splat first) in
    let follows = Holds-zip2 hit behind (replicate 16 second) _ _ (Holds-self behind long_behind) (Holds-splat second) in
    let moved = Holds-zip2 (λ a b. (a + (256 - b)) % 256) after (replicate 16 97) _ _ (Holds-self after fits.0) (Holds-splat 97) in
    let ends = Holds-zip2 at_most (replicate 16 26) _ _ _ (Holds-splat 26) moved in
    let odd = odd-lanes kinds block is_ordinary long e in
    let all = Holds-zip2 bit_or _ _ _ _ (Holds-zip2 bit_and _ _ _ _ (Holds-zip2 bit_and _ _ _ _ begins follows) ends) odd in
    top-bits (λ k. is_stop first second (get_or block k 0) (get_or behind k 0) (get_or after k 0)) 0 16 _ all.long (λ k l.
    let byte = get_or after k 0 in
    let small : byte < 256 = (Each1-get_or (Fits w8) after k 0 (omega (arith, fits.0, l)) fits.1).fits in
    let place : k ≡ 0 + k = omega arith in
    ap (top 7) (all.each k l) ∙ stop-bit (is_ordinary (get_or block k 0)) (eqb (get_or block k 0) first) (eqb (get_or behind k 0) second) (leb 26 ((byte + (256 - 97)) % 256))
    ∙ ap (λ b. not (is_ordinary (get_or block k 0)) || (eqb (get_or block k 0) first && eqb (get_or behind k 0) second && b)) (no-small byte small)
    ∙ ap (λ j. is_stop first second (get_or block j 0) (get_or behind j 0) (get_or after j 0)) place)

not-true : (b : Bool) → not b ≡ true → b ≡ false
not-true true e = sym e
not-true false e = refl

-- The lanes before the first one that is set, for three blocks of the text.
pub clear_lanes : (name text : List ℕ) (at n m : ℕ) → at + 16 + length name ≤ length text → 2 ≤ length name
    → m ≡ mask_l (map (λ k. is_stop (get_or name 0 0) (get_or name 1 0) (get_or (chunk at 16 text) k 0) (get_or (chunk (at + 1) 16 text) k 0) (get_or (chunk (at + length name) 16 text) k 0)) (range_with_len 0 16))
    → n ≡ cond (eqb m 0) 16 (count_trailing_zeros 64 m) → (n ≤ 16) × ((k : ℕ) → at ≤ k → k < at + n → stops_at name text k ≡ false)
clear_lanes name text at n m room long e en =
    let stop : ℕ → Bool = λ k. is_stop (get_or name 0 0) (get_or name 1 0) (get_or (chunk at 16 text) k 0) (get_or (chunk (at + 1) 16 text) k 0) (get_or (chunk (at + length name) 16 text) k 0) in
    let count : n ≡ prefix_len (λ k. not (stop k)) (range_with_len 0 16) =
    en ∙ ap (λ k. cond (eqb k 0) 16 (count_trailing_zeros 64 k)) e ∙ first_set_mask_l stop (range_with_len 0 16) 16 refl (omega arith) in
    let few : n ≤ 16 = omega (arith, count, prefix_len-le-length (λ k. not (stop k)) (range_with_len 0 16)) in (
      few,
      λ k from below.
          let j = k - at in
          let inside : j < 16 = omega (arith, few, below, from) in
          let read : (i q : ℕ) → i + j ≡ q → get_or text q 0 ≡ get_or (chunk i 16 text) j 0 =
          λ i q place. ap (λ p. get_or text p 0) (sym place) ∙ sym (get_or-chunk i 16 text j 0 inside) in
          let here = read at k (omega (arith, from)) in
          let next = read (at + 1) (k + 1) (omega (arith, from)) in
          let end = read (at + length name) (k + length name) (omega (arith, from)) in
          let lane : 0 + j ≡ j = omega arith in
          (λ i. is_stop (get_or name 0 0) (get_or name 1 0) (here i) (next i) (end i))
          ∙ ap stop (sym (get_or-range_with_len 0 16 j 0 inside ∙ lane))
          ∙ not-true _ (prefix_len_passes (λ q. not (stop q)) (range_with_len 0 16) j 0 (omega (arith, count, below, from))),
    )

-- ---- runs of plain bytes and of bytes of a line
either : (f g : ℕ → ℕ) (v xs ys : List ℕ) → xs ≡ map f v → ys ≡ map g v → zip2 bit_or xs ys ≡ map (λ x. bit_or (f x) (g x)) v
either f g v xs ys p q = ap₂ (zip2 bit_or) p q ∙ zip2-same bit_or f g v

line-vector : (v : List ℕ) → length v ≡ 16 → zip2 bit_or (zip2 hit v (replicate 16 10)) (zip2 hit v (replicate 16 13)) ≡ map (λ x. bit_or (hit x 10) (hit x 13)) v
line-vector v long = either (λ x. hit x 10) (λ x. hit x 13) v _ _ (zip2_splat hit v 16 10 long) (zip2_splat hit v 16 13 long)

-- The bits of a vector that was computed lane by lane.
bits-of : (f : ℕ → ℕ) (p : ℕ → Bool) (v xs : List ℕ) → Each1 (Fits w8) v → xs ≡ map f v → table_from (λ x. top 7 (f x)) 0 256 ≡ table_from p 0 256 → map (top 7) xs ≡ map p v
bits-of f p v xs fits e same =
    ap (map (top 7)) e ∙ map-map (top 7) f v ∙ map-bytes (λ x. top 7 (f x)) p (λ x h. read_each (λ y. top 7 (f y)) p x same h) v fits

pub line_lanes : (v : List ℕ) → (length v ≡ 16) × Each1 (Fits w8) v → map (top 7) (zip2 bit_or (zip2 hit v (replicate 16 10)) (zip2 hit v (replicate 16 13))) ≡ map (λ c. not (in_line c)) v
unfolding table_from
line_lanes v fits =
    bits-of (λ x. bit_or (hit x 10) (hit x 13)) (λ c. not (in_line c)) v _ fits.1 (line-vector v fits.0) refl

pub plain_lanes : (v : List ℕ) → (length v ≡ 16) × Each1 (Fits w8) v
    → map (top 7) (zip2 bit_or (zip2 bit_or (zip2 bit_or (zip2 hit v (replicate 16 34)) (zip2 hit v (replicate 16 39))) (zip2 bit_or (zip2 hit v (replicate 16 10)) (zip2 hit v (replicate 16 13)))) (zip2 hit v (replicate 16 92)))
    ≡ map (λ c. not (is_plain c)) v
unfolding table_from
plain_lanes v fits =
    let is = λ (c : ℕ). zip2_splat hit v 16 c fits.0 in
    let quotes = either (λ x. hit x 34) (λ x. hit x 39) v _ _ (is 34) (is 39) in
    let both = either (λ x. bit_or (hit x 34) (hit x 39)) (λ x. bit_or (hit x 10) (hit x 13)) v _ _ quotes (line-vector v fits.0) in
    let all = either (λ x. bit_or (bit_or (hit x 34) (hit x 39)) (bit_or (hit x 10) (hit x 13))) (λ x. hit x 92) v _ _ both (is 92) in
    bits-of (λ x. bit_or (bit_or (bit_or (hit x 34) (hit x 39)) (bit_or (hit x 10) (hit x 13))) (hit x 92)) (λ c. not (is_plain c)) v _ fits.1 all refl

-- The number of lanes before the first one that isn't of a class.
pub front : (p : ℕ → Bool) (at n m : ℕ) (text : List ℕ) → at + 16 ≤ length text → m ≡ mask_l (map (λ c. not (p c)) (chunk at 16 text)) → n ≡ cond (eqb m 0) 16 (count_trailing_zeros 64 m)
    → n ≡ prefix_len p (chunk at 16 text)
front p at n m text room e en =
    en ∙ ap (λ k. cond (eqb k 0) 16 (count_trailing_zeros 64 k)) e
    ∙ first_set_mask_l (λ c. not (p c)) (chunk at 16 text) 16 (length-chunk at 16 text room) (omega arith)
    ∙ prefix_len-not-not p (chunk at 16 text)

block-split : (p : ℕ → Bool) (at : ℕ) (text : List ℕ) → prefix_len p (drop at text)
    ≡ cond (eqb (prefix_len p (chunk at 16 text)) (length (chunk at 16 text))) (length (chunk at 16 text) + prefix_len p (drop (at + 16) text)) (prefix_len p (chunk at 16 text))
block-split p at text = ap (prefix_len p) (chunk-drop at 16 text) ∙ prefix_len-append p (chunk at 16 text) (drop (at + 16) text)

-- A run that ends in a block, and one that goes on after it.
pub run_ends : (p : ℕ → Bool) (at n : ℕ) (text : List ℕ) → at + 16 ≤ length text → n ≡ prefix_len p (chunk at 16 text) → n < 16 → prefix_len p (drop at text) ≡ n
run_ends p at n text room e short =
    let other : eqb (prefix_len p (chunk at 16 text)) (length (chunk at 16 text)) ≡ false = ne_eqb _ _ (λ same. omega (arith, same, e, short, length-chunk at 16 text room)) in
    block-split p at text ∙ ap (λ b. cond b (length (chunk at 16 text) + prefix_len p (drop (at + 16) text)) (prefix_len p (chunk at 16 text))) other ∙ sym e

pub run_goes_on : (p : ℕ → Bool) (at n : ℕ) (text : List ℕ) → at + 16 ≤ length text → n ≡ prefix_len p (chunk at 16 text) → 16 ≤ n → prefix_len p (drop at text) ≡ 16 + prefix_len p (drop (at + 16) text)
run_goes_on p at n text room e long =
    let whole : prefix_len p (chunk at 16 text) ≡ length (chunk at 16 text) = omega (arith, e, long, prefix_len-le-length p (chunk at 16 text), length-chunk at 16 text room) in
    block-split p at text ∙ ap (λ b. cond b (length (chunk at 16 text) + prefix_len p (drop (at + 16) text)) (prefix_len p (chunk at 16 text))) (eq-eqb _ _ whole)
    ∙ ap (λ k. k + prefix_len p (drop (at + 16) text)) (length-chunk at 16 text room)
