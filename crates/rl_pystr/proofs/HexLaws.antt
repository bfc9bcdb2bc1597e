-- The digits of a number spell that number.
use Rattle.std.proofs.Common.{◌≡◌, ℕ, zero, suc, ◌+◌, ◌*◌, ◌/◌, ◌%◌, ◌^◌, ◌<◌, ◌≤◌, Bool, true, false, cond, ◌&&◌, ◌||◌, not, List, [], ◌∷◌, ◌++◌, length, refl, ap, ap₂, sym, ◌∙◌, arith}
use Rattle.std.specs.Prelude.{◌==◌, nat_lt}
use Rattle.std.specs.List.{list_all}
use Rattle.std.specs.Char.{digit_value}
use Rattle.std.specs.Fmt.{digit_glyph}
use Rattle.std.proofs.lemmas.Bool.{false≢true}
use Rattle.std.proofs.lemmas.Bool.Decides.{nat_tests}
use Rattle.std.proofs.lemmas.Nat.{pow-add}
use Rattle.std.proofs.lemmas.List.{take_at, length_push}
use Rattle.std.proofs.lemmas.List.Folds.{list_all-append}
use Rattle.std.proofs.lemmas.List.Sums.{fold-append}
use Rattle.rl_pystr.specs.declared.escapes.Gives.{Gives}
use Rattle.rl_pystr.specs.declared.escapes.Gives.TheVariants.{One, Refuses}
use Rattle.rl_pystr.specs.declared.escapes.Cause.TheVariants as cause
use Rattle.rl_pystr.specs.Escapes.{is_hex, number_of, has_hex, hexadecimal}
use Rattle.rl_pystr.specs.Quoting.{hex}

glyph_value : (d : ℕ) → d < 16 → digit_value (digit_glyph false d) ≡ d
glyph_value d h = grind (arith, nat_tests)

-- Whether a byte isn't a quote, a backslash, a CR or an LF, as holds for every digit.
abbrev pub passes : ℕ → Bool
passes c = nat_lt c 128 && not (c == 34) && not (c == 92) && not (c == 10) && not (c == 13)

glyph_passes : (d : ℕ) → d < 16 → passes (digit_glyph false d) ≡ true
glyph_passes d h = grind (arith, nat_tests)

rest_small : (n : ℕ) → n % 16 < 16
rest_small n = omega arith

pub length-hex : (k n : ℕ) → length (hex k n) ≡ k
length-hex zero n = refl
length-hex (suc k) n =
    omega (arith, length_push (hex k (n / 16)) (digit_glyph false (n % 16)), length-hex k (n / 16))

both-true : (a b : Bool) → a ≡ true → b ≡ true → (a && (b && true)) ≡ true
both-true true true e f = refl
both-true true false e f = f
both-true false b e f = e

small_hex : (n : ℕ) → n < 16 → nat_lt n 16 ≡ true
small_hex n h = grind (arith, nat_tests)

pub all_hex : (k n : ℕ) → list_all is_hex (hex k n) ≡ true
all_hex zero n = refl
all_hex (suc k) n =
    list_all-append is_hex (hex k (n / 16)) (digit_glyph false (n % 16) ∷ [])
    ∙ both-true (list_all is_hex (hex k (n / 16))) (is_hex (digit_glyph false (n % 16))) (all_hex k (n / 16))
    (ap (λ v. nat_lt v 16) (glyph_value (n % 16) (rest_small n)) ∙ small_hex (n % 16) (rest_small n))

pub all_passing : (k n : ℕ) → list_all passes (hex k n) ≡ true
all_passing zero n = refl
all_passing (suc k) n =
    list_all-append passes (hex k (n / 16)) (digit_glyph false (n % 16) ∷ [])
    ∙ both-true (list_all passes (hex k (n / 16))) (passes (digit_glyph false (n % 16))) (all_passing k (n / 16)) (glyph_passes (n % 16) (rest_small n))

pub hex_value : (k n : ℕ) → n < 16 ^ k → number_of 16 (hex k n) ≡ n
hex_value zero n h = omega arith
hex_value (suc k) n h =
    let next : suc k ≡ k + 1 = omega arith in
    let power : 16 ^ suc k ≡ 16 ^ k * 16 = ap (λ j. 16 ^ j) next ∙ pow-add 16 k 1 in
    let front : n / 16 < 16 ^ k = omega (arith, power) in
    fold-append (λ m digit. m * 16 + digit_value digit) 0 (hex k (n / 16)) (digit_glyph false (n % 16) ∷ [])
    ∙ ap₂ (λ a b. a * 16 + b) (hex_value k (n / 16) front) (glyph_value (n % 16) (rest_small n))
    ∙ parts n
  where
    parts : (m : ℕ) → (m / 16) * 16 + m % 16 ≡ m
    parts m = omega arith

pick : (a b c : Bool) (number n k : ℕ) → a ≡ true → b ≡ true → c ≡ false → number ≡ n → cond (not (a && b) || c) (Refuses cause.BadEscape 0) (One number (2 + k)) ≡ One n (2 + k)
pick true true false number n k ea eb ec e = ap (λ m. One m (2 + k)) e
pick true true true number n k ea eb ec e = absurd (false≢true (sym ec))
pick true false c number n k ea eb ec e = absurd (false≢true eb)
pick false b c number n k ea eb ec e = absurd (false≢true ea)

same_size : (n k : ℕ) → n ≡ k → (n == k) ≡ true
same_size n k e = grind (arith, nat_tests)

not_above : (n : ℕ) → n ≤ 1114111 → nat_lt 1114111 n ≡ false
not_above n h = grind (arith, nat_tests)

hexadecimal_of : ℕ → List ℕ → Gives
hexadecimal_of k front =
    cond (not ((length front == k) && list_all is_hex front) || nat_lt 1114111 (number_of 16 front)) (Refuses cause.BadEscape 0) (One (number_of 16 front) (2 + k))

pub hexadecimal_back : (k n : ℕ) (rest : List ℕ) → n < 16 ^ k → n ≤ 1114111 → hexadecimal k (hex k n ++ rest) ≡ One n (2 + k)
unfolding hexadecimal has_hex hexadecimal_of
hexadecimal_back k n rest h top =
    let value = hex_value k n h in
    ap (hexadecimal_of k) (take_at (hex k n) rest k (length-hex k n))
    ∙ pick (length (hex k n) == k) (list_all is_hex (hex k n)) (nat_lt 1114111 (number_of 16 (hex k n))) (number_of 16 (hex k n)) n k
    (same_size (length (hex k n)) k (length-hex k n)) (all_hex k n) (ap (nat_lt 1114111) value ∙ not_above n top) value
