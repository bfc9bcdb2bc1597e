-- A search for the first byte that satisfies a test, which returns the place of the byte.
use Rattle.std.proofs.Common.{◌≡◌, ℕ, ◌<◌, Bool, true, false, cond, not, List, length, get_or, refl, ap, sym, ◌∙◌, arith, ltb, Some, None, Option, subst}
use Rattle.std.specs.Prelude.{position}
use Rattle.std.specs.List.{prefix_len}
use Rattle.std.proofs.lemmas.Bool.Decides.{nat_tests}
use Rattle.std.proofs.lemmas.List.Sums.{prefix_len_is}
use Rattle.memchr.specs.Find.{IsFirstByte, is_byte2}
use Rattle.rl_pylex.specs.Bytes.{in_line}
use Rattle.rl_pylex.specs.internal.Bodies.{is_long_plain}

-- A byte that the search skipped.
passed_over : (test q : ℕ → Bool) (c : ℕ) → test c ≡ q c → (test c ≡ true → ⊥) → not (q c) ≡ true
passed_over test q c same never = by-test (q c) refl
  where
    by-test : (b : Bool) → q c ≡ b → not b ≡ true
    by-test true e = absurd (never (same ∙ e))
    by-test false e = refl

-- The byte that the search found.
found : (test q : ℕ → Bool) (c : ℕ) → test c ≡ q c → test c ≡ true → not (q c) ≡ false
found test q c same passes = ap not (sym same ∙ passes)

some_place : (n m : ℕ) → n < m → Some n ≡ cond (ltb n m) (Some n) None
some_place n m h = grind (arith, nat_tests)

no_place : (m : ℕ) → None ≡ cond (ltb m m) (Some m) None
no_place m = grind (arith, nat_tests)

-- The answer of a search is the place of the first byte that satisfies an equivalent test.
pub first_place : (test q : ℕ → Bool) (xs : List ℕ) (r : Option ℕ) → ((c : ℕ) → test c ≡ q c) → IsFirstByte test xs r → r ≡ position q xs
first_place test q xs None same h =
    let run : prefix_len (λ x. not (q x)) xs ≡ length xs =
    prefix_len_is (λ x. not (q x)) xs (length xs) 0 (omega arith)
    (λ k below. passed_over test q (get_or xs k 0) (same (get_or xs k 0)) (h k (omega arith) below))
    (λ less. absurd (omega arith)) in
    subst (λ (n : ℕ). None ≡ cond (ltb n (length xs)) (Some n) None) (sym run) (no_place (length xs))
first_place test q xs (Some k) same h =
    let run : prefix_len (λ x. not (q x)) xs ≡ k =
    prefix_len_is (λ x. not (q x)) xs k 0 (omega (arith, h.0.high))
    (λ j below. passed_over test q (get_or xs j 0) (same (get_or xs j 0)) (h.0.before j (omega arith) below))
    (λ less. found test q (get_or xs k 0) (same (get_or xs k 0)) h.1) in
    subst (λ (n : ℕ). Some k ≡ cond (ltb n (length xs)) (Some n) None) (sym run) (some_place k (length xs) h.0.high)

line_test : (c : ℕ) → is_byte2 10 13 c ≡ not (in_line c)
line_test c = grind (arith, nat_tests)

pub line_place : (xs : List ℕ) (r : Option ℕ) → IsFirstByte (is_byte2 10 13) xs r → r ≡ position (λ c. not (in_line c)) xs
line_place xs r h = first_place (is_byte2 10 13) (λ c. not (in_line c)) xs r line_test h

long_test : (quote c : ℕ) → is_byte2 quote 92 c ≡ not (is_long_plain quote c)
long_test quote c = grind (arith, nat_tests)

pub long_place : (quote : ℕ) (xs : List ℕ) (r : Option ℕ) → IsFirstByte (is_byte2 quote 92) xs r → r ≡ position (λ c. not (is_long_plain quote c)) xs
long_place quote xs r h = first_place (is_byte2 quote 92) (λ c. not (is_long_plain quote c)) xs r (long_test quote) h
