-- The search for the closing quotes of a literal, step by step.
use Rattle.std.proofs.Common.{◌≡◌, ◌⊎◌, inl, inr, ℕ, zero, suc, ◌+◌, ◌-◌, ◌<◌, Bool, true, false, cond, ◌&&◌, List, [], ◌∷◌, length, drop, refl, ap, sym, ◌∙◌, arith, Some, None, Option, subst}
use Rattle.std.specs.Prelude.{option_map, ◌==◌, nat_eq}
use Rattle.std.specs.List.{prefix_len}
use Rattle.std.proofs.lemmas.Bool.Decides.{nat_tests}
use Rattle.std.proofs.lemmas.List.{drop-drop}
use Rattle.rl_pylex.specs.Bytes.{has_at, is_quote, ends_line}
use Rattle.rl_pylex.specs.Literals.{close_from, unit_size, quotes_at}
use Rattle.rl_pylex.specs.internal.Bodies.{Skips, is_long_plain, is_plain}

option_map-map : (f g : ℕ → ℕ) (o : Option ℕ) → option_map f (option_map g o) ≡ option_map (λ x. f (g x)) o
option_map-map f g None = refl
option_map-map f g (Some x) = refl

option_map-same : (f g : ℕ → ℕ) (o : Option ℕ) → ((n : ℕ) → f n ≡ g n) → option_map f o ≡ option_map g o
option_map-same f g None h = refl
option_map-same f g (Some x) h = ap Some (h x)

option_map-zero : (o : Option ℕ) → option_map (λ n. 0 + n) o ≡ o
option_map-zero None = refl
option_map-zero (Some x) = ap Some (omega arith)

-- Skipped bytes count towards the size.
skipped : (count quote k : ℕ) (xs : List ℕ)
    → close_from count quote k xs ≡ option_map (λ n. k + n) (close_from count quote 0 (drop k xs))
skipped count quote zero xs = sym (option_map-zero (close_from count quote 0 xs))
skipped count quote (suc k) [] = refl
skipped count quote (suc k) (x ∷ xs) =
    ap (option_map suc) (skipped count quote k xs)
    ∙ option_map-map suc (λ n. k + n) (close_from count quote 0 (drop k xs))
    ∙ option_map-same (λ n. suc (k + n)) (λ n. suc k + n) (close_from count quote 0 (drop k xs)) (λ n. omega arith)

pub Skips-zero : (count quote : ℕ) (xs : List ℕ) → Skips count quote 0 xs
Skips-zero count quote xs = sym (option_map-zero (close_from count quote 0 xs))

pub Skips-then : (count quote m n : ℕ) (xs : List ℕ) → Skips count quote m xs → Skips count quote n (drop m xs) → Skips count quote (m + n) xs
Skips-then count quote m n xs first second =
    first ∙ ap (option_map (λ k. m + k)) second
    ∙ option_map-map (λ k. m + k) (λ k. n + k) (close_from count quote 0 (drop n (drop m xs)))
    ∙ option_map-same (λ k. m + (n + k)) (λ k. m + n + k) (close_from count quote 0 (drop n (drop m xs))) (λ k. omega arith)
    ∙ ap (λ ys. option_map (λ k. m + n + k) (close_from count quote 0 ys)) (drop-drop n m xs)

Skips-suc : (count quote v x : ℕ) (xs : List ℕ) → close_from count quote 0 (x ∷ xs) ≡ option_map suc (close_from count quote v xs) → Skips count quote (suc v) (x ∷ xs)
Skips-suc count quote v x xs step =
    step ∙ ap (option_map suc) (skipped count quote v xs)
    ∙ option_map-map suc (λ n. v + n) (close_from count quote 0 (drop v xs))
    ∙ option_map-same (λ n. suc (v + n)) (λ n. suc v + n) (close_from count quote 0 (drop v xs)) (λ n. omega arith)

unit_size-some : (xs : List ℕ) → 0 < unit_size xs
unfolding unit_size
unit_size-some xs = grind (arith, nat_tests)

opened : (A : Type 0) (b c : Bool) (x y z : A) → b ≡ false → c ≡ false → cond b x (cond c y z) ≡ z
opened A b c x y z e f = rw (e, f) refl

-- A unit that is neither closing quotes nor a fault is skipped.
pub Skips-unit : (count quote : ℕ) (xs : List ℕ) → 0 < length xs → quotes_at count quote xs ≡ false → (count == 1 && has_at ends_line 0 xs) ≡ false → Skips count quote (unit_size xs) xs
Skips-unit count quote [] some other line = absurd (omega arith)
Skips-unit count quote (x ∷ xs) some other line =
    let e : suc (unit_size (x ∷ xs) - 1) ≡ unit_size (x ∷ xs) = omega (arith, unit_size-some (x ∷ xs)) in
    subst (λ (n : ℕ). Skips count quote n (x ∷ xs)) e
    (Skips-suc count quote (unit_size (x ∷ xs) - 1) x xs
    (opened (Option ℕ) (quotes_at count quote (x ∷ xs)) (count == 1 && ends_line x) (Some count) None (option_map suc (close_from count quote (unit_size (x ∷ xs) - 1) xs)) other line))

quotes_at-other : (count quote c : ℕ) (xs : List ℕ) → 0 < count → nat_eq quote c ≡ false → quotes_at count quote (c ∷ xs) ≡ false
quotes_at-other zero quote c xs some other = absurd (omega arith)
quotes_at-other (suc k) quote c xs some other = rw other refl

plain_is_other : (quote c : ℕ) → is_quote quote ≡ true → is_plain c ≡ true → nat_eq quote c ≡ false
plain_is_other quote c q p = grind (arith, nat_tests)

plain_in_line : (c : ℕ) → is_plain c ≡ true → ends_line c ≡ false
plain_in_line c p = grind (arith, nat_tests)

plain_unit : (c : ℕ) (xs : List ℕ) → is_plain c ≡ true → unit_size (c ∷ xs) ≡ 1
unfolding unit_size
plain_unit c xs p = grind (arith, nat_tests)

and-false : (b c : Bool) → c ≡ false → (b && c) ≡ false
and-false true c e = e
and-false false c e = refl

plain_first : (count quote x k : ℕ) (xs : List ℕ) (b : Bool) → is_plain x ≡ b → 0 < count → is_quote quote ≡ true → Skips count quote k xs → Skips count quote (cond b (1 + k) 0) (x ∷ xs)
plain_first count quote x k xs false e some q rest = Skips-zero count quote (x ∷ xs)
plain_first count quote x k xs true e some q rest =
    Skips-then count quote 1 k (x ∷ xs)
    (subst (λ (n : ℕ). Skips count quote n (x ∷ xs)) (plain_unit x xs e)
    (Skips-unit count quote (x ∷ xs) (omega arith) (quotes_at-other count quote x xs some (plain_is_other quote x q e)) (and-false (count == 1) (ends_line x) (plain_in_line x e))))
    rest

-- A run of plain bytes is skipped.
pub Skips-plain : (count quote : ℕ) (xs : List ℕ) → 0 < count → is_quote quote ≡ true → Skips count quote (prefix_len is_plain xs) xs
Skips-plain count quote [] some q = refl
Skips-plain count quote (x ∷ xs) some q =
    plain_first count quote x (prefix_len is_plain xs) xs (is_plain x) refl some q (Skips-plain count quote xs some q)

long_is_other : (quote c : ℕ) → is_long_plain quote c ≡ true → nat_eq quote c ≡ false
long_is_other quote c p = grind (arith, nat_tests)

long_unit : (quote c : ℕ) (xs : List ℕ) → is_long_plain quote c ≡ true → unit_size (c ∷ xs) ≡ 1
unfolding unit_size
long_unit quote c xs p = grind (arith, nat_tests)

long_first : (quote x k : ℕ) (xs : List ℕ) (b : Bool) → is_long_plain quote x ≡ b → Skips 3 quote k xs → Skips 3 quote (cond b (1 + k) 0) (x ∷ xs)
long_first quote x k xs false e rest = Skips-zero 3 quote (x ∷ xs)
long_first quote x k xs true e rest =
    Skips-then 3 quote 1 k (x ∷ xs)
    (subst (λ (n : ℕ). Skips 3 quote n (x ∷ xs)) (long_unit quote x xs e)
    (Skips-unit 3 quote (x ∷ xs) (omega arith) (quotes_at-other 3 quote x xs (omega arith) (long_is_other quote x e)) refl))
    rest

-- Between triple quotes, a run of bytes that are neither the quote nor a backslash is skipped.
Skips-long : (quote : ℕ) (xs : List ℕ) → Skips 3 quote (prefix_len (is_long_plain quote) xs) xs
Skips-long quote [] = refl
Skips-long quote (x ∷ xs) =
    long_first quote x (prefix_len (is_long_plain quote) xs) xs (is_long_plain quote x) refl (Skips-long quote xs)

pub long_skip : (count quote n : ℕ) (xs : List ℕ) → count ≡ 3 → n ≡ prefix_len (is_long_plain quote) xs → Skips count quote n xs
long_skip count quote n xs triple e =
    subst (λ (k : ℕ). Skips k quote n xs) (sym triple) (subst (λ (m : ℕ). Skips 3 quote m xs) (sym e) (Skips-long quote xs))

pub plain_skip : (count quote n : ℕ) (xs : List ℕ) → 0 < count → is_quote quote ≡ true → n ≡ prefix_len is_plain xs → Skips count quote n xs
plain_skip count quote n xs some q e = subst (λ (m : ℕ). Skips count quote m xs) (sym e) (Skips-plain count quote xs some q)

chosen : (A : Type 0) (b : Bool) (x y : A) → b ≡ true → cond b x y ≡ x
chosen A b x y e = rw e refl

middle : (A : Type 0) (b c : Bool) (x y z : A) → b ≡ false → c ≡ true → cond b x (cond c y z) ≡ y
middle A b c x y z e f = rw (e, f) refl

pub some-count : (n : ℕ) → (n ≡ 1) ⊎ (n ≡ 3) → 0 < n
some-count n (inl e) = omega (arith, e)
some-count n (inr e) = omega (arith, e)

-- The text begins with the closing quotes.
pub close-here : (count quote : ℕ) (xs : List ℕ) → 0 < length xs → true ≡ quotes_at count quote xs → close_from count quote 0 xs ≡ Some count
close-here count quote [] some here = absurd (omega arith)
close-here count quote (x ∷ xs) some here =
    chosen (Option ℕ) (quotes_at count quote (x ∷ xs)) (Some count) (cond (count == 1 && ends_line x) None (option_map suc (close_from count quote (unit_size (x ∷ xs) - 1) xs))) (sym here)

-- The text begins with a line end, which the literal may not contain.
pub close-none : (count quote : ℕ) (xs : List ℕ) → 0 < length xs → false ≡ quotes_at count quote xs → true ≡ (count == 1 && has_at ends_line 0 xs) → close_from count quote 0 xs ≡ None
close-none count quote [] some other breaks = absurd (omega arith)
close-none count quote (x ∷ xs) some other breaks =
    middle (Option ℕ) (quotes_at count quote (x ∷ xs)) (count == 1 && ends_line x) (Some count) None (option_map suc (close_from count quote (unit_size (x ∷ xs) - 1) xs)) (sym other) (sym breaks)

-- The search from a place on, if everything before the place is skipped.
pub close-on : (count quote at : ℕ) (body rest : List ℕ) (o : Option ℕ) → Skips count quote at body → rest ≡ drop at body → close_from count quote 0 rest ≡ o
    → option_map (λ m. at + m) o ≡ close_from count quote 0 body
close-on count quote at body rest o skips here closes =
    sym (skips ∙ ap (λ ys. option_map (λ m. at + m) (close_from count quote 0 ys)) (sym here) ∙ ap (option_map (λ m. at + m)) closes)

-- One more step.
pub skips-on : (count quote at n : ℕ) (body rest : List ℕ) → Skips count quote at body → rest ≡ drop at body → Skips count quote n rest → Skips count quote (at + n) body
skips-on count quote at n body rest skips here more =
    Skips-then count quote at n body skips (subst (λ (ys : List ℕ). Skips count quote n ys) here more)

pub ruleset runs = (long_skip, plain_skip)

pub ruleset skips = (Skips-unit, Skips-then)
