-- What the machine has read of an escape and of a class is what the grammar says, code by code.
use Rattle.std.proofs.Common.{◌≡◌, ◌≢◌, ℕ, suc, ◌+◌, ◌-◌, ◌<◌, Bool, true, List, Option, Some, None, refl, sym, ap, ◌∙◌, subst, ◌==◌, arith}
use Rattle.std.proofs.lemmas.Bool.{eqb-true, eqb-false, cond_both}
use Rattle.std.proofs.lemmas.Option.{same_Some}
use mathlib.Core.Logic.{inl, inr}
use Rattle.rl_pattern.specs.Tree.{Escaped, by_name, reference}
use Rattle.rl_pattern.specs.Codes.{with_digit, Numeral, numeral, low_digit, high_digit, no_digit, is_digit, hex, EscapeClass, slashed, single, kinds, hexes, naming, octal, low, high, edges, no_escape, octal_code, hex_code}
use Rattle.rl_pattern.specs.Grammar.{At, Without, no_code, one_code, Hexes, no_hex, one_hex, Octals, no_octal, one_octal, OctalAt, DigitAt, Slash, ThreeOctals, Escape, escape_single, escape_kind, escape_hex, escape_name, escape_octal, escape_three, reference_one, reference_two}
use Rattle.rl_pattern.specs.internal.Machine.{Answer, stops, goes, ends, InEscape, in_hex, name_brace, name_begins, name_goes, in_octal, after_low, after_high, after_two, escape_first, escape_next, escape_rest, hex_next, octal_next, low_next, high_next, two_next}
use Rattle.rl_pattern.proofs.Steps.{same_code}
use Rattle.rl_pattern.proofs.Escapes.{digit_from, digit_false, hexes_pos}

-- What holds for the state that an answer continues with, or for its result.
abbrev pub Answers : {S A : Type 0} → Answer S A → (S → Type 0) → (A → Type 0) → Type 0
Answers stops P Q = Unit {0}
Answers (goes s) P Q = P s
Answers (ends a) P Q = Q a

module _ (text : Bool) (w : List ℕ) where
  -- What has been read of an escape, from the backslash at `i` up to `k`.
  abbrev pub EscapeOk : Bool → InEscape → ℕ → ℕ → Type 0
  EscapeOk in_class (in_hex still v) i k = (goal : ℕ) × (n : ℕ) × Slash text w in_class i (hexes goal) × Hexes text w (suc (suc i)) k n v × (n + still ≡ goal) × (0 < still)
  EscapeOk in_class name_brace i k = Slash text w in_class i naming × (k ≡ suc (suc i))
  EscapeOk in_class name_begins i k = Slash text w in_class i naming × At text w (suc (suc i)) 123 × (k ≡ suc (suc (suc i)))
  EscapeOk in_class name_goes i k = (c : ℕ) × Slash text w in_class i naming × At text w (suc (suc i)) 123 × At text w (suc (suc (suc i))) c × (c ≢ 125) × Without text w 125 (suc (suc (suc (suc i)))) k
  EscapeOk in_class (in_octal still v) i k = (d : ℕ) × (n : ℕ) × Slash text w in_class i (octal d) × Octals text w d (suc (suc i)) k n v × (n + still ≡ 2) × (0 < still)
  EscapeOk in_class (after_low v) i k = Slash text w in_class i (low v) × (k ≡ suc (suc i))
  EscapeOk in_class after_high i k = Slash text w in_class i high × (k ≡ suc (suc i))
  EscapeOk in_class (after_two v) i k = (d : ℕ) × Slash text w in_class i (low d) × Octals text w d (suc (suc i)) k 1 v × (k ≡ suc (suc (suc i)))

  first_octal : {d i j n v : ℕ} → Octals text w d i j n v → 0 < n → OctalAt text w i
  first_octal no_octal l = absurd (omega (arith, l))
  first_octal (one_octal {c = c} {d = o} no_octal at_c is) l = (c, o, at_c, is)
  first_octal (one_octal (one_octal h a b) at_c is) l = first_octal (one_octal h a b) (omega arith)

  last_octal : {d i j n v : ℕ} → Octals text w d i j n v → 0 < n → (k : ℕ) × (j ≡ suc k) × OctalAt text w k
  last_octal no_octal l = absurd (omega (arith, l))
  last_octal (one_octal {j = j} {c = c} {d = o} h at_c is) l = (j, refl, (c, o, at_c, is))

  -- The code at the next position isn't an octal digit.
  not_octal : (k c : ℕ) (g : Numeral) → At text w k c → numeral c ≡ g → ((d : ℕ) → g ≡ low_digit d → ⊥) → ¬ OctalAt text w k
  not_octal k c g at_c q n (c2, d, at_c2, is) = n d (sym q ∙ ap numeral (same_code w k c c2 at_c at_c2) ∙ is)

  pub first_ok : (in_class : Bool) (i : ℕ) (s : EscapeClass) → Slash text w in_class i s → Answers (escape_first s) (λ x. EscapeOk in_class x i (suc (suc i))) (λ e. Escape text w in_class i (suc (suc i)) e)
  first_ok v i (single c) h = escape_single h
  first_ok v i (kinds k n) h = escape_kind h
  first_ok v i (hexes n) h = (n, 0, h, no_hex, omega arith, hexes_pos text v h.0 n h.3)
  first_ok v i naming h = (h, refl)
  first_ok v i (octal d) h = (d, 0, h, no_octal, omega arith, omega arith)
  first_ok v i (low d) h = (h, refl)
  first_ok v i high h = (h, refl)
  first_ok v i (edges m) h = tt
  first_ok v i no_escape h = tt

  module _ (in_class : Bool) (i : ℕ) where
    abbrev Kept : ℕ → Answer InEscape Escaped → Type 0
    Kept k r = Answers r (λ x. EscapeOk in_class x i k) (λ e. Escape text w in_class i k e)

    hex_kept : (still v k c : ℕ) (o : Option ℕ) → hex c ≡ o → EscapeOk in_class (in_hex still v) i k → At text w k c → Kept (suc k) (hex_next still v o)
    hex_kept still v k c None q h at_c = tt
    hex_kept still v k c (Some d) q (goal, n, h, hs, e, l) at_c =
        cond_both (still == 1) (ends (hex_code (with_digit 16 v d))) (goes (in_hex (still - 1) (with_digit 16 v d))) (Kept (suc k)) (λ z. escape_hex h (subst (λ m. Hexes text w (suc (suc i)) (suc k) m (with_digit 16 v d)) (done z) (one_hex hs at_c q))) (λ z. (goal, suc n, h, one_hex hs at_c q, omega (arith, e, l), omega (arith, l, eqb-false still 1 z)))
      where
        done : (still == 1) ≡ true → suc n ≡ goal
        done z = omega (arith, e, eqb-true still 1 z)

    octal_kept : (still v k c : ℕ) (g : Numeral) → numeral c ≡ g → EscapeOk in_class (in_octal still v) i k → At text w k c → Kept (suc k) (octal_next still v g)
    octal_kept still v k c (low_digit d) q (f, n, h, os, e, l) at_c =
        cond_both (still == 1) (ends (octal_code (with_digit 8 v d))) (goes (in_octal (still - 1) (with_digit 8 v d))) (Kept (suc k)) (λ z. escape_octal h (one_octal os at_c q) (inl (done z))) (λ z. (f, suc n, h, one_octal os at_c q, omega (arith, e, l), omega (arith, l, eqb-false still 1 z)))
      where
        done : (still == 1) ≡ true → suc n ≡ 2
        done z = omega (arith, e, eqb-true still 1 z)
    octal_kept still v k c high_digit q h at_c = tt
    octal_kept still v k c no_digit q h at_c = tt

    low_kept : (v k c : ℕ) (g : Numeral) → numeral c ≡ g → EscapeOk in_class (after_low v) i k → At text w k c → Kept (suc k) (low_next v g)
    low_kept v k c (low_digit d) q (h, e) at_c = (v, h, one_octal (subst (λ m. Octals text w v (suc (suc i)) m 0 v) (sym e) no_octal) at_c q, ap suc e)
    low_kept v k c high_digit q (h, e) at_c =
        subst (λ m. Escape text w in_class i (suc m) reference) (sym e) (reference_two h (inl (v, refl)) (c, subst (λ m. At text w m c) e at_c, digit_from c high_digit q refl) (λ t. not_octal (suc (suc i)) c high_digit (subst (λ m. At text w m c) e at_c) q (λ d z. cc) (first_octal t.3 (omega arith))))
    low_kept v k c no_digit q h at_c = tt

    -- 8 or 9 doesn't begin three octal digits.
    high_pair : (k c : ℕ) → is_digit c ≡ true → Slash text w in_class i high → k ≡ suc (suc i) → At text w k c → Escape text w in_class i (suc k) reference
    high_pair k c is h e at_c = subst (λ m. Escape text w in_class i (suc m) reference) (sym e) (reference_two h (inr refl) (c, subst (λ m. At text w m c) e at_c, is) no_three)
      where
        no_three : ¬ ThreeOctals text w in_class i
        no_three (d, v, (c2, back, at_c2, is2), os) = absurd (cc (h.3, is2, ap (slashed text in_class) (same_code w (suc i) h.0 c2 h.2 at_c2)))

    high_kept : (k c : ℕ) (g : Numeral) → numeral c ≡ g → EscapeOk in_class after_high i k → At text w k c → Kept (suc k) (high_next g)
    high_kept k c (low_digit d) q (h, e) at_c = high_pair k c (digit_from c (low_digit d) q refl) h e at_c
    high_kept k c high_digit q (h, e) at_c = high_pair k c (digit_from c high_digit q refl) h e at_c
    high_kept k c no_digit q h at_c = tt

    two_kept : (v k c : ℕ) (g : Numeral) → numeral c ≡ g → EscapeOk in_class (after_two v) i k → At text w k c → Kept (suc k) (two_next v g)
    two_kept v k c (low_digit d) q (f, h, os, e) at_c = escape_three h (one_octal os at_c q)
    two_kept v k c high_digit q h at_c = tt
    two_kept v k c no_digit q h at_c = tt

    pub next_ok : (x : InEscape) (k c : ℕ) → EscapeOk in_class x i k → At text w k c → Answers (escape_next x c) (λ y. EscapeOk in_class y i (suc k)) (λ e. Escape text w in_class i (suc k) e)
    next_ok (in_hex still v) k c h at_c = hex_kept still v k c (hex c) refl h at_c
    next_ok name_brace k c (h, e) at_c =
        cond_both (c == 123) (goes name_begins) stops (Kept (suc k)) (λ z. (h, subst (λ m. At text w m 123) e (subst (At text w k) (eqb-true c 123 z) at_c), ap suc e)) (λ z. tt)
    next_ok name_begins k c (h, o, e) at_c =
        cond_both (c == 125) stops (goes name_goes) (Kept (suc k)) (λ z. tt) (λ z. (c, h, o, subst (λ m. At text w m c) e at_c, eqb-false c 125 z, subst (λ m. Without text w 125 m (suc k)) (ap suc e) no_code))
    next_ok name_goes k c (d, h, o, at_d, n, ws) at_c =
        cond_both (c == 125) (ends by_name) (goes name_goes) (Kept (suc k)) (λ z. escape_name h o at_d n ws (subst (At text w k) (eqb-true c 125 z) at_c)) (λ z. (d, h, o, at_d, n, one_code ws at_c (eqb-false c 125 z)))
    next_ok (in_octal n v) k c h at_c = octal_kept n v k c (numeral c) refl h at_c
    next_ok (after_low v) k c h at_c = low_kept v k c (numeral c) refl h at_c
    next_ok after_high k c h at_c = high_kept k c (numeral c) refl h at_c
    next_ok (after_two v) k c h at_c = two_kept v k c (numeral c) refl h at_c

    -- No code continues it.
    abbrev pub Quiet : InEscape → ℕ → Type 0
    Quiet x k = (c : ℕ) → At text w k c → escape_next x c ≡ stops

    quiet_octal : (n v k : ℕ) → Quiet (in_octal n v) k → ¬ OctalAt text w k
    quiet_octal n v k q (c, d, at_c, is) =
        cond_both (n == 1) (ends (octal_code (with_digit 8 v d))) (goes (in_octal (n - 1) (with_digit 8 v d))) (λ r. r ≡ stops → ⊥) (λ z e. cc) (λ z e. cc) (sym (ap (octal_next n v) is) ∙ q c at_c)

    quiet_low : (v k : ℕ) → Quiet (after_low v) k → ¬ DigitAt text w k
    quiet_low v k q (c, at_c, is) = go (numeral c) refl
      where
        go : (g : Numeral) → numeral c ≡ g → ⊥
        go (low_digit d) z = cc (sym (ap (low_next v) z) ∙ q c at_c)
        go high_digit z = cc (sym (ap (low_next v) z) ∙ q c at_c)
        go no_digit z = digit_false c no_digit z refl is

    quiet_high : (k : ℕ) → Quiet after_high k → ¬ DigitAt text w k
    quiet_high k q (c, at_c, is) = go (numeral c) refl
      where
        go : (g : Numeral) → numeral c ≡ g → ⊥
        go (low_digit d) z = cc (sym (ap high_next z) ∙ q c at_c)
        go high_digit z = cc (sym (ap high_next z) ∙ q c at_c)
        go no_digit z = digit_false c no_digit z refl is

    pub rest_ok : (x : InEscape) (k : ℕ) (e : Escaped) → EscapeOk in_class x i k → Quiet x k → escape_rest x ≡ Some e → Escape text w in_class i k e
    rest_ok (in_hex still v) k e h q r = absurd (cc r)
    rest_ok name_brace k e h q r = absurd (cc r)
    rest_ok name_begins k e h q r = absurd (cc r)
    rest_ok name_goes k e h q r = absurd (cc r)
    rest_ok (in_octal n v) k e (d, m, h, os, sum, l) q r = subst (λ z. Escape text w in_class i k z) (same_Some (octal_code v) e r) (escape_octal h os (inr (omega (arith, sum, l), quiet_octal n v k q)))
    rest_ok (after_low v) k e (h, z) q r =
        subst (λ y. Escape text w in_class i k y) (same_Some reference e r) (subst (λ m. Escape text w in_class i m reference) (sym z) (reference_one h (inl (v, refl)) (subst (λ m. ¬ DigitAt text w m) z (quiet_low v k q))))
    rest_ok after_high k e (h, z) q r =
        subst (λ y. Escape text w in_class i k y) (same_Some reference e r) (subst (λ m. Escape text w in_class i m reference) (sym z) (reference_one h (inr refl) (subst (λ m. ¬ DigitAt text w m) z (quiet_high k q))))
    rest_ok (after_two v) k e (d, h, os, z) q r =
        subst (λ y. Escape text w in_class i k y) (same_Some reference e r) (subst (λ m. Escape text w in_class i m reference) (sym z) (reference_two h (inl (d, refl)) (second os z) (λ t. subst (λ m. ¬ OctalAt text w m) z no_third (third t.3))))
      where
        second : Octals text w d (suc (suc i)) k 1 v → k ≡ suc (suc (suc i)) → DigitAt text w (suc (suc i))
        second os z = let o = first_octal os (omega arith) in (o.0, o.2, digit_from o.0 (low_digit o.1) o.3 refl)

        no_third : ¬ OctalAt text w k
        no_third (c, f, at_c, is) = cc (sym (ap (two_next v) is) ∙ q c at_c)

        third : {f u : ℕ} → Octals text w f (suc (suc i)) (suc (suc (suc (suc i)))) 2 u → OctalAt text w (suc (suc (suc i)))
        third os2 = let o = last_octal os2 (omega arith) in subst (λ m. OctalAt text w m) (omega (arith, o.1)) o.2
