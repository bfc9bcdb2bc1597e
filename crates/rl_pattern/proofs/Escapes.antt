-- The machine reads an escape that the grammar spells.
use Rattle.std.proofs.Common.{◌≡◌, ◌⊎◌, ℕ, suc, ◌+◌, ◌-◌, sub-one, ◌<◌, Bool, true, false, cond, List, Option, Some, refl, sym, ap, ◌∙◌, subst, ◌==◌, if◌then◌else◌, true≢false, arith, ◌&&◌, ◌||◌, not}
use Rattle.std.proofs.lemmas.Bool.{ne_eqb}
use mathlib.Core.Logic.{inl, inr, ⊎_elim}
use Rattle.rl_pattern.specs.Tree.{Escaped, by_name, reference}
use Rattle.rl_pattern.specs.Codes.{with_digit, Numeral, numeral, low_digit, high_digit, no_digit, is_digit, is_some_digit, EscapeClass, slashed, slashed_letter, slashed_digit, is_letter, single, kinds, hexes, naming, octal, low, high, edges, no_escape, octal_code, hex_code}
use Rattle.rl_pattern.specs.Grammar.{At, Without, no_code, one_code, Hexes, no_hex, one_hex, Octals, no_octal, one_octal, OctalAt, DigitAt, Slash, ThreeOctals, Refers, Escape, escape_single, escape_kind, escape_hex, escape_name, escape_octal, escape_three, reference_one, reference_two}
use Rattle.rl_pattern.specs.internal.Machine.{State, stops, goes, ends, InEscape, in_hex, name_brace, name_begins, name_goes, in_octal, after_low, after_high, after_two, escape_first, escape_next, escape_rest, hex_next, octal_next, low_next, high_next, two_next, step_at}
use Rattle.rl_pattern.proofs.Steps.{reads_from, goes_to, alike_steps}

-- The number of missing hexadecimal digits isn't 0.
abbrev Some_hexes : EscapeClass → Type 0
Some_hexes (hexes n) = 0 < n
Some_hexes (single c) = Unit {0}
Some_hexes (kinds k n) = Unit {0}
Some_hexes naming = Unit {0}
Some_hexes (octal d) = Unit {0}
Some_hexes (low d) = Unit {0}
Some_hexes high = Unit {0}
Some_hexes (edges m) = Unit {0}
Some_hexes no_escape = Unit {0}

either : (b : Bool) (x y : EscapeClass) → Some_hexes x → Some_hexes y → Some_hexes (if b then x else y)
either true x y p q = p
either false x y p q = q

letter_hexes : (text in_class : Bool) (c : ℕ) → Some_hexes (slashed_letter text in_class c)
letter_hexes text in_class c =
    either (c == 97) _ _ tt (either (c == 102) _ _ tt (either (c == 110) _ _ tt (either (c == 114) _ _ tt (either (c == 116) _ _ tt (either (c == 118) _ _ tt
    (either (c == 100) _ _ tt (either (c == 68) _ _ tt (either (c == 115) _ _ tt (either (c == 83) _ _ tt (either (c == 119) _ _ tt (either (c == 87) _ _ tt
    (either (c == 120) _ _ (omega arith) (either (text && c == 117) _ _ (omega arith) (either (text && c == 85) _ _ (omega arith) (either (text && c == 78) _ _ tt
    (either (c == 98) _ _ (either in_class _ _ tt tt) (either (not in_class && c == 66) _ _ tt (either (not in_class && c == 65) _ _ tt (either (not in_class && c == 90) _ _ tt tt)))))))))))))))))))

digit_hexes : (in_class : Bool) (c : ℕ) (n : Numeral) → Some_hexes (slashed_digit in_class n c)
digit_hexes in_class c (low_digit d) = either (in_class || d == 0) (octal d) (low d) tt tt
digit_hexes in_class c high_digit = either in_class _ _ tt tt
digit_hexes in_class c no_digit = tt

slashed_hexes : (text in_class : Bool) (c : ℕ) → Some_hexes (slashed text in_class c)
unfolding slashed
slashed_hexes text in_class c = either (is_letter c) _ _ (letter_hexes text in_class c) (digit_hexes in_class c (numeral c))

pub hexes_pos : (text in_class : Bool) (c n : ℕ) → slashed text in_class c ≡ hexes n → 0 < n
hexes_pos text in_class c n e = subst Some_hexes e (slashed_hexes text in_class c)

pub digit_from : (c : ℕ) (g : Numeral) → numeral c ≡ g → is_some_digit g ≡ true → is_digit c ≡ true
unfolding is_digit
digit_from c g e h = ap is_some_digit e ∙ h

pub digit_false : (c : ℕ) (g : Numeral) → numeral c ≡ g → is_some_digit g ≡ false → is_digit c ≡ true → ⊥
unfolding is_digit
digit_false c g e h d = true≢false (sym d ∙ ap is_some_digit e ∙ h)

module _ (text : Bool) (w : List ℕ) {X : Type 0} (ask : ℕ → State → Option X) where
  -- The states within an escape with the value `e`: after the backslash, after one more code, and after its end.
  pub record Reader (in_class : Bool) (e : Escaped) (behind : State) (within : InEscape → State) (past : ℕ → State) : Type 0 where
    pub first_goes : (i c : ℕ) (x : InEscape) → escape_first (slashed text in_class c) ≡ goes x → step_at text i behind c ≡ Some (within x)
    pub first_ends : (i c : ℕ) → escape_first (slashed text in_class c) ≡ ends e → step_at text i behind c ≡ Some (past (suc i))
    pub next_goes : (i c : ℕ) (x y : InEscape) → escape_next x c ≡ goes y → step_at text i (within x) c ≡ Some (within y)
    pub next_ends : (i c : ℕ) (x : InEscape) → escape_next x c ≡ ends e → step_at text i (within x) c ≡ Some (past (suc i))
    pub rests : (i c : ℕ) (x : InEscape) → escape_rest x ≡ Some e → escape_next x c ≡ stops → step_at text i (within x) c ≡ step_at text i (past i) c
    pub rests_end : (i : ℕ) (x : InEscape) → escape_rest x ≡ Some e → ask i (within x) ≡ ask i (past i)

  module _ (in_class : Bool) (e : Escaped) (behind : State) (within : InEscape → State) (past : ℕ → State) (r : Reader in_class e behind within past) where
    abbrev From : ℕ → State → Option X
    From = reads_from text w ask

    begins_with : (i : ℕ) (s : EscapeClass) (x : InEscape) → Slash text w in_class i s → escape_first s ≡ goes x → From (suc i) behind ≡ From (suc (suc i)) (within x)
    begins_with i s x (c, back, at_c, is_s) h = goes_to text w ask (suc i) c behind (within x) at_c (r.first_goes (suc i) c x (ap escape_first is_s ∙ h))

    ends_with : (i : ℕ) (s : EscapeClass) → Slash text w in_class i s → escape_first s ≡ ends e → From (suc i) behind ≡ From (suc (suc i)) (past (suc (suc i)))
    ends_with i s (c, back, at_c, is_s) h = goes_to text w ask (suc i) c behind (past (suc (suc i))) at_c (r.first_ends (suc i) c (ap escape_first is_s ∙ h))

    next : (j c : ℕ) (x y : InEscape) → At text w j c → escape_next x c ≡ goes y → From j (within x) ≡ From (suc j) (within y)
    next j c x y h st = goes_to text w ask j c (within x) (within y) h (r.next_goes j c x y st)

    last : (j c : ℕ) (x : InEscape) → At text w j c → escape_next x c ≡ ends e → From j (within x) ≡ From (suc j) (past (suc j))
    last j c x h st = goes_to text w ask j c (within x) (past (suc j)) h (r.next_ends j c x st)

    -- What is pending is settled.
    stays : (j : ℕ) (x : InEscape) → escape_rest x ≡ Some e → ((c : ℕ) → At text w j c → escape_next x c ≡ stops) → From j (within x) ≡ From j (past j)
    stays j x h f = alike_steps text w ask j (within x) (past j) (r.rests_end j x h) (λ c at_c. r.rests j c x h (f c at_c))

    hexes_go : (goal : ℕ) {i j n v : ℕ} → Hexes text w i j n v → (still : ℕ) → n + still ≡ goal → 0 < still → From i (within (in_hex goal 0)) ≡ From j (within (in_hex still v))
    hexes_go goal (no_hex {i = k}) still q l = let e : goal ≡ still = omega (arith, q) in ap (λ m. From k (within (in_hex m 0))) e
    hexes_go goal (one_hex {j = j} {n = n} {v = v} {c = c} {d = d} h at_c is_hex) still q l =
        hexes_go goal h (suc still) (omega (arith, q)) (omega arith) ∙ next j c (in_hex (suc still) v) (in_hex still (with_digit 16 v d)) at_c (ap (hex_next (suc still) v) is_hex ∙ ap (λ b. cond b (ends (hex_code (with_digit 16 v d))) (goes (in_hex (suc still - 1) (with_digit 16 v d)))) (ne_eqb (suc still) 1 (λ z. omega (arith, l, z))) ∙ ap (λ m. goes (in_hex m (with_digit 16 v d))) (sub-one (suc still)))

    hexes_end : {i j n v : ℕ} → Hexes text w i j n v → 0 < n → e ≡ hex_code v → From i (within (in_hex n 0)) ≡ From j (past j)
    hexes_end no_hex l q = absurd (omega arith)
    hexes_end (one_hex {j = j} {n = n} {v = v} {c = c} {d = d} h at_c is_hex) l q =
        hexes_go (suc n) h 1 (omega arith) (omega arith) ∙ last j c (in_hex 1 v) at_c (ap (hex_next 1 v) is_hex ∙ ap ends (sym q))

    no_octal_stops : (j n v c : ℕ) → ¬ OctalAt text w j → At text w j c → escape_next (in_octal n v) c ≡ stops
    no_octal_stops j n v c no_o at_c = go (numeral c) refl
      where
        go : (g : Numeral) → numeral c ≡ g → octal_next n v (numeral c) ≡ stops
        go (low_digit d) q = absurd (no_o (c, d, at_c, q))
        go high_digit q = ap (octal_next n v) q
        go no_digit q = ap (octal_next n v) q

    octal_rests : (j n v : ℕ) → e ≡ octal_code v → ¬ OctalAt text w j → From j (within (in_octal n v)) ≡ From j (past j)
    octal_rests j n v q no_o = stays j (in_octal n v) (ap Some (sym q)) (λ c at_c. no_octal_stops j n v c no_o at_c)

    octals_go : {d i j n v : ℕ} → Octals text w d i j n v → e ≡ octal_code v → (n ≡ 2) ⊎ (n < 2) × ¬ OctalAt text w j → From i (within (in_octal 2 d)) ≡ From j (past j)
    octals_go {d} (no_octal {i = i}) q h = ⊎_elim (λ z. absurd (omega (arith, z))) (λ z. octal_rests i 2 d q z.1) h
    octals_go {d} (one_octal {c = c} {d = o} (no_octal {i = i}) at_c is_o) q h =
        next i c (in_octal 2 d) (in_octal 1 (with_digit 8 d o)) at_c (ap (octal_next 2 d) is_o) ∙ ⊎_elim (λ z. absurd (omega (arith, z))) (λ z. octal_rests (suc i) 1 (with_digit 8 d o) q z.1) h
    octals_go {d} (one_octal {c = c2} {d = o2} (one_octal {c = c} {d = o} (no_octal {i = i}) at_c is_o) at_c2 is_o2) q h =
        next i c (in_octal 2 d) (in_octal 1 (with_digit 8 d o)) at_c (ap (octal_next 2 d) is_o) ∙ last (suc i) c2 (in_octal 1 (with_digit 8 d o)) at_c2 (ap (octal_next 1 (with_digit 8 d o)) is_o2 ∙ ap ends (sym q))
    octals_go (one_octal (one_octal (one_octal o a b) a1 b1) a2 b2) q h = absurd (⊎_elim (λ z. omega (arith, z)) (λ z. omega (arith, z.0)) h)

    three_goes : {d i j n v : ℕ} → Octals text w d i j n v → n ≡ 2 → e ≡ octal_code v → From i (within (after_low d)) ≡ From j (past j)
    three_goes no_octal l q = absurd (omega (arith, l))
    three_goes (one_octal no_octal at_c is_o) l q = absurd (omega (arith, l))
    three_goes {d} (one_octal {c = c2} {d = o2} (one_octal {c = c} {d = o} (no_octal {i = i}) at_c is_o) at_c2 is_o2) l q =
        next i c (after_low d) (after_two (with_digit 8 d o)) at_c (ap (low_next d) is_o) ∙ last (suc i) c2 (after_two (with_digit 8 d o)) at_c2 (ap (two_next (with_digit 8 d o)) is_o2 ∙ ap ends (sym q))
    three_goes (one_octal (one_octal (one_octal o a b) a1 b1) a2 b2) l q = absurd (omega (arith, l))

    name_go : {i j : ℕ} → Without text w 125 i j → From i (within name_goes) ≡ From j (within name_goes)
    name_go no_code = refl
    name_go (one_code {j = j} {c = c} h at_c ne) = name_go h ∙ next j c name_goes name_goes at_c (ap (λ b. cond b (ends by_name) (goes name_goes)) (ne_eqb c 125 ne))

    one_goes : (j d : ℕ) → e ≡ reference → ¬ DigitAt text w j → From j (within (after_low d)) ≡ From j (past j)
    one_goes j d q no_d = stays j (after_low d) (ap Some (sym q)) (λ c at_c. go c at_c (numeral c) refl)
      where
        go : (c : ℕ) → At text w j c → (g : Numeral) → numeral c ≡ g → low_next d (numeral c) ≡ stops
        go c at_c (low_digit o) z = absurd (no_d (c, at_c, digit_from c (low_digit o) z refl))
        go c at_c high_digit z = absurd (no_d (c, at_c, digit_from c high_digit z refl))
        go c at_c no_digit z = ap (low_next d) z

    high_one : (j : ℕ) → e ≡ reference → ¬ DigitAt text w j → From j (within after_high) ≡ From j (past j)
    high_one j q no_d = stays j after_high (ap Some (sym q)) (λ c at_c. go c at_c (numeral c) refl)
      where
        go : (c : ℕ) → At text w j c → (g : Numeral) → numeral c ≡ g → high_next (numeral c) ≡ stops
        go c at_c (low_digit o) z = absurd (no_d (c, at_c, digit_from c (low_digit o) z refl))
        go c at_c high_digit z = absurd (no_d (c, at_c, digit_from c high_digit z refl))
        go c at_c no_digit z = ap high_next z

    two_goes : (i d : ℕ) → e ≡ reference → Slash text w in_class i (low d) → DigitAt text w (suc (suc i)) → ¬ ThreeOctals text w in_class i → From (suc (suc i)) (within (after_low d)) ≡ From (suc (suc (suc i))) (past (suc (suc (suc i))))
    two_goes i d q sl (c, at_c, is_d) no_three = go (numeral c) refl
      where
        third : (o : ℕ) → numeral c ≡ low_digit o → (c2 : ℕ) → At text w (suc (suc (suc i))) c2 → (g : Numeral) → numeral c2 ≡ g → two_next (with_digit 8 d o) (numeral c2) ≡ stops
        third o z c2 at_c2 (low_digit o2) z2 = absurd (no_three (d, with_digit 8 (with_digit 8 d o) o2, sl, one_octal (one_octal no_octal at_c z) at_c2 z2))
        third o z c2 at_c2 high_digit z2 = ap (two_next (with_digit 8 d o)) z2
        third o z c2 at_c2 no_digit z2 = ap (two_next (with_digit 8 d o)) z2

        go : (g : Numeral) → numeral c ≡ g → From (suc (suc i)) (within (after_low d)) ≡ From (suc (suc (suc i))) (past (suc (suc (suc i))))
        go (low_digit o) z =
            next (suc (suc i)) c (after_low d) (after_two (with_digit 8 d o)) at_c (ap (low_next d) z) ∙ stays (suc (suc (suc i))) (after_two (with_digit 8 d o)) (ap Some (sym q)) (λ c2 at_c2. third o z c2 at_c2 (numeral c2) refl)
        go high_digit z = last (suc (suc i)) c (after_low d) at_c (ap (low_next d) z ∙ ap ends (sym q))
        go no_digit z = absurd (digit_false c no_digit z refl is_d)

    high_two : (j : ℕ) → e ≡ reference → DigitAt text w j → From j (within after_high) ≡ From (suc j) (past (suc j))
    high_two j q (c, at_c, is_d) = go (numeral c) refl
      where
        go : (g : Numeral) → numeral c ≡ g → From j (within after_high) ≡ From (suc j) (past (suc j))
        go (low_digit o) z = last j c after_high at_c (ap high_next z ∙ ap ends (sym q))
        go high_digit z = last j c after_high at_c (ap high_next z ∙ ap ends (sym q))
        go no_digit z = absurd (digit_false c no_digit z refl is_d)

    refer_one : (i : ℕ) (s : EscapeClass) → e ≡ reference → Slash text w in_class i s → Refers s → ¬ DigitAt text w (suc (suc i)) → From (suc i) behind ≡ From (suc (suc i)) (past (suc (suc i)))
    refer_one i s q sl (inl (d, z)) no_d = begins_with i s (after_low d) sl (ap escape_first z) ∙ one_goes (suc (suc i)) d q no_d
    refer_one i s q sl (inr z) no_d = begins_with i s after_high sl (ap escape_first z) ∙ high_one (suc (suc i)) q no_d

    refer_two : (i : ℕ) (s : EscapeClass) → e ≡ reference → Slash text w in_class i s → Refers s → DigitAt text w (suc (suc i)) → ¬ ThreeOctals text w in_class i → From (suc i) behind ≡ From (suc (suc (suc i))) (past (suc (suc (suc i))))
    refer_two i s q sl (inl (d, z)) is_d no_three =
        begins_with i s (after_low d) sl (ap escape_first z) ∙ two_goes i d q (subst (λ t. Slash text w in_class i t) z sl) is_d no_three
    refer_two i s q sl (inr z) is_d no_three = begins_with i s after_high sl (ap escape_first z) ∙ high_two (suc (suc i)) q is_d

    escape_reads : {i j : ℕ} {d : Escaped} → Escape text w in_class i j d → e ≡ d → From (suc i) behind ≡ From j (past j)
    escape_reads (escape_single {i = i} {c = c} sl) q = ends_with i (single c) sl (ap ends (sym q))
    escape_reads (escape_kind {i = i} {k = k} {n = n} sl) q = ends_with i (kinds k n) sl (ap ends (sym q))
    escape_reads (escape_hex {i = i} {n = n} sl h) q = begins_with i (hexes n) (in_hex n 0) sl refl ∙ hexes_end h (hexes_pos text in_class sl.0 n sl.3) q
    escape_reads (escape_name {i = i} {j = j} {c = c} sl opens at_c ne h closes) q =
        begins_with i naming name_brace sl refl ∙ next (suc (suc i)) 123 name_brace name_begins opens refl ∙ next (suc (suc (suc i))) c name_begins name_goes at_c (ap (λ b. cond b stops (goes name_goes)) (ne_eqb c 125 ne)) ∙ name_go h ∙ last j 125 name_goes closes (ap ends (sym q))
    escape_reads (escape_octal {i = i} {d = d} sl h n) q = begins_with i (octal d) (in_octal 2 d) sl refl ∙ octals_go h q n
    escape_reads (escape_three {i = i} {d = d} sl h) q = begins_with i (low d) (after_low d) sl refl ∙ three_goes h refl q
    escape_reads (reference_one {i = i} {s = s} sl rf no_d) q = refer_one i s q sl rf no_d
    escape_reads (reference_two {i = i} {s = s} sl rf is_d no_three) q = refer_two i s q sl rf is_d no_three

  -- The machine reads an escape that the grammar spells.
  pub escape_goes : (in_class : Bool) (e : Escaped) (behind : State) (within : InEscape → State) (past : ℕ → State) → Reader in_class e behind within past → {i j : ℕ} → Escape text w in_class i j e → reads_from text w ask (suc i) behind ≡ reads_from text w ask j (past j)
  escape_goes in_class e behind within past r h = escape_reads in_class e behind within past r h refl

-- An escape begins with a backslash.
pub backslash : (text : Bool) (w : List ℕ) {in_class : Bool} {i j : ℕ} {e : Escaped} → Escape text w in_class i j e → At text w i 92
backslash text w (escape_single (c, back, at_c, is_s)) = back
backslash text w (escape_kind (c, back, at_c, is_s)) = back
backslash text w (escape_hex (c, back, at_c, is_s) h) = back
backslash text w (escape_name (c, back, at_c, is_s) o a n h z) = back
backslash text w (escape_octal (c, back, at_c, is_s) h n) = back
backslash text w (escape_three (c, back, at_c, is_s) h) = back
backslash text w (reference_one (c, back, at_c, is_s) r n) = back
backslash text w (reference_two (c, back, at_c, is_s) r d n) = back
