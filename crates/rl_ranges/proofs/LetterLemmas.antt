-- Letters: what follows if the sets don't tell two codes apart.
use Rattle.std.proofs.Common.{Bool, List, Some, [], ap, ap₂, arith, false, get_or, inl, inr, length, refl, slice_get, subst, suc, sym, true, zero, ℕ, ◌&&◌, ◌*◌, ◌++◌, ◌+◌, ◌-◌, ◌<◌, ◌==◌, ◌∙◌, ◌∷◌, ◌≡◌, ◌≤◌}
use Rattle.std.proofs.Math.Bool.{beq}
use Rattle.std.proofs.lemmas.Bool.{and_from, and_parts, both_ways, cases_Bool, eq-eqb, le-leb, ne_eqb}
use Rattle.std.proofs.lemmas.Bool.Decides.{nat_tests}
use Rattle.std.proofs.lemmas.List.Edits.{sets}
use Rattle.std.proofs.lemmas.Option.{slice_get-get_or}
use Rattle.std.specs.List.{list_any}
use Rattle.std.specs.Prelude.{if◌then◌else◌}
use Rattle.rl_ranges.proofs.FirstsLemmas.{IsLikeness, firsts-below, firsts-congr, firsts-finer, firsts-zero, number-hit, number-lt, number-of_first, number-only, number-same, piece-new, place-same}
use Rattle.rl_ranges.proofs.SetLemmas.{and-true, and_assoc}
use Rattle.rl_ranges.specs.Building.{range_at}
use Rattle.rl_ranges.specs.Codes.{has}
use Rattle.rl_ranges.specs.Letters.{IsLetters, IsPlain, LetterTable, alike, class_of, classes, letter_at, letter_from, place_where}
use Rattle.rl_ranges.specs.Numbering.{IsNumbered, firsts, same_value}
use Rattle.rl_ranges.specs.declared.letters.TheConstants.{MOST_LETTERS}
use Rattle.rl_ranges.specs.internal.Splitting.{IsPreferred, NumbersLetters, value_in}

beq-same : (x : Bool) → beq x x ≡ true
beq-same true = refl
beq-same false = refl

pub beq-true : (x y : Bool) → beq x y ≡ true → x ≡ y
beq-true true true h = refl
beq-true true false h = cc
beq-true false true h = cc
beq-true false false h = refl

pub beq-from : (x y : Bool) → x ≡ y → beq x y ≡ true
beq-from x y h = subst (λ z. beq x z ≡ true) h (beq-same x)

pub alike-itself : (sets : List (ℕ → Bool)) (c : ℕ) → alike sets c c ≡ true
alike-itself [] c = refl
alike-itself (s ∷ sets) c = and_from _ _ (beq-same (s c)) (alike-itself sets c)

pub alike-back : (sets : List (ℕ → Bool)) (c d : ℕ) → alike sets c d ≡ true → alike sets d c ≡ true
alike-back [] c d h = refl
alike-back (s ∷ sets) c d h =
    let parts = and_parts (beq (s c) (s d)) (alike sets c d) h in
    and_from _ _ (beq-from (s d) (s c) (sym (beq-true (s c) (s d) parts.0))) (alike-back sets c d parts.1)

pub alike-onward : (sets : List (ℕ → Bool)) (c d e : ℕ) → alike sets c d ≡ true → alike sets d e ≡ true → alike sets c e ≡ true
alike-onward [] c d e h k = refl
alike-onward (s ∷ sets) c d e h k =
    let first = and_parts (beq (s c) (s d)) (alike sets c d) h in
    let second = and_parts (beq (s d) (s e)) (alike sets d e) k in
    and_from _ _ (beq-from (s c) (s e) (beq-true (s c) (s d) first.0 ∙ beq-true (s d) (s e) second.0)) (alike-onward sets c d e first.1 second.1)

pub IsLikeness-alike : (sets : List (ℕ → Bool)) → IsLikeness (alike sets)
IsLikeness-alike sets = record { itself = alike-itself sets; back = alike-back sets; onward = alike-onward sets }

-- One more set.
pub alike-push : (sets : List (ℕ → Bool)) (s : ℕ → Bool) (c d : ℕ) → alike (sets ++ s ∷ []) c d ≡ (alike sets c d && beq (s c) (s d))
alike-push [] s c d = and-true (beq (s c) (s d))
alike-push (t ∷ sets) s c d =
    ap (λ b. beq (t c) (t d) && b) (alike-push sets s c d) ∙ and_assoc (beq (t c) (t d)) (alike sets c d) (beq (s c) (s d))

pub classes-firsts : (sets : List (ℕ → Bool)) (n : ℕ) → classes sets n ≡ firsts (alike sets) n
unfolding classes firsts
classes-firsts sets zero = refl
classes-firsts sets (suc n) = ap (λ l. if list_any (alike sets n) l then l else l ++ n ∷ []) (classes-firsts sets n)

pub class_of-place : (sets : List (ℕ → Bool)) (n c : ℕ) → class_of sets n c ≡ place_where (alike sets c) (firsts (alike sets) n)
unfolding class_of
class_of-place sets n c = ap (place_where (alike sets c)) (classes-firsts sets n)

-- The least code of a code's letter is in the list, at the number of the letter.
pub class_found : (sets : List (ℕ → Bool)) (n c : ℕ) → c < n → (r : ℕ) × (slice_get (classes sets n) (class_of sets n c) ≡ Some r) × (alike sets c r ≡ true)
class_found sets n c lt =
    let laws = IsLikeness-alike sets in
    let l = firsts (alike sets) n in
    let place = place_where (alike sets c) l in
    (get_or l place 0, ap₂ slice_get (classes-firsts sets n) (class_of-place sets n c) ∙ slice_get-get_or l place 0 (number-lt (alike sets) laws n c lt), number-hit (alike sets) laws n c lt)

-- Two codes belong to the same letter if and only if the sets don't tell them apart.
pub class_of-same : (sets : List (ℕ → Bool)) (n c d : ℕ) → alike sets c d ≡ true → class_of sets n c ≡ class_of sets n d
class_of-same sets n c d h =
    class_of-place sets n c ∙ number-same (alike sets) (IsLikeness-alike sets) n c d h ∙ sym (class_of-place sets n d)

pub class_of-only : (sets : List (ℕ → Bool)) (n c d : ℕ) → c < n → d < n → class_of sets n c ≡ class_of sets n d → alike sets c d ≡ true
class_of-only sets n c d hc hd same =
    number-only (alike sets) (IsLikeness-alike sets) n c d hc hd (sym (class_of-place sets n c) ∙ same ∙ class_of-place sets n d)

pub class_of-lt : (sets : List (ℕ → Bool)) (n c : ℕ) → c < n → class_of sets n c < length (classes sets n)
class_of-lt sets n c lt =
    rw (class_of-place sets n c, classes-firsts sets n) (number-lt (alike sets) (IsLikeness-alike sets) n c lt)

pub classes-below : (sets : List (ℕ → Bool)) (n k : ℕ) → k < length (classes sets n) → get_or (classes sets n) k 0 < n
classes-below sets n k lt =
    rw (classes-firsts sets n) (firsts-below (alike sets) n k (subst (λ l. k < length l) (classes-firsts sets n) lt))

-- The least code of a letter belongs to the letter and isn't greater than any other code of it.
pub class_of-first : (sets : List (ℕ → Bool)) (n k : ℕ) → k < length (classes sets n) → class_of sets n (get_or (classes sets n) k 0) ≡ k
class_of-first sets n k lt =
    class_of-place sets n (get_or (classes sets n) k 0)
    ∙ ap (λ l. place_where (alike sets (get_or l k 0)) (firsts (alike sets) n)) (classes-firsts sets n)
    ∙ number-of_first (alike sets) (IsLikeness-alike sets) n k (subst (λ l. k < length l) (classes-firsts sets n) lt)

-- More sets have at least as many letters.
pub classes-more : (sets : List (ℕ → Bool)) (s : ℕ → Bool) (n : ℕ) → length (classes sets n) ≤ length (classes (sets ++ s ∷ []) n)
classes-more sets s n =
    rw (classes-firsts sets n, classes-firsts (sets ++ s ∷ []) n)
    (firsts-finer (alike sets) (alike (sets ++ s ∷ [])) (IsLikeness-alike sets)
    (λ c d h. (and_parts (alike sets c d) (beq (s c) (s d)) (sym (alike-push sets s c d) ∙ h)).0) n)

pub alike-append : (xs ys : List (ℕ → Bool)) (c d : ℕ) → alike (xs ++ ys) c d ≡ (alike xs c d && alike ys c d)
alike-append [] ys c d = refl
alike-append (s ∷ xs) ys c d =
    ap (λ b. beq (s c) (s d) && b) (alike-append xs ys c d) ∙ and_assoc (beq (s c) (s d)) (alike xs c d) (alike ys c d)

pub classes-append : (xs ys : List (ℕ → Bool)) (n : ℕ) → length (classes xs n) ≤ length (classes (xs ++ ys) n)
classes-append xs ys n =
    rw (classes-firsts xs n, classes-firsts (xs ++ ys) n)
    (firsts-finer (alike xs) (alike (xs ++ ys)) (IsLikeness-alike xs)
    (λ c d h. (and_parts (alike xs c d) (alike ys c d) (sym (alike-append xs ys c d) ∙ h)).0) n)

-- ---- the table of letters, one set after another

-- Two codes have the same number if and only if they are alike.
pub number-tells : (sets : List (ℕ → Bool)) (n c d : ℕ) → c < n → d < n
    → (place_where (alike sets c) (firsts (alike sets) n) == place_where (alike sets d) (firsts (alike sets) n)) ≡ alike sets c d
number-tells sets n c d hc hd = elim (cases_Bool (alike sets c d)) [
  | inl hit ↦ eq-eqb _ _ (number-same (alike sets) (IsLikeness-alike sets) n c d hit) ∙ sym hit
  | inr miss ↦ ne_eqb _ _ (λ same. both_ways _ miss (number-only (alike sets) (IsLikeness-alike sets) n c d hc hd same)) ∙ sym miss
]

-- The combined value of a pair determines the pair.
pair_tells : (a b : ℕ) (x y : Bool) → (2 * a + (if x then 1 else 0) == 2 * b + (if y then 1 else 0)) ≡ ((a == b) && beq x y)
pair_tells a b true true = grind (arith, nat_tests)
pair_tells a b true false = grind (arith, nat_tests)
pair_tells a b false true = grind (arith, nat_tests)
pair_tells a b false false = grind (arith, nat_tests)

pub NumbersLetters-none : (n : ℕ) → 0 < n → (stretches : List (ℕ × ℕ)) (least : List ℕ) → stretches ≡ (0, 0) ∷ [] → least ≡ 0 ∷ [] → NumbersLetters stretches least [] n
NumbersLetters-none n some stretches least s_is l_is =
    let more : 0 + suc (n - 1) ≡ n = omega arith in
    let all : firsts (alike []) n ≡ 0 ∷ [] =
    ap (firsts (alike [])) (sym more)
    ∙ piece-new (alike []) (IsLikeness-alike []) 0 (n - 1) (ap (list_any (alike [] 0)) (firsts-zero (alike []))) (λ c low high. refl)
    ∙ ap (λ l. l ++ 0 ∷ []) (firsts-zero (alike [])) in
    record {
      covers = rw s_is (record {
        some = omega arith;
        start = refl;
        rising = λ j k jk k_in. absurd (omega arith);
        within = λ k k_in. let at : 0 ≡ k = omega arith in omega (arith, ap (λ i. (range_at ((0, 0) ∷ []) i).0) at);
      });
      below = rw (s_is, l_is) (λ k k_in. let at : 0 ≡ k = omega arith in omega (arith, ap (λ i. (range_at ((0, 0) ∷ []) i).1) at));
      few = rw l_is (omega arith);
      same_firsts = l_is ∙ sym all;
      same_number = λ c c_in. rw (s_is, all) (ap (λ b. if b then 0 else 0) (le-leb 0 c (omega arith)));
    }

-- The combined values of the numbers and one more set tell codes apart exactly as the sets together with that one do.
pub values_tell : (sets : List (ℕ → Bool)) (s : List (ℕ × ℕ)) (n : ℕ) (stretches : List (ℕ × ℕ)) (least : List ℕ) → NumbersLetters stretches least sets n
    → (c d : ℕ) → c < n → d < n → same_value (value_in stretches s) c d ≡ alike (sets ++ has s ∷ []) c d
values_tell sets s n stretches least t c d hc hd =
    ap₂ (λ x y. x == y)
    (ap (λ x. 2 * x + (if has s c then 1 else 0)) (t.same_number c hc))
    (ap (λ x. 2 * x + (if has s d then 1 else 0)) (t.same_number d hd))
    ∙ pair_tells _ _ (has s c) (has s d)
    ∙ ap (λ b. b && beq (has s c) (has s d)) (number-tells sets n c d hc hd)
    ∙ sym (alike-push sets (has s) c d)

pub NumbersLetters-more : (sets : List (ℕ → Bool)) (s : List (ℕ × ℕ)) (n : ℕ) (stretches stretches' : List (ℕ × ℕ)) (least least' : List ℕ) → NumbersLetters stretches least sets n
    → IsNumbered (value_in stretches s) n stretches' least' → NumbersLetters stretches' least' (sets ++ has s ∷ []) n
NumbersLetters-more sets s n stretches stretches' least least' t h =
    let more = sets ++ has s ∷ [] in
    let tell = values_tell sets s n stretches least t in
    let same = firsts-congr (same_value (value_in stretches s)) (alike more) n tell in
    let all : least' ≡ firsts (alike more) n = h.same_firsts ∙ same in
    record {
      covers = h.covers;
      below = h.below;
      few = h.few;
      same_firsts = all;
      same_number = λ c c_in. h.same_number c c_in ∙ ap (place_where (same_value (value_in stretches s) c)) all
          ∙ place-same (same_value (value_in stretches s) c) (alike more c) (firsts (alike more) n)
          (λ k k_in. tell c (get_or (firsts (alike more) n) k 0) c_in (firsts-below (alike more) n k k_in));
    }

-- Too many values mean too many letters.
pub values_many : (sets : List (ℕ → Bool)) (s : List (ℕ × ℕ)) (n : ℕ) (stretches : List (ℕ × ℕ)) (least : List ℕ) → NumbersLetters stretches least sets n
    → MOST_LETTERS < length (firsts (same_value (value_in stretches s)) n) → MOST_LETTERS < length (classes (sets ++ has s ∷ []) n)
values_many sets s n stretches least t many =
    let same = firsts-congr (same_value (value_in stretches s)) (alike (sets ++ has s ∷ [])) n (values_tell sets s n stretches least t) in
    omega (arith, ap length same, ap length (classes-firsts (sets ++ has s ∷ []) n))

-- The finished table.
pub IsLetters-from : (sets : List (ℕ → Bool)) (n : ℕ) (t : LetterTable) (least : List ℕ) → NumbersLetters t.stretches least sets n → t.codes ≡ n → 126 < n → length t.samples ≡ length least
    → ((k : ℕ) → k < length least → IsPreferred t.stretches 32 k (get_or least k 0) (get_or t.samples k 0)) → IsLetters t sets n
unfolding letter_at
IsLetters-from sets n t least h codes plain_in len prefer =
    let all : least ≡ classes sets n = h.same_firsts ∙ sym (classes-firsts sets n) in
    let letter : (c : ℕ) → c < n → letter_from 0 t.stretches c ≡ class_of sets n c = λ c lt. h.same_number c lt ∙ sym (class_of-place sets n c) in
    record {
      same_codes = codes;
      same_count = len ∙ ap length all;
      same_letter = letter;
      same_sample = λ l l_in.
          let k_in : l < length least = omega arith in
          let first : slice_get (classes sets n) l ≡ Some (get_or least l 0) = ap (λ xs. slice_get xs l) (sym all) ∙ slice_get-get_or least l 0 k_in in
          let l_known : l < length (classes sets n) = omega (arith, ap length all) in
          elim (prefer l k_in) [
            | inl p ↦
                let below : get_or t.samples l 0 < n = omega (arith, p.1) in
                record {
                  within = below;
                  in_it = sym (letter _ below) ∙ p.2;
                  least = λ d lt same plain. p.3 d plain.0 lt (letter d (omega (arith, plain.1)) ∙ same);
                  plain = inl (p.0, p.1);
                }
            | inr p ↦
                let none : (d : ℕ) → d < n → class_of sets n d ≡ l → IsPlain d → ⊥ = λ d d_in same plain. p.1 d plain.0 plain.1 (letter d d_in ∙ same) in
                let is : get_or t.samples l 0 ≡ get_or (classes sets n) l 0 = p.0 ∙ ap (λ xs. get_or xs l 0) all in
                let below : get_or t.samples l 0 < n = omega (arith, is, classes-below sets n l l_known) in
                record {
                  within = below;
                  in_it = ap (class_of sets n) is ∙ class_of-first sets n l l_known;
                  least = λ d lt same plain. none d (omega arith) same plain;
                  plain = inr (first ∙ ap Some (sym p.0), none);
                }
          ];
    }
