-- The coding in the second line, given what is read in both lines.
use Rattle.std.proofs.Common.{◌≡◌, ℕ, zero, suc, ◌+◌, ◌≤◌, arith, subst, Bool, true, false, cond, not, ◌&&◌, ◌||◌, List, length, drop, refl, ap, sym, ◌∙◌, Some, None, Option}
use Rattle.std.specs.Prelude.{◌==◌, IfSome}
use Rattle.std.specs.List.{prefix_len}
use Rattle.std.proofs.lemmas.Bool.{false≢true}
use Rattle.std.proofs.lemmas.Bool.Decides.{nat_tests}
use Rattle.rl_pylex.specs.Bytes.{begins, line_end}
use Rattle.rl_pylex.specs.declared.coding.Named.{Named}
use Rattle.rl_pylex.specs.Coding.{is_gap, in_coding, named_here, from_place, coding_of_line, is_bare, line_of, second_coding}

chosen : (A : Type 0) (b : Bool) (x y : A) → b ≡ true → x ≡ cond b x y
chosen A b x y e = rw e refl

other : (A : Type 0) (b : Bool) (x y : A) → b ≡ false → y ≡ cond b x y
other A b x y e = rw e refl

turned : (A : Type 0) (b c : Bool) (x y : A) → true ≡ b → cond c y x ≡ cond (b && not c) x y
turned A true true x y e = refl
turned A true false x y e = refl
turned A false c x y e = absurd (false≢true (sym e))

-- The text doesn't begin with `coding`.
pub named-none : (text : List ℕ) → false ≡ (begins "coding:" text || begins "coding=" text) → None ≡ named_here text
unfolding named_here
named-none text e =
    let from = 7 + prefix_len is_gap (drop 7 text) in
    let size = prefix_len in_coding (drop from text) in
    ap (λ b. cond (b && not (size == 0)) (Some (record { from = from; size = size })) None) e

-- The text begins with `coding`.
pub named-is : (text rest behind : List ℕ) (gap size : ℕ) → true ≡ (begins "coding:" text || begins "coding=" text) → rest ≡ drop 7 text → gap ≡ prefix_len is_gap rest
    → behind ≡ drop (7 + gap) text → size ≡ prefix_len in_coding behind → cond (size == 0) None (Some (record { from = 7 + gap; size = size })) ≡ named_here text
unfolding named_here
named-is text rest behind gap size e after gaps next sizes =
    let here = begins "coding:" text || begins "coding=" text in
    turned (Option Named) here (size == 0) (Some (record { from = 7 + gap; size = size })) None e
    ∙ ap (λ (n : ℕ). cond (here && not (n == 0)) (Some (record { from = 7 + gap; size = n })) None) (sizes ∙ ap (prefix_len in_coding) next)
    ∙ ap (λ (k : ℕ). cond (here && not (prefix_len in_coding (drop (7 + k) text) == 0)) (Some (record { from = 7 + k; size = prefix_len in_coding (drop (7 + k) text) })) None) (gaps ∙ ap (prefix_len is_gap) after)

not-zero : (n : ℕ) → (n ≡ 0 → ⊥) → (n == 0) ≡ false
not-zero zero some = absurd (some refl)
not-zero (suc n) some = grind (arith, nat_tests)

pub named-some : (text rest behind : List ℕ) (gap size : ℕ) → true ≡ (begins "coding:" text || begins "coding=" text) → rest ≡ drop 7 text → gap ≡ prefix_len is_gap rest
    → behind ≡ drop (7 + gap) text → size ≡ prefix_len in_coding behind → (size ≡ 0 → ⊥) → Some (record { from = 7 + gap; size = size }) ≡ named_here text
named-some text rest behind gap size e after gaps next sizes some =
    other (Option Named) (size == 0) None (Some (record { from = 7 + gap; size = size })) (not-zero size some) ∙ named-is text rest behind gap size e after gaps next sizes

-- The first line isn't bare.
pub second-none : (text first : List ℕ) → first ≡ line_of text → false ≡ is_bare first → None ≡ second_coding text
unfolding second_coding
second-none text first here bare =
    let next = length (line_of text) + line_end (drop (length (line_of text)) text) in
    other (Option Named) (is_bare (line_of text)) (from_place next (coding_of_line (line_of (drop next text)))) None (ap is_bare (sym here) ∙ sym bare)

-- The first line is bare.
pub second-is : (text first rest behind line : List ℕ) (n : ℕ) (o r : Option Named) → first ≡ line_of text → true ≡ is_bare first → rest ≡ drop (length first) text → n ≡ line_end rest
    → behind ≡ drop (length first + n) text → line ≡ line_of behind → o ≡ coding_of_line line → r ≡ from_place (length first + n) o → r ≡ second_coding text
unfolding second_coding
second-is text first rest behind line n o r here bare after ends next second names is =
    let at = length (line_of text) + line_end (drop (length (line_of text)) text) in
    is ∙ ap (from_place (length first + n)) (names ∙ ap coding_of_line (second ∙ ap line_of next))
    ∙ ap (λ k. from_place (length first + k) (coding_of_line (line_of (drop (length first + k) text)))) (ends ∙ ap line_end after)
    ∙ ap (λ xs. from_place (length xs + line_end (drop (length xs) text)) (coding_of_line (line_of (drop (length xs + line_end (drop (length xs) text)) text)))) here
    ∙ chosen (Option Named) (is_bare (line_of text)) (from_place at (coding_of_line (line_of (drop at text)))) None (ap is_bare (sym here) ∙ sym bare)

-- A name that lies within a line lies within the text.
pub place-within : (o r : Option Named) (n len all : ℕ) → r ≡ from_place n o → IfSome o (λ m. m.from + m.size ≤ len) → n + len ≤ all → IfSome r (λ m. m.from + m.size ≤ all)
place-within None r n len all e inside fits = subst (λ (q : Option Named). IfSome q (λ m. m.from + m.size ≤ all)) (sym e) tt
place-within (Some m) r n len all e inside fits =
    subst (λ (q : Option Named). IfSome q (λ m. m.from + m.size ≤ all)) (sym e) (omega (arith, inside, fits))
