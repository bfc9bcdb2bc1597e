-- Digits and code points appended one after the other.
use Rattle.std.proofs.Common.{◌≡◌, ℕ, zero, suc, ◌+◌, ◌-◌, ◌/◌, ◌%◌, ◌<◌, ◌≤◌, Bool, true, false, ◌&&◌, List, [], ◌∷◌, ◌++◌, length, get_or, take, refl, ap, sym, ◌∙◌, arith, append_assoc, Some, None, Option}
use Rattle.std.specs.Prelude.{IsTrue, slice_get, ◌==◌}
use Rattle.std.specs.Option.{option_map_or}
use Rattle.std.specs.List.{list_all, flat_map}
use Rattle.std.specs.Fmt.{digit_glyph}
use Rattle.std.proofs.lemmas.Bool.{false≢true}
use Rattle.std.proofs.lemmas.Bool.Decides.{nat_tests}
use Rattle.std.proofs.lemmas.List.{append-nil, take_more}
use Rattle.std.proofs.lemmas.List.Concat.{flat_map-append}
use Rattle.rl_pystr.specs.Quoting.{hex, escaped, is_plain, ends_in_backslash}

pub hex_more : (old new newer : List ℕ) (count number : ℕ) → 0 < count → new ≡ old ++ hex (count - 1) (number / 16) → newer ≡ new ++ digit_glyph false (number % 16) ∷ [] → newer ≡ old ++ hex count number
hex_more old new newer zero number h e f = absurd (omega arith)
hex_more old new newer (suc count) number h e f =
    let same : suc count - 1 ≡ count = omega arith in
    f ∙ ap (λ xs. xs ++ digit_glyph false (number % 16) ∷ []) (e ∙ ap (λ k. old ++ hex k (number / 16)) same) ∙ append_assoc old (hex count (number / 16)) (digit_glyph false (number % 16) ∷ [])

pub hex_none : (old : List ℕ) (count number : ℕ) → count ≤ 0 → old ≡ old ++ hex count number
hex_none old zero number h = sym (append-nil old)
hex_none old (suc count) number h = absurd (omega arith)

pub ruleset digits = (hex_more, hex_none)

pub escaped_more : (bytes : Bool) (old now next : List ℕ) (xs : List ℕ) (i c d : ℕ) → i < length xs → c ≡ get_or xs i d
    → now ≡ old ++ flat_map (escaped bytes) (take i xs) → next ≡ now ++ escaped bytes c → next ≡ old ++ flat_map (escaped bytes) (take (i + 1) xs)
escaped_more bytes old now next xs i c d h e n f =
    f ∙ ap (λ ys. ys ++ escaped bytes c) n ∙ append_assoc old (flat_map (escaped bytes) (take i xs)) (escaped bytes c)
    ∙ ap (λ ys. old ++ ys)
    (ap (λ ys. flat_map (escaped bytes) (take i xs) ++ ys) (sym (append-nil (escaped bytes c)))
    ∙ sym (flat_map-append (escaped bytes) (take i xs) (c ∷ []))
    ∙ ap (flat_map (escaped bytes)) (ap (λ y. take i xs ++ y ∷ []) e ∙ sym (take_more xs i d h)))

pub plain_more : (old now next : List ℕ) (xs : List ℕ) (i c d : ℕ) → i < length xs → c ≡ get_or xs i d
    → now ≡ old ++ take i xs → next ≡ now ++ c ∷ [] → next ≡ old ++ take (i + 1) xs
plain_more old now next xs i c d h e n f =
    f ∙ ap (λ ys. ys ++ c ∷ []) n ∙ append_assoc old (take i xs) (c ∷ [])
    ∙ ap (λ ys. old ++ ys) (ap (λ y. take i xs ++ y ∷ []) e ∙ sym (take_more xs i d h))

left-of : (b c : Bool) → (b && c) ≡ true → b ≡ true
left-of true c h = refl
left-of false c h = absurd (false≢true h)

right-of : (b c : Bool) → (b && c) ≡ true → c ≡ true
right-of true c h = h
right-of false c h = absurd (false≢true h)

plain_small : (c : ℕ) → is_plain c ≡ true → c < 128
plain_small c h = grind (arith, nat_tests)

pub plain_at : (xs : List ℕ) (i d : ℕ) → IsTrue (list_all is_plain xs) → i < length xs → get_or xs i d < 128
plain_at [] i d h l = absurd (omega arith)
plain_at (x ∷ xs) zero d h l = plain_small x (left-of (is_plain x) (list_all is_plain xs) h)
plain_at (x ∷ xs) (suc i) d h l = plain_at xs i d (right-of (is_plain x) (list_all is_plain xs) h) (omega arith)

pub is_last : (xs : List ℕ) (c : ℕ) → Some c ≡ slice_get xs (length xs - 1) → (c == 92) ≡ ends_in_backslash xs
is_last xs c e = ap (λ (o : Option ℕ). option_map_or (λ x. x == 92) o false) e

pub no_last : (xs : List ℕ) → None ≡ slice_get xs (length xs - 1) → false ≡ ends_in_backslash xs
no_last xs e = ap (λ (o : Option ℕ). option_map_or (λ x. x == 92) o false) e

pub ruleset last_of = (is_last, no_last)

pub plain_part : (b c : Bool) → IsTrue (b && c) → IsTrue b
plain_part b c h = left-of b c h

pub ruleset plains = (plain_part)
