-- The string of a family, part by part.
use Rattle.std.proofs.Common.{◌≡◌, ◌∙◌, ℕ, zero, suc, ◌+◌, ◌<◌, ◌≤◌, All, List, [], ◌∷◌, ◌++◌, length, map, ap, refl, sym, append_assoc, append-nil, length-append, arith, unwrap_or, add-one, Bool, true, ◌==◌, Option, Some, None, Bor, option_map}
use Rattle.std.proofs.lemmas.Bool.{eqb-true}
use Rattle.std.proofs.lemmas.List.{nil_from_length}
use Rattle.std.proofs.lemmas.Str.{chars-nil}
use Rattle.std.specs.Str.{chars}
use Rattle.serde_json.specs.Find.{as_str}
use Rattle.serde_json.specs.View.{items_view, view}
use Rattle.serde_json.specs.declared.value.Value.{Value}
use Rattle.std.proofs.lemmas.List.Elements.{All-append, All-nil}
use Rattle.rl_ranges.specs.Text.{IsText, code_count}
use Rattle.rl_ranges.specs.declared.universe.Universe.{Universe}
use Rattle.rl_syntax.specs.Family.{copies, family_text}
use Rattle.rl_asked.specs.Questions.{AreTexts}
use Rattle.rl_asked.specs.Values.{texts_of}
use Rattle.rl_asked.specs.Words.{Text}
use Rattle.rl_ask.specs.Costs.{family_named}
use Rattle.rl_ask.specs.internal.Long.{IsLong}
use Rattle.rl_ask.specs.declared.family.TextError.{TextError}
use Rattle.rl_ask.specs.declared.family.TextError.TheVariants as error

-- The codes of the string that a value is.
abbrev pub codes_seen : Value → List ℕ
codes_seen v = chars (unwrap_or (as_str (view v)) [])

pub texts-seen : (vs : List Value) → map codes_seen vs ≡ map chars (texts_of (items_view vs))
texts-seen [] = refl
texts-seen (v ∷ vs) = ap (λ rest. codes_seen v ∷ rest) (texts-seen vs)

-- One copy more at the end.
copies-suc : (k : ℕ) (w : List ℕ) → copies (suc k) w ≡ copies k w ++ w
copies-suc zero w = append-nil w
copies-suc (suc k) w = ap (λ rest. w ++ rest) (copies-suc k w) ∙ sym (append_assoc w (copies k w) w)

pub copies-more : (k : ℕ) (w : List ℕ) → copies (k + 1) w ≡ copies k w ++ w
copies-more k w = ap (λ n. copies n w) (add-one k) ∙ copies-suc k w

pub copies-none : (k : ℕ) → copies k [] ≡ []
copies-none zero = refl
copies-none (suc k) = copies-none k

pub copies-length : (i k : ℕ) (w : List ℕ) → i ≤ k → length (copies i w) ≤ length (copies k w)
copies-length zero k w h = omega arith
copies-length (suc i) zero w h = absurd (omega (arith, h))
copies-length (suc i) (suc k) w h =
    let rest : length (copies i w) ≤ length (copies k w) = copies-length i k w (omega (arith, h)) in
    omega (arith, rest, length-append w (copies i w), length-append w (copies k w))

pub long-still : (e : TextError) (v w : List ℕ) → length v ≤ length w → IsLong e v → IsLong e w
long-still error.TooLong v w le h = omega (arith, le, h)
long-still error.OutOfMemory v w le h = tt

-- No string.
pub none-seen : (o : Option (Bor (List ℕ))) (seen : Option (List ℕ)) → o ≡ None → option_map (λ t. t.now) o ≡ seen → [] ≡ chars (unwrap_or seen [])
none-seen None seen is same = sym chars-nil ∙ ap (λ s. chars (unwrap_or s [])) same
none-seen (Some t) seen is same = absurd (cc)

-- Copies of an empty part.
pub copies-empty : (b : Bool) (k : ℕ) (v w : List ℕ) → b ≡ (length w == 0) → b ≡ true → v ≡ v ++ copies k w
copies-empty b k v w is e =
    let empty : w ≡ [] = nil_from_length w (eqb-true (length w) 0 (sym is ∙ e)) in
    sym (ap (λ part. v ++ copies k part) empty ∙ ap (λ part. v ++ part) (copies-none k) ∙ append-nil v)

-- The first copies and one more are no longer than all.
pub copies-within : (i k : ℕ) (u v w : List ℕ) → i < k → u ≡ v ++ copies i w → length (u ++ w) ≤ length (v ++ copies k w)
copies-within i k u v w h is =
    let some : length (copies (i + 1) w) ≤ length (copies k w) = copies-length (i + 1) k w (omega (arith, h)) in
    let here : length u ≡ length v + length (copies i w) = ap length is ∙ length-append v (copies i w) in
    let more : length (copies (i + 1) w) ≡ length (copies i w) + length w = ap length (copies-more i w) ∙ length-append (copies i w) w in
    omega (arith, some, here, more, length-append u w, length-append v (copies k w))

-- The first of the items of which something holds, and the rest.
first-of : {X : Type 0} (P : X → Type 0) (x : X) (xs : List X) → All P (x ∷ xs) → P x
first-of P x xs all = all zero x (omega arith)

rest-of : {X : Type 0} (P : X → Type 0) (x : X) (xs : List X) → All P (x ∷ xs) → All P xs
rest-of P x xs all = λ k d h. all (suc k) d (omega (arith, h))

copies-text : (u : Universe) (k : ℕ) (w : List ℕ) → IsText u w → IsText u (copies k w)
copies-text u zero w h = All-nil (λ c. c < code_count u)
copies-text u (suc k) w h = All-append (λ c. c < code_count u) w (copies k w) h (copies-text u k w h)

-- The string of a family has only codes of the universe if its heads and pumps have.
pub family-text : (u : Universe) (k : ℕ) (heads pumps : List Text) → AreTexts u heads → AreTexts u pumps → IsText u (family_text (family_named heads pumps) k)
family-text u k [] pumps hs ps = All-nil (λ c. c < code_count u)
family-text u k (head ∷ heads) [] hs ps = first-of (λ text. IsText u (chars text)) head heads hs
family-text u k (head ∷ heads) (pump ∷ pumps) hs ps =
    let is = λ (text : Text). IsText u (chars text) in
    let one : IsText u (chars head ++ copies k (chars pump)) =
    All-append (λ c. c < code_count u) (chars head) (copies k (chars pump)) (first-of is head heads hs) (copies-text u k (chars pump) (first-of is pump pumps ps)) in
    All-append (λ c. c < code_count u) (chars head ++ copies k (chars pump)) (family_text (family_named heads pumps) k) one
    (family-text u k heads pumps (rest-of is head heads hs) (rest-of is pump pumps ps))
