-- Lists of values, and the keys of an object, given the values and entries of the program.
use Rattle.std.proofs.Common.{◌≡◌, ◌∙◌, ℕ, zero, suc, ◌+◌, ◌<◌, List, [], ◌∷◌, ◌&&◌, Bool, true, false, not, cond, Option, Some, None, All, ap, refl, sym, length, string_bytes, option_map, unwrap_or, Bor, String, Global, arith}
use Rattle.std.specs.List.{find, list_all, list_any}
use Rattle.std.specs.Map.{keys_of as map_keys}
use Rattle.std.specs.Option.{option_map_or}
use Rattle.std.specs.Prelude.{nat_lt, slice_index_or}
use Rattle.std.proofs.lemmas.Bool.Decides.{nat_tests}
use Rattle.std.proofs.lemmas.List.Sums.{AllPass-from_list_all}
use Rattle.std.specs.Str.{bytes_eq, chars}
use Rattle.std.proofs.lemmas.Bool.{and_parts, false≢true}
use Rattle.serde_json.specs.Data.{Data, Items, no_items, item}
use Rattle.serde_json.specs.Find.{as_str}
use Rattle.serde_json.specs.View.{items_of, items_view, members_view, view}
use Rattle.serde_json.specs.declared.value.Value.{Value}
use Rattle.rl_ranges.specs.Text.{IsText, code_count}
use Rattle.rl_ranges.specs.declared.universe.Universe.{Universe}
use Rattle.rl_asked.specs.Keys.{first_unknown, keys_of}
use Rattle.rl_asked.specs.Questions.{AreTexts}
use Rattle.rl_asked.specs.Values.{are_texts, has_pumps, is_text_of, is_text_value, texts_of}
use Rattle.rl_asked.specs.Words.{Text}
use Rattle.rl_asked.specs.declared.words.Ask.{Ask}

pub are_texts-view : (u : Universe) (vs : List Value) → list_all (λ v. is_text_value u (view v)) vs ≡ are_texts u (items_view vs)
are_texts-view u [] = refl
are_texts-view u (v ∷ vs) = ap (λ rest. is_text_value u (view v) && rest) (are_texts-view u vs)

unknown-by : (b : Bool) (key : String Global) (rest : Option (String Global)) (more : Option Text) → option_map string_bytes rest ≡ more
    → option_map string_bytes (cond (not b) (Some key) rest) ≡ cond b more (Some (string_bytes key))
unknown-by true key rest more h = h
unknown-by false key rest more h = refl

pub unknown-view : (ask : Ask) (entries : List (String Global × Value))
    → option_map string_bytes (find (λ (key : String Global). not (list_any (bytes_eq (string_bytes key)) (keys_of ask))) (map_keys entries)) ≡ first_unknown ask (members_view entries)
unknown-view ask [] = refl
unknown-view ask (entry ∷ entries) = unknown-by (list_any (bytes_eq (string_bytes entry.0)) (keys_of ask)) entry.0 _ _ (unknown-view ask entries)

pub mapped-twice : (o : Option (Bor (String Global))) → option_map (λ k. string_bytes k.now) o ≡ option_map string_bytes (option_map (λ k. k.now) o)
mapped-twice None = refl
mapped-twice (Some k) = refl

-- The codes of a text that passed the test.
pub text-codes : (u : Universe) (w : List ℕ) → list_all (λ c. nat_lt c (code_count u)) w ≡ true → All (λ c. c < code_count u) w
text-codes u w e = λ i d h. let t = AllPass-from_list_all (λ c. nat_lt c (code_count u)) w e i d h in grind (arith, nat_tests)

value-codes : (u : Universe) (o : Option Text) → option_map_or (is_text_of u) o false ≡ true → IsText u (chars (unwrap_or o []))
value-codes u (Some text) e = text-codes u (chars text) e
value-codes u None e = absurd (false≢true e)

all-cons : (P : Text → Type 0) (x : Text) (xs : List Text) → P x → All P xs → All P (x ∷ xs)
all-cons P x xs p ps = by
  where
    by : (k : ℕ) (d : Text) → k < length (x ∷ xs) → P (slice_index_or (x ∷ xs) k d)
    by zero d h = p
    by (suc k) d h = ps k d (omega arith)

pub texts-codes : (u : Universe) (ds : Items) → are_texts u ds ≡ true → AreTexts u (texts_of ds)
texts-codes u no_items e = λ k d h. absurd (omega arith)
texts-codes u (item d ds) e =
    let parts = and_parts (is_text_value u d) (are_texts u ds) e in
    all-cons (λ text. IsText u (chars text)) (unwrap_or (as_str d) []) (texts_of ds) (value-codes u (as_str d) parts.0) (texts-codes u ds parts.1)

-- One pump less than heads.
pub has_pumps-lengths : (heads pumps : Items) → has_pumps heads pumps ≡ true → length (texts_of heads) ≡ length (texts_of pumps) + 1
has_pumps-lengths no_items pumps e = absurd (false≢true e)
has_pumps-lengths (item h no_items) no_items e = refl
has_pumps-lengths (item h (item g hs)) no_items e = absurd (false≢true e)
has_pumps-lengths (item h hs) (item p ps) e = let more = has_pumps-lengths hs ps e in omega arith

-- The test of their numbers, given the values of the program.
pub one_less : (heads pumps : List Value) → length pumps + 1 ≡ length heads → has_pumps (items_view heads) (items_view pumps) ≡ true
one_less [] pumps e = absurd (omega arith)
one_less (x ∷ []) [] e = refl
one_less (x ∷ y ∷ heads) [] e = absurd (omega arith)
one_less (x ∷ heads) (p ∷ pumps) e = one_less heads pumps (omega arith)

pub not-one_less : (heads pumps : List Value) → (length pumps + 1 ≡ length heads → ⊥) → has_pumps (items_view heads) (items_view pumps) ≡ false
not-one_less [] pumps h = refl
not-one_less (x ∷ []) [] h = absurd (h refl)
not-one_less (x ∷ y ∷ heads) [] h = refl
not-one_less (x ∷ heads) (p ∷ pumps) h = not-one_less heads pumps (λ e. h (omega arith))

-- Both tests at once.
pub pumps_counted : (b : Bool) (heads pumps : List Value) → (b ≡ true → length pumps + 1 ≡ length heads) → (b ≡ false → length pumps + 1 ≡ length heads → ⊥)
    → b ≡ has_pumps (items_view heads) (items_view pumps)
pumps_counted true heads pumps is isnt = sym (one_less heads pumps (is refl))
pumps_counted false heads pumps is isnt = sym (not-one_less heads pumps (isnt refl))

-- What the tests of lists say.
pub ruleset passed = (text-codes, texts-codes, has_pumps-lengths, pumps_counted)
