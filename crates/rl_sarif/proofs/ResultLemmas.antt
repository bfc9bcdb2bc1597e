-- Results appended one after the other in a loop, and a document without floats.
use Rattle.std.proofs.Common.{◌≡◌, ℕ, ◌+◌, ◌<◌, ◌≤◌, Bool, true, false, cond, List, [], ◌∷◌, ◌++◌, length, get_or, take, map, filter, Option, None, Some, codes, ap, ap₂, sym, refl, ◌∙◌, Vec, Global, append-nil}
use Rattle.std.proofs.lemmas.List.{map-append, take_more, take_all}
use Rattle.std.proofs.lemmas.List.Elements.{filter-append}
use Rattle.serde_json.specs.Data.{Data, array, object, string, no_members, put}
use Rattle.serde_json.specs.View.{items_of, view}
use Rattle.serde_json.specs.Written.{has_float}
use Rattle.serde_json.specs.declared.value.Value.{Value, Array}
use Rattle.serde_json.proofs.Views.{view-Array}
use Rattle.rl_json.proofs.NoFloats.{items-plain}
use Rattle.rl_report.specs.declared.places.Place.{Place}
use Rattle.rl_report.specs.declared.report.Entry.{Entry}
use Rattle.rl_report.specs.Document.{put_some}
use Rattle.rl_sarif.specs.Sarif.{region_data, uri_text, result_data, results_data, document_data, is_result}

module _ {X : Type 0} (p : X → Bool) (f : X → Data) (xs : List X) (i : ℕ) (x : X) where
  one-kept : (b : Bool) → p x ≡ b → filter p (x ∷ []) ≡ cond b (x ∷ []) []
  one-kept true e = rw e
  one-kept false e = rw e

  kept-so-far : (b : Bool) → i < length xs → x ≡ get_or xs i x → p x ≡ b → map f (filter p (take (i + 1) xs)) ≡ map f (filter p (take i xs)) ++ map f (cond b (x ∷ []) [])
  kept-so-far b h e is =
      ap (λ l. map f (filter p l)) (take_more xs i x h ∙ ap (λ y. take i xs ++ y ∷ []) (sym e))
      ∙ ap (map f) (filter-append p (take i xs) (x ∷ []) ∙ ap (λ l. filter p (take i xs) ++ l) (one-kept b is))
      ∙ map-append f (filter p (take i xs)) (cond b (x ∷ []) [])

-- The values of the kept items so far, and one more.
pub value_more : {X : Type 0} (p : X → Bool) (f : X → Data) (vs ws : List Value) (xs : List X) (i : ℕ) (x : X) (v : Value) → i < length xs → x ≡ get_or xs i x → p x ≡ true → view v ≡ f x
    → map view vs ≡ map f (filter p (take i xs)) → ws ≡ vs ++ v ∷ [] → map view ws ≡ map f (filter p (take (i + 1) xs))
value_more p f vs ws xs i x v h e passes is so_far pushed =
    ap (map view) pushed ∙ map-append view vs (v ∷ []) ∙ ap₂ (λ ds d. ds ++ d ∷ []) so_far is ∙ sym (kept-so-far p f xs i x true h e passes)

-- An item that isn't kept.
pub value_passed : {X : Type 0} (p : X → Bool) (f : X → Data) (vs : List Value) (xs : List X) (i : ℕ) (x : X) → i < length xs → x ≡ get_or xs i x → p x ≡ false
    → map view vs ≡ map f (filter p (take i xs)) → map view vs ≡ map f (filter p (take (i + 1) xs))
value_passed p f vs xs i x h e fails so_far = so_far ∙ sym (kept-so-far p f xs i x false h e fails ∙ append-nil (map f (filter p (take i xs))))

pub value_all : {X : Type 0} (p : X → Bool) (f : X → Data) (vs : Vec Value Global) (xs : List X) (i : ℕ) → length xs ≤ i → map view vs.items ≡ map f (filter p (take i xs))
    → view (Array vs) ≡ array (items_of (map f (filter p xs)))
value_all p f vs xs i h so_far = view-Array vs ∙ ap (λ ds. array (items_of ds)) (so_far ∙ ap (λ l. map f (filter p l)) (take_all i xs h))

-- An array with one item.
pub one_item : (before : List Value) (vs : Vec Value Global) (v : Value) → before ≡ [] → vs.items ≡ before ++ v ∷ [] → view (Array vs) ≡ array (items_of (view v ∷ []))
one_item before vs v none pushed = view-Array vs ∙ ap (λ xs. array (items_of (map view xs))) (pushed ∙ ap (λ xs. xs ++ v ∷ []) none)

-- ---- no float

physical-plain : (at : Option Place) (path : List ℕ) → has_float (object (put_some (codes "region") region_data at (put (codes "artifactLocation") (object (put (codes "uri") (string (uri_text path)) no_members)) no_members))) ≡ false
physical-plain None path = refl
physical-plain (Some p) path = refl

result-plain : (max_pairs : ℕ) (e : Entry) → has_float (result_data max_pairs e) ≡ false
result-plain max_pairs e = rw (physical-plain e.at e.path)

document-plain : (results : Data) → has_float results ≡ false → has_float (document_data results) ≡ false
document-plain results h = rw h

pub plain_document : (d results : Data) (max_degree max_pairs : ℕ) (entries : List Entry) → d ≡ document_data results → results ≡ results_data max_degree max_pairs entries → has_float d ≡ false
plain_document d results max_degree max_pairs entries e is =
    ap has_float e ∙ document-plain results (ap has_float is ∙ items-plain (result_data max_pairs) (filter (is_result max_degree) entries) (result-plain max_pairs))
