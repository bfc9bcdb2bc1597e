-- Values appended one after the other in a loop.
use Rattle.std.proofs.Common.{◌≡◌, ℕ, ◌+◌, ◌<◌, ◌≤◌, List, [], ◌∷◌, ◌++◌, length, get_or, take, map, ap, ap₂, sym, ◌∙◌, Vec, Global}
use Rattle.std.proofs.lemmas.List.{map-append, take_more, take_all}
use Rattle.serde_json.specs.Data.{Data, array}
use Rattle.serde_json.specs.View.{items_of, view}
use Rattle.serde_json.specs.declared.value.Value.{Value, Array}
use Rattle.serde_json.proofs.Views.{view-Array}

-- The values of the items so far, and one more.
pub value_more : {X : Type 0} (f : X → Data) (vs ws : List Value) (xs : List X) (i : ℕ) (x : X) (v : Value) → i < length xs → x ≡ get_or xs i x → view v ≡ f x
    → map view vs ≡ map f (take i xs) → ws ≡ vs ++ v ∷ [] → map view ws ≡ map f (take (i + 1) xs)
value_more f vs ws xs i x v h e is so_far pushed =
    ap (map view) pushed ∙ map-append view vs (v ∷ []) ∙ ap₂ (λ ds d. ds ++ d ∷ []) so_far is
    ∙ sym (ap (map f) (take_more xs i x h ∙ ap (λ y. take i xs ++ y ∷ []) (sym e)) ∙ map-append f (take i xs) (x ∷ []))

-- The same, for an item that is read by its index.
pub value_next : {X : Type 0} (f : X → Data) (vs ws : List Value) (xs : List X) (i : ℕ) (d : X) (v : Value) → i < length xs → view v ≡ f (get_or xs i d)
    → map view vs ≡ map f (take i xs) → ws ≡ vs ++ v ∷ [] → map view ws ≡ map f (take (i + 1) xs)
value_next f vs ws xs i d v h is so_far pushed =
    ap (map view) pushed ∙ map-append view vs (v ∷ []) ∙ ap₂ (λ ds e. ds ++ e ∷ []) so_far is
    ∙ sym (ap (map f) (take_more xs i d h) ∙ map-append f (take i xs) (get_or xs i d ∷ []))

-- The values of all items, as an array.
pub value_all : {X : Type 0} (f : X → Data) (vs : Vec Value Global) (xs : List X) (i : ℕ) → length xs ≤ i → map view vs.items ≡ map f (take i xs)
    → view (Array vs) ≡ array (items_of (map f xs))
value_all f vs xs i h so_far = view-Array vs ∙ ap (λ ds. array (items_of ds)) (so_far ∙ ap (map f) (take_all i xs h))
