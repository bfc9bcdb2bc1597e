-- Rows put one behind the other in a loop.
use Rattle.std.proofs.Common.{◌≡◌, ◌∙◌, ℕ, ◌+◌, ◌<◌, ◌≤◌, List, [], ◌∷◌, ◌++◌, length, get_or, take, map, ap, ap₂, sym, refl, subst, Result, IfOk, Vec, Global}
use Rattle.std.proofs.lemmas.List.{map-append, take_more, take_all}
use Rattle.serde_json.specs.Data.{Data, array}
use Rattle.serde_json.specs.View.{items_of, view}
use Rattle.serde_json.specs.declared.value.Value.{Value, Array}
use Rattle.serde_json.proofs.Views.{view-Array}

-- The value that was made, for another name of the same data.
pub value-of : {X E : Type 0} (f : X → Data) (made : Result Value E) (x y : X) → x ≡ y → IfOk made (λ v. view v ≡ f x) → IfOk made (λ v. view v ≡ f y)
value-of f made x y same h = subst (λ z. IfOk made (λ v. view v ≡ f z)) same h

-- The values of the items so far, and one more.
pub row_more : {X : Type 0} (f : X → Data) (vs ws : List Value) (xs : List X) (i : ℕ) (x d : X) (v : Value) → i < length xs → x ≡ get_or xs i d → view v ≡ f x
    → map view vs ≡ map f (take i xs) → ws ≡ vs ++ v ∷ [] → map view ws ≡ map f (take (i + 1) xs)
row_more f vs ws xs i x d v h e is so_far pushed =
    ap (map view) pushed ∙ (map-append view vs (v ∷ []) ∙ (ap₂ (λ ds y. ds ++ y ∷ []) so_far is
    ∙ sym (ap (map f) (take_more xs i d h ∙ ap (λ y. take i xs ++ y ∷ []) (sym e)) ∙ map-append f (take i xs) (x ∷ []))))

pub row_all : {X : Type 0} (f : X → Data) (vs : Vec Value Global) (xs : List X) (i : ℕ) → length xs ≤ i → map view vs.items ≡ map f (take i xs) → view (Array vs) ≡ array (items_of (map f xs))
row_all f vs xs i h so_far = view-Array vs ∙ ap (λ ds. array (items_of ds)) (so_far ∙ ap (λ l. map f l) (take_all i xs h))

-- The same if each item is first made a row.
map-twice : {X Y Z : Type 0} (f : Y → Z) (g : X → Y) (xs : List X) → map (λ x. f (g x)) xs ≡ map f (map g xs)
map-twice f g [] = refl
map-twice {Z = Z} f g (x ∷ xs) = ap (λ (l : List Z). f (g x) ∷ l) (map-twice f g xs)

pub row_all_of : {X : Type 0} (g : X → List ℕ) (f : List ℕ → Data) (vs : Vec Value Global) (xs : List X) (i : ℕ) → length xs ≤ i → map view vs.items ≡ map (λ x. f (g x)) (take i xs) → view (Array vs) ≡ array (items_of (map f (map g xs)))
row_all_of g f vs xs i h so_far = row_all (λ x. f (g x)) vs xs i h so_far ∙ ap (λ ds. array (items_of ds)) (map-twice f g xs)

pub ruleset rows = (row_more, row_all, row_all_of)
