-- Lists without a floating-point number: no item contains one.
use Rattle.std.proofs.Common.{◌≡◌, false, List, [], ◌∷◌, map, refl}
use Rattle.std.proofs.lemmas.Bool.{or_from}
use Rattle.serde_json.specs.Data.{Data}
use Rattle.serde_json.specs.View.{items_of}
use Rattle.serde_json.specs.Written.{has_float, items_have_float}

pub items-plain : {X : Type 0} (f : X → Data) (xs : List X) → ((x : X) → has_float (f x) ≡ false) → items_have_float (items_of (map f xs)) ≡ false
items-plain f [] h = refl
items-plain f (x ∷ xs) h = or_from (has_float (f x)) (items_have_float (items_of (map f xs))) (h x) (items-plain f xs h)
