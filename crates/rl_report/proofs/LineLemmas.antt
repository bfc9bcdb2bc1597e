-- Pieces appended one after the other in a loop.
use Rattle.std.proofs.Common.{◌≡◌, ℕ, ◌+◌, ◌<◌, ◌≤◌, List, [], ◌∷◌, ◌++◌, length, get_or, take, ap, sym, ◌∙◌}
use Rattle.std.specs.List.{flat_map}
use Rattle.std.proofs.lemmas.List.{flat_map_more, take_more, take_all}

-- The pieces of the items so far, and one more.
pub piece_more : {X : Type 0} (f : X → List ℕ) (old now next : List ℕ) (xs : List X) (i : ℕ) (x : X) → i < length xs → x ≡ get_or xs i x
    → now ≡ old ++ flat_map f (take i xs) → next ≡ now ++ f x → next ≡ old ++ flat_map f (take (i + 1) xs)
piece_more f old now next xs i x h e n m =
    m ∙ ap (λ ys. ys ++ f x) n ∙ flat_map_more f old (take i xs) x
    ∙ ap (λ ys. old ++ flat_map f ys) (ap (λ y. take i xs ++ y ∷ []) e ∙ sym (take_more xs i x h))

-- At the end all pieces are there.
pub pieces_all : {X : Type 0} (f : X → List ℕ) (old now : List ℕ) (xs : List X) (i : ℕ) → length xs ≤ i → now ≡ old ++ flat_map f (take i xs) → now ≡ old ++ flat_map f xs
pieces_all f old now xs i h n = n ∙ ap (λ ys. old ++ flat_map f ys) (take_all i xs h)
