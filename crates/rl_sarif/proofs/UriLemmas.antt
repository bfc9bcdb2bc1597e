-- Bytes appended one after the other in a loop.
use Rattle.std.proofs.Common.{◌≡◌, ℕ, ◌+◌, ◌<◌, ◌≤◌, List, [], ◌++◌, length, get_or, take, ap, sym, ◌∙◌}
use Rattle.std.specs.List.{flat_map}
use Rattle.std.proofs.lemmas.List.{flat_map_more, take_more, take_all}

-- The pieces of the items so far, and one more.
pub piece-more : (f : ℕ → List ℕ) (now next xs : List ℕ) (i : ℕ) → i < length xs
    → now ≡ flat_map f (take i xs) → next ≡ now ++ f (get_or xs i 0) → next ≡ flat_map f (take (i + 1) xs)
piece-more f now next xs i h n m =
    m ∙ ap (λ ys. ys ++ f (get_or xs i 0)) n ∙ flat_map_more f [] (take i xs) (get_or xs i 0) ∙ ap (flat_map f) (sym (take_more xs i 0 h))

pub pieces-all : (f : ℕ → List ℕ) (now xs : List ℕ) (i : ℕ) → length xs ≤ i → now ≡ flat_map f (take i xs) → now ≡ flat_map f xs
pieces-all f now xs i h n = n ∙ ap (flat_map f) (take_all i xs h)
