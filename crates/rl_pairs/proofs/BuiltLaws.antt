-- Laws of the table that is made of what was found.
use Rattle.std.proofs.Common.{◌≡◌, ◌∙◌, ℕ, ◌+◌, List, [], ◌∷◌, ◌++◌, take, slice_get, Some, map, sym, ap}
use Rattle.std.proofs.lemmas.List.{take_more, map-append}
use Rattle.std.proofs.lemmas.Option.{slice_get_within, get_or_from_slice_get}
use Rattle.rl_sets.specs.Walk.{Walk, set_at}
use Rattle.rl_pairs.specs.declared.pair.Pair.{Pair}
use Rattle.rl_pairs.specs.declared.finder.Key.{Key}
use Rattle.rl_pairs.specs.internal.Finding.{pair_of}

-- The pairs of keys.
pub pairs-more : (w : Walk) (keys : List Key) (k : ℕ) (key : Key) (items new : List Pair) (set : List ℕ) → items ≡ map (pair_of w) (take k keys) → slice_get keys k ≡ Some key → set ≡ set_at w key.set → new ≡ items ++ record { state = key.state; set = set } ∷ [] → new ≡ map (pair_of w) (take (k + 1) keys)
pairs-more w keys k key items new set e read is more =
    let lt = slice_get_within keys k key read in
    more
    ∙ ap (λ (l : List Pair). l ++ record { state = key.state; set = set } ∷ []) e
    ∙ ap (λ (s : List ℕ). map (pair_of w) (take k keys) ++ record { state = key.state; set = s } ∷ []) is
    ∙ sym (map-append (pair_of w) (take k keys) (key ∷ []))
    ∙ ap (λ (x : Key). map (pair_of w) (take k keys ++ x ∷ [])) (sym (get_or_from_slice_get keys k key key read))
    ∙ ap (map (pair_of w)) (sym (take_more keys k key lt))
