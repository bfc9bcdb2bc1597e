-- The first item that satisfies a test, found by testing one item after another.
use Rattle.std.proofs.Common.{◌≡◌, ℕ, ◌+◌, ◌<◌, Bool, true, false, cond, List, [], ◌∷◌, Some, None, length, take, drop, get_or, take-append-drop, drop-cons, suc, sym, ap, ◌∙◌}
use Rattle.std.specs.Prelude.{find}
use Rattle.std.specs.Option.{option_or}
use Rattle.std.proofs.lemmas.List.{take_more}
use Rattle.std.proofs.lemmas.List.Folds.{find-append}

pub found_none : {X : Type 0} (p : X → Bool) (xs : List X) (i : ℕ) (d : X) → i < length xs → find p (take i xs) ≡ None → p (get_or xs i d) ≡ false
    → find p (take (i + 1) xs) ≡ None
found_none p xs i d h none fails =
    ap (find p) (take_more xs i d h) ∙ find-append p (take i xs) (get_or xs i d ∷ []) ∙ ap (λ o. option_or o (find p (get_or xs i d ∷ []))) none
    ∙ ap (λ b. cond b (Some (get_or xs i d)) None) fails

pub found_here : {X : Type 0} (p : X → Bool) (xs : List X) (i : ℕ) (d : X) → i < length xs → find p (take i xs) ≡ None → p (get_or xs i d) ≡ true
    → find p xs ≡ Some (get_or xs i d)
found_here p xs i d h none passes =
    ap (find p) (sym (take-append-drop i xs)) ∙ find-append p (take i xs) (drop i xs) ∙ ap (λ o. option_or o (find p (drop i xs))) none
    ∙ ap (find p) (drop-cons xs i d h) ∙ ap (λ b. cond b (Some (get_or xs i d)) (find p (drop (suc i) xs))) passes
