-- The groups that are written and those that are left make up the whole.
use Rattle.std.proofs.Common.{◌≡◌, ◌∙◌, ℕ, ◌+◌, ◌<◌, ◌≤◌, List, [], ◌∷◌, ◌++◌, length, get_or, drop, Option, refl, ap, sym, arith, append_assoc, append-nil}
use Rattle.std.proofs.lemmas.List.{drop_more, length-drop}
use Rattle.rl_asked.specs.Words.{Text}
use Rattle.rl_ask.specs.Sights.{group_text, groups_text}

pub groups_more : (out more whole : Text) (values : List (Option (ℕ × ℕ))) (i : ℕ) (d : Option (ℕ × ℕ)) → i < length values
    → more ≡ out ++ group_text (i + 1) (get_or values i d) → out ++ groups_text (i + 1) (drop i values) ≡ whole
    → more ++ groups_text (i + 1 + 1) (drop (i + 1) values) ≡ whole
groups_more out more whole values i d h pushed inv =
    let left = groups_text (i + 1 + 1) (drop (i + 1) values) in
    ap (λ t. t ++ left) pushed ∙ append_assoc out (group_text (i + 1) (get_or values i d)) left
    ∙ ap (λ l. out ++ groups_text (i + 1) l) (sym (drop_more values i d h)) ∙ inv

no_group : (n : ℕ) (values : List (Option (ℕ × ℕ))) → length values ≤ 0 → groups_text n values ≡ []
no_group n [] h = refl
no_group n (v ∷ values) h = absurd (omega arith)

-- At the end nothing is left.
pub groups_end : (out whole : Text) (values : List (Option (ℕ × ℕ))) (i : ℕ) → length values ≤ i → out ++ groups_text (i + 1) (drop i values) ≡ whole → out ≡ whole
groups_end out whole values i h inv =
    sym (append-nil out) ∙ ap (λ l. out ++ l) (sym (no_group (i + 1) (drop i values) (omega (arith, length-drop i values)))) ∙ inv
