-- Trees with groups that are joined one by one.
use Rattle.std.proofs.Common.{◌≡◌, ℕ, zero, suc, List, [], ◌∷◌, ◌++◌, map, replicate, refl, sym, ap, ◌∙◌, append_assoc}
use Rattle.rl_marks.specs.declared.tree.MarkTree.{MarkTree}
use Rattle.rl_marks.specs.Marked.{Marked, both, either, marked_of}
use Rattle.rl_marks.specs.Marking.{in_turn, one_of}
use Rattle.rl_marks.proofs.Following.{map-join}

in_turn-two : (l : List Marked) (f w : Marked) → in_turn (l ++ f ∷ w ∷ []) ≡ in_turn (l ++ both f w ∷ [])
in_turn-two [] f w = refl
in_turn-two (x ∷ []) f w = refl
in_turn-two (x ∷ y ∷ l) f w = ap (both x) (in_turn-two (y ∷ l) f w)

one_of-two : (l : List Marked) (f w : Marked) → one_of (l ++ f ∷ w ∷ []) ≡ one_of (l ++ either f w ∷ [])
one_of-two [] f w = refl
one_of-two (x ∷ []) f w = refl
one_of-two (x ∷ y ∷ l) f w = ap (either x) (one_of-two (y ∷ l) f w)

-- The list of the trees, the last of which was taken off.
pub taken_off : (l left : List MarkTree) (last : MarkTree) → l ≡ left ++ last ∷ [] → map marked_of l ≡ map marked_of left ++ marked_of last ∷ []
taken_off l left last e = ap (map marked_of) e ∙ map-join marked_of left (last ∷ [])

pub in_turn-step : (l left : List MarkTree) (first whole new : MarkTree) (trees : List MarkTree) → l ≡ left ++ first ∷ [] → marked_of new ≡ both (marked_of first) (marked_of whole)
    → in_turn (map marked_of l ++ marked_of whole ∷ []) ≡ in_turn (map marked_of trees) → in_turn (map marked_of left ++ marked_of new ∷ []) ≡ in_turn (map marked_of trees)
in_turn-step l left first whole new trees e n h =
    ap (λ t. in_turn (map marked_of left ++ t ∷ [])) n
    ∙ sym (in_turn-two (map marked_of left) (marked_of first) (marked_of whole))
    ∙ ap in_turn (sym (append_assoc (map marked_of left) (marked_of first ∷ []) (marked_of whole ∷ [])))
    ∙ ap (λ m. in_turn (m ++ marked_of whole ∷ [])) (sym (taken_off l left first e))
    ∙ h

pub one_of-step : (l left : List MarkTree) (first whole new : MarkTree) (trees : List MarkTree) → l ≡ left ++ first ∷ [] → marked_of new ≡ either (marked_of first) (marked_of whole)
    → one_of (map marked_of l ++ marked_of whole ∷ []) ≡ one_of (map marked_of trees) → one_of (map marked_of left ++ marked_of new ∷ []) ≡ one_of (map marked_of trees)
one_of-step l left first whole new trees e n h =
    ap (λ t. one_of (map marked_of left ++ t ∷ [])) n
    ∙ sym (one_of-two (map marked_of left) (marked_of first) (marked_of whole))
    ∙ ap one_of (sym (append_assoc (map marked_of left) (marked_of first ∷ []) (marked_of whole ∷ [])))
    ∙ ap (λ m. one_of (m ++ marked_of whole ∷ [])) (sym (taken_off l left first e))
    ∙ h

-- One more copy at the end.
replicate-last : (n : ℕ) (t : Marked) → replicate n t ++ t ∷ [] ≡ replicate (suc n) t
replicate-last zero t = refl
replicate-last (suc n) t = ap (λ l. t ∷ l) (replicate-last n t)
