-- The codes in the holes of a pattern are those that are gone.
use Rattle.std.proofs.Common.{◌≡◌, ℕ, Bool, true, false, not, ◌||◌, if◌then◌else◌, ◌&&◌, List, [], ◌∷◌, ◌++◌, Some, refl, ap, ◌∙◌}
use Rattle.rl_pattern.specs.Suggested.{among, text_of, text_if}
use Rattle.rl_pattern.specs.Thinned.{kept_from}
use Rattle.rl_syntax.specs.declared.span.Span.{Span}
use Rattle.rl_syntax.specs.PatTree.{PatTree, PatTrees, BranchTrees, nothing, class, seq, choice, repeat, group, anchor, boundary, look, outside, no_items, item, no_branches, branch}
use Rattle.rl_pattern.specs.Cut.{lies_in, in_dropped, gone, gone_items, gone_branches}
use Rattle.rl_rewrite.specs.declared.spelling.Hole.{Hole}
use Rattle.rl_rewrite.specs.internal.Holes.{in_holes, branch_hole, mark_hole, holes_in, items_holes, branches_holes}

or_assoc : (a b c : Bool) → (a || (b || c)) ≡ ((a || b) || c)
or_assoc true b c = refl
or_assoc false b c = refl

join_holes : (hs ks : List Hole) (t : ℕ) → in_holes (hs ++ ks) t ≡ (in_holes hs t || in_holes ks t)
join_holes [] ks t = refl
join_holes (h ∷ hs) ks t = ap (λ b. lies_in h.from h.upto t || b) (join_holes hs ks t) ∙ or_assoc (lies_in h.from h.upto t) (in_holes hs t) (in_holes ks t)

dropped_hole : (s : Span) (before : Bool) (t : ℕ) → lies_in (branch_hole s before).from (branch_hole s before).upto t ≡ in_dropped before s t
dropped_hole s true t = refl
dropped_hole s false t = refl

module _ (drop out : Span → Bool) where
  mutual
    pub hole_gone : (p : PatTree) (t : ℕ) → in_holes (holes_in drop out p) t ≡ gone drop out p t
    hole_gone (nothing s) t = refl
    hole_gone (class s set) t = refl
    hole_gone (seq s ps) t = items_gone ps t
    hole_gone (choice s bs) t = branches_gone bs false t
    hole_gone (repeat s q l m g p) t = go (out q) (hole_gone p t)
      where
        go : (b : Bool) → in_holes (holes_in drop out p) t ≡ gone drop out p t → in_holes ((if b then mark_hole q ∷ [] else []) ++ holes_in drop out p) t ≡ ((b && lies_in q.from q.upto t) || gone drop out p t)
        go true e = ap (λ x. lies_in q.from q.upto t || x) e
        go false e = e
    hole_gone (group s c p) t = hole_gone p t
    hole_gone (anchor s k m) t = refl
    hole_gone (boundary s n a) t = refl
    hole_gone (look s b i r) t = refl
    hole_gone (outside s f) t = refl

    items_gone : (ps : PatTrees) (t : ℕ) → in_holes (items_holes drop out ps) t ≡ gone_items drop out ps t
    items_gone no_items t = refl
    items_gone (item p ps) t = join_holes (holes_in drop out p) (items_holes drop out ps) t ∙ ap (λ x. x || in_holes (items_holes drop out ps) t) (hole_gone p t) ∙ ap (λ x. gone drop out p t || x) (items_gone ps t)

    branches_gone : (bs : BranchTrees) (before : Bool) (t : ℕ) → in_holes (branches_holes drop out bs before) t ≡ gone_branches drop out bs before t
    branches_gone no_branches before t = refl
    branches_gone (branch s p bs) before t = go (drop s) (branches_gone bs before t) (hole_gone p t) (branches_gone bs true t)
      where
        go : (d : Bool) → in_holes (branches_holes drop out bs before) t ≡ gone_branches drop out bs before t → in_holes (holes_in drop out p) t ≡ gone drop out p t → in_holes (branches_holes drop out bs true) t ≡ gone_branches drop out bs true t
            → in_holes (if d then branch_hole s before ∷ branches_holes drop out bs before else holes_in drop out p ++ branches_holes drop out bs true) t ≡ (if d then (in_dropped before s t || gone_branches drop out bs before t) else (gone drop out p t || gone_branches drop out bs true t))
        go true e f g = ap (λ x. x || in_holes (branches_holes drop out bs before) t) (dropped_hole s before t) ∙ ap (λ x. in_dropped before s t || x) e
        go false e f g = join_holes (holes_in drop out p) (branches_holes drop out bs true) t ∙ ap (λ x. x || in_holes (branches_holes drop out bs true) t) f ∙ ap (λ x. gone drop out p t || x) g

kept_alike : (f g : ℕ → Bool) (k : ℕ) (w : List ℕ) → ((t : ℕ) → f t ≡ g t) → kept_from f k w ≡ kept_from g k w
kept_alike f g k w h = ap (λ u. kept_from u k w) (λ i t. h t i)

some_text : (p : PatTree) (d m : List Span) (codes : List ℕ) → (d ≡ [] → m ≡ [] → ⊥) → Some (text_of p d m codes) ≡ text_if p d m codes
some_text p [] [] codes h = absurd (h refl refl)
some_text p [] (m ∷ ms) codes h = refl
some_text p (d ∷ ds) ms codes h = refl

-- The codes that lie in no hole are the text, where something was taken out.
pub text_made : (p : PatTree) (d m : List Span) (codes text : List ℕ) (holes : List Hole) → (d ≡ [] → m ≡ [] → ⊥) → holes ≡ holes_in (among d) (among m) p → text ≡ kept_from (λ t. not (in_holes holes t)) 0 codes → Some text ≡ text_if p d m codes
text_made p d m codes text holes some e f =
    ap Some (f ∙ kept_alike (λ t. not (in_holes holes t)) (λ t. not (gone (among d) (among m) p t)) 0 codes (λ t. ap (λ hs. not (in_holes hs t)) e ∙ ap not (hole_gone (among d) (among m) p t))) ∙ some_text p d m codes some
