-- What is left of a part without further branches is the tree of what is left without some branches, and its flags tell which
-- places are kept.
use Rattle.std.proofs.Common.{◌≡◌, ◌+◌, Bool, true, false, not, ◌&&◌, ◌||◌, if◌then◌else◌, List, [], ◌∷◌, ◌++◌, replicate, refl, sym, ap, ◌∙◌, subst}
use Rattle.std.proofs.lemmas.List.{append-nil, replicate-append-replicate}
use mathlib.Core.Path.{fun_ext}
use Rattle.rl_syntax.specs.declared.span.Span.{Span}
use Rattle.rl_syntax.specs.Lowering.{one_of, lowered, items_lowered, branches_lowered, guard_of, boundary_guard}
use Rattle.rl_syntax.specs.PatTree as p
use Rattle.rl_syntax.specs.declared.anchors.Guard.TheVariants.{Look}
use Rattle.rl_syntax.specs.Tree.{Tree, empty, one, guard, either, places}
use Rattle.rl_pattern.specs.Cut.{choice_of, remaining, remaining_items, remaining_branches}
use Rattle.rl_pattern.specs.Suggested.{same_span, among, no_span, some_kept, may_go, items_may_go, branches_may_go, holds_capture}
use Rattle.rl_pattern.proofs.Linking.{or_none}
use Rattle.rl_trim.specs.Without.{may_be_empty, Without, whole, in_both, in_either, in_many, first_goes, second_goes}
use Rattle.rl_rewrite.proofs.Fewer.{choice_tree, kept_some, and_first, and_second}
use Rattle.rl_rewrite.proofs.EachPlace.{IsOfParts, Each, no_each, one_each, each_turn, each_one, of_times}
use Rattle.rl_rewrite.proofs.EmptyParts.{left_empty}
use Rattle.rl_rewrite.specs.internal.Keeping.{spans_empty, loses_empty, items_lose_empty, branches_lose_empty, flags_in, items_flags, branches_flags}

-- Each place of the second tree goes.
abbrev Gone : List Bool → Tree → Tree → Type 0
Gone k s t = k ≡ replicate (places t) false

gone_both : (k m : List Bool) (e f : Tree) → k ≡ replicate (places e) false → m ≡ replicate (places f) false → k ++ m ≡ replicate (places e + places f) false
gone_both k m e f g h = ap (λ l. l ++ m) g ∙ ap (λ l. replicate (places e) false ++ l) h ∙ replicate-append-replicate (places e) (places f) false

gone_of_parts : IsOfParts Gone
gone_of_parts = record {
  of_nothing = refl;
  of_both = λ k m a b e f g h. gone_both k m b f g h;
  of_either = λ k m a b e f g h. gone_both k m b f g h;
  of_many = λ k a b g h. h;
}

without_of_parts : IsOfParts Without
without_of_parts = record {
  of_nothing = whole {t = empty};
  of_both = λ k m a b e f g h. in_both g h;
  of_either = λ k m a b e f g h. in_either g h;
  of_many = λ k a b g h. in_many h;
}

-- Lists of trees, where some of the second list are left out.
data Part : List Bool → List Tree → List Tree → Type 0 where
  no_part : Part [] [] []
  in_part : {k m : List Bool} {s t : Tree} {ss ts : List Tree} → Without k s t → Part m ss ts → Part (k ++ m) (s ∷ ss) (t ∷ ts)
  out_part : {m : List Bool} {t : Tree} {ss ts : List Tree} → may_be_empty t ≡ false → Part m ss ts → Part (replicate (places t) false ++ m) ss (t ∷ ts)

none_of : {m : List Bool} {ts : List Tree} → Part m [] ts → m ≡ replicate (places (one_of ts)) false
none_of no_part = refl
none_of (out_part {t = t} e no_part) = append-nil (replicate (places t) false)
none_of (out_part {t = t} e (out_part {m = m} {t = u} {ts = us} f h)) = gone_both (replicate (places t) false) (replicate (places u) false ++ m) t (one_of (u ∷ us)) refl (none_of (out_part f h))

or_assoc : (a b c : Bool) → ((a || b) || c) ≡ (a || (b || c))
or_assoc true b c = refl
or_assoc false b c = refl

or_both : (a b : Bool) → a ≡ false → b ≡ false → (a || b) ≡ false
or_both a b e f = ap (λ x. x || b) e ∙ f

none_empty : (u : Tree) (us : List Tree) {m : List Bool} → Part m [] (u ∷ us) → may_be_empty (one_of (u ∷ us)) ≡ false
none_empty u [] (out_part e h) = e
none_empty u (v ∷ vs) (out_part e h) = or_both (may_be_empty u) (may_be_empty (one_of (v ∷ vs))) e (none_empty v vs h)

one_without : {k : List Bool} (ss ts : List Tree) → Part k ss ts → (ss ≡ [] → ⊥) → Without k (one_of ss) (one_of ts)
one_without ss ts no_part some = absurd (some refl)
one_without ss ts (out_part {ts = []} e h) some = absurd (some (nothing_left h))
  where
    nothing_left : {m : List Bool} {ss : List Tree} → Part m ss [] → ss ≡ []
    nothing_left no_part = refl
one_without ss ts (out_part {t = t} {ts = u ∷ us} e h) some = first_goes e (one_without ss (u ∷ us) h some)
one_without ss ts (in_part {k = k} {s = s} {t = t} h no_part) some = subst (λ l. Without l s t) (sym (append-nil k)) h
one_without ss ts (in_part {k = k} {m = m} {s = s} {t = t} {ss = []} {ts = u ∷ us} h hs) some = subst (λ l. Without (k ++ l) s (either t (one_of (u ∷ us)))) (sym (none_of hs)) (second_goes (none_empty u us hs) h)
one_without ss ts (in_part {ss = r ∷ rs} {ts = u ∷ us} h hs) some = in_either h (one_without (r ∷ rs) (u ∷ us) hs (λ e. cc e))

module _ (drop gone : Span → Bool) where
  gone_branch : (d : Bool) (s : Span) (q : p.PatTree) (bs : p.BranchTrees) → Gone (flags_in drop gone false q) (lowered (remaining drop no_span q)) (lowered (remaining drop no_span q)) → Each Gone gone_of_parts (branches_flags drop gone false bs) (branches_lowered (remaining_branches drop no_span bs)) (branches_lowered (remaining_branches drop no_span bs))
      → Each Gone gone_of_parts (if d then branches_flags drop gone false bs else flags_in drop gone false q ++ branches_flags drop gone false bs) (branches_lowered (if d then remaining_branches drop no_span bs else p.branch s (remaining drop no_span q) (remaining_branches drop no_span bs))) (branches_lowered (if d then remaining_branches drop no_span bs else p.branch s (remaining drop no_span q) (remaining_branches drop no_span bs)))
  gone_branch true s q bs h hs = hs
  gone_branch false s q bs h hs = one_each h hs

  -- The flags of a part that goes.
  mutual
    gone_flags : (q : p.PatTree) → Gone (flags_in drop gone false q) (lowered (remaining drop no_span q)) (lowered (remaining drop no_span q))
    gone_flags (p.nothing s) = refl
    gone_flags (p.class s set) = refl
    gone_flags (p.seq s qs) = each_turn Gone gone_of_parts (gone_items qs)
    gone_flags (p.choice s bs) = subst (λ t. flags_in drop gone false (p.choice s bs) ≡ replicate (places t) false) (sym (choice_tree s (remaining_branches drop no_span bs))) (each_one Gone gone_of_parts (gone_branches bs))
    gone_flags (p.repeat s r l m g q) = of_times Gone gone_of_parts l m g (flags_in drop gone false q) (lowered (remaining drop no_span q)) (lowered (remaining drop no_span q)) (gone_flags q)
    gone_flags (p.group s c q) = gone_flags q
    gone_flags (p.anchor s k m) = refl
    gone_flags (p.boundary s n a) = refl
    gone_flags (p.look s b i r) = refl
    gone_flags (p.outside s f) = refl

    gone_items : (qs : p.PatTrees) → Each Gone gone_of_parts (items_flags drop gone false qs) (items_lowered (remaining_items drop no_span qs)) (items_lowered (remaining_items drop no_span qs))
    gone_items p.no_items = no_each
    gone_items (p.item q qs) = one_each (gone_flags q) (gone_items qs)

    gone_branches : (bs : p.BranchTrees) → Each Gone gone_of_parts (branches_flags drop gone false bs) (branches_lowered (remaining_branches drop no_span bs)) (branches_lowered (remaining_branches drop no_span bs))
    gone_branches p.no_branches = no_each
    gone_branches (p.branch s q bs) = gone_branch (drop s) s q bs (gone_flags q) (gone_branches bs)

module _ (drop gone : Span → Bool) where
  -- The branches that are dropped already, and those that go too.
  abbrev both : Span → Bool
  both s = gone s || drop s

  -- One more branch, which was dropped, goes now or is kept.
  part_branch : (a d : Bool) (s : Span) (q : p.PatTree) (bs : p.BranchTrees)
      → Part (branches_flags drop gone true bs) (branches_lowered (remaining_branches both no_span bs)) (branches_lowered (remaining_branches drop no_span bs))
      → (d ≡ false → a ≡ true → spans_empty drop q ≡ false)
      → (d ≡ false → a ≡ false → Without (flags_in drop gone true q) (lowered (remaining both no_span q)) (lowered (remaining drop no_span q)))
      → Part (if d then branches_flags drop gone true bs else flags_in drop gone (true && not a) q ++ branches_flags drop gone true bs) (branches_lowered (if (a || d) then remaining_branches both no_span bs else p.branch s (remaining both no_span q) (remaining_branches both no_span bs))) (branches_lowered (if d then remaining_branches drop no_span bs else p.branch s (remaining drop no_span q) (remaining_branches drop no_span bs)))
  part_branch true true s q bs h f g = h
  part_branch false true s q bs h f g = h
  part_branch true false s q bs h f g =
      subst (λ l. Part (l ++ branches_flags drop gone true bs) (branches_lowered (remaining_branches both no_span bs)) (lowered (remaining drop no_span q) ∷ branches_lowered (remaining_branches drop no_span bs))) (sym (gone_flags drop gone q))
      (out_part (left_empty drop q ∙ f refl refl) h)
  part_branch false false s q bs h f g = in_part (g refl refl) h

  mutual
    kept_flags : (q : p.PatTree) → may_go both q ≡ true → loses_empty drop gone q ≡ false → Without (flags_in drop gone true q) (lowered (remaining both no_span q)) (lowered (remaining drop no_span q))
    kept_flags (p.nothing s) h n = whole {t = empty}
    kept_flags (p.class s set) h n = whole {t = one set}
    kept_flags (p.seq s qs) h n = each_turn Without without_of_parts (kept_items qs h n)
    kept_flags (p.choice s bs) h n =
        subst (λ t. Without (branches_flags drop gone true bs) t (lowered (choice_of s (remaining_branches drop no_span bs)))) (sym (choice_tree s (remaining_branches both no_span bs)))
        (subst (λ t. Without (branches_flags drop gone true bs) (one_of (branches_lowered (remaining_branches both no_span bs))) t) (sym (choice_tree s (remaining_branches drop no_span bs)))
        (one_without (branches_lowered (remaining_branches both no_span bs)) (branches_lowered (remaining_branches drop no_span bs))
        (kept_branches bs (and_second (some_kept both bs) (branches_may_go both bs) h) n)
        (kept_some both both no_span (λ s e. e) bs (and_first (some_kept both bs) (branches_may_go both bs) h))))
    kept_flags (p.repeat s r l m g q) h n = of_times Without without_of_parts l m g (flags_in drop gone true q) (lowered (remaining both no_span q)) (lowered (remaining drop no_span q)) (kept_flags q h n)
    kept_flags (p.group s c q) h n = kept_flags q h n
    kept_flags (p.anchor s k m) h n = whole {t = guard (guard_of k m)}
    kept_flags (p.boundary s i a) h n = whole {t = guard (boundary_guard i a)}
    kept_flags (p.look s b i r) h n = whole {t = guard (Look b i r)}
    kept_flags (p.outside s f) h n = whole {t = empty}

    kept_items : (qs : p.PatTrees) → items_may_go both qs ≡ true → items_lose_empty drop gone qs ≡ false → Each Without without_of_parts (items_flags drop gone true qs) (items_lowered (remaining_items both no_span qs)) (items_lowered (remaining_items drop no_span qs))
    kept_items p.no_items h n = no_each
    kept_items (p.item q qs) h n =
        let m = or_none (loses_empty drop gone q) (items_lose_empty drop gone qs) n in
        one_each (kept_flags q (and_first (may_go both q) (items_may_go both qs) h) m.0) (kept_items qs (and_second (may_go both q) (items_may_go both qs) h) m.1)

    kept_branches : (bs : p.BranchTrees) → branches_may_go both bs ≡ true → branches_lose_empty drop gone bs ≡ false → Part (branches_flags drop gone true bs) (branches_lowered (remaining_branches both no_span bs)) (branches_lowered (remaining_branches drop no_span bs))
    kept_branches p.no_branches h n = no_part
    kept_branches (p.branch s q bs) h n =
        let one_goes = if both s then not (holds_capture q) else may_go both q in
        let one_loses = if drop s then false else if gone s then spans_empty drop q else loses_empty drop gone q in
        let m = or_none one_loses (branches_lose_empty drop gone bs) n in
        part_branch (gone s) (drop s) s q bs (kept_branches bs (and_second one_goes (branches_may_go both bs) h) m.1)
        (λ z y. sym (ap (λ d. if d then false else if gone s then spans_empty drop q else loses_empty drop gone q) z ∙ ap (λ a. if a then spans_empty drop q else loses_empty drop gone q) y) ∙ m.0)
        (λ z y. kept_flags q
        (sym (ap (λ a. if (a || drop s) then not (holds_capture q) else may_go both q) y ∙ ap (λ d. if d then not (holds_capture q) else may_go both q) z) ∙ and_first one_goes (branches_may_go both bs) h)
        (sym (ap (λ d. if d then false else if gone s then spans_empty drop q else loses_empty drop gone q) z ∙ ap (λ a. if a then spans_empty drop q else loses_empty drop gone q) y) ∙ m.0))

among_both : (gone dropped : List Span) (s : Span) → (among gone s || among dropped s) ≡ among (gone ++ dropped) s
among_both [] dropped s = refl
among_both (r ∷ rs) dropped s = or_assoc (same_span r s) (among rs s) (among dropped s) ∙ ap (λ x. same_span r s || x) (among_both rs dropped s)

-- The same for lists of branches.
pub kept_lists : (dropped gone : List Span) (q : p.PatTree) → may_go (among (gone ++ dropped)) q ≡ true → loses_empty (among dropped) (among gone) q ≡ false
    → Without (flags_in (among dropped) (among gone) true q) (lowered (remaining (among (gone ++ dropped)) no_span q)) (lowered (remaining (among dropped) no_span q))
kept_lists dropped gone q h n =
    let e : (λ (s : Span). among gone s || among dropped s) ≡ among (gone ++ dropped) = fun_ext (among_both gone dropped) in
    subst (λ b. Without (flags_in (among dropped) (among gone) true q) (lowered (remaining b no_span q)) (lowered (remaining (among dropped) no_span q))) e
    (kept_flags (among dropped) (among gone) q (ap (λ b. may_go b q) e ∙ h) n)
