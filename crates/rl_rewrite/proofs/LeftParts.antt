-- What is left of a pattern is well formed in a pattern, and contains no guard if the pattern contains none.
use Rattle.std.proofs.Common.{◌≡◌, Bool, true, false, not, ◌&&◌, ◌||◌, if◌then◌else◌, List, [], ◌∷◌, refl, ap, true≢false}
use Rattle.std.proofs.lemmas.Bool.{cond_both}
use Rattle.rl_ranges.specs.declared.universe.Universe.{Universe}
use Rattle.rl_syntax.specs.declared.span.Span.{Span}
use Rattle.rl_syntax.specs.IsPattern.{IsPart, AreParts, AreBranches, IsPattern, is_leading_item, is_trailing_item, begins_anchored, ends_anchored, is_bare}
use Rattle.rl_syntax.specs.PatTree.{PatTree, PatTrees, BranchTrees, nothing, class, seq, choice, repeat, group, anchor, boundary, look, outside, no_items, item, no_branches, branch, items_of, branches_of}
use Rattle.rl_pattern.specs.Cut.{choice_of, remaining, remaining_items, remaining_branches}
use Rattle.rl_pattern.specs.Suggested.{no_span, holds_guard, some_guard, branch_guard}
use Rattle.rl_pattern.proofs.Linking.{or_none}
use Rattle.rl_rewrite.specs.internal.LeftLists.{all_remaining, some_remaining}

-- The lists of what is left are the lists of the remaining pattern.
pub items_left : (drop : Span → Bool) (ps : List PatTree) → items_of (all_remaining drop ps) ≡ remaining_items drop no_span (items_of ps)
items_left drop [] = refl
items_left drop (p ∷ ps) = ap (item (remaining drop no_span p)) (items_left drop ps)

pub branches_left : (drop : Span → Bool) (bs : List (Span × PatTree)) → branches_of (some_remaining drop bs) ≡ remaining_branches drop no_span (branches_of bs)
branches_left drop [] = refl
branches_left drop (b ∷ bs) = go (drop b.0) (branches_left drop bs)
  where
    go : (d : Bool) → branches_of (some_remaining drop bs) ≡ remaining_branches drop no_span (branches_of bs) → branches_of (if d then some_remaining drop bs else (b.0, remaining drop no_span b.1) ∷ some_remaining drop bs) ≡ (if d then remaining_branches drop no_span (branches_of bs) else branch b.0 (remaining drop no_span b.1) (remaining_branches drop no_span (branches_of bs)))
    go true e = e
    go false e = ap (branch b.0 (remaining drop no_span b.1)) e

module _ (u : Universe) (drop : Span → Bool) where
  choice_part : (s : Span) (bs : BranchTrees) → AreBranches u bs → IsPart u (choice_of s bs)
  choice_part s no_branches h = tt
  choice_part s (branch r p no_branches) h = h.0
  choice_part s (branch r p (branch t q bs)) h = h

  mutual
    left_part : (p : PatTree) → IsPart u p → IsPart u (remaining drop no_span p)
    left_part (nothing s) h = tt
    left_part (class s set) h = h
    left_part (seq s ps) h = left_parts ps h
    left_part (choice s bs) h = choice_part s (remaining_branches drop no_span bs) (left_all bs h)
    left_part (repeat s q l m g p) h = (h.0, left_part p h.1)
    left_part (group s c p) h = left_part p h
    left_part (anchor s k m) h = h
    left_part (boundary s n a) h = h
    left_part (look s b i r) h = h
    left_part (outside s f) h = h

    left_parts : (ps : PatTrees) → AreParts u ps → AreParts u (remaining_items drop no_span ps)
    left_parts no_items h = tt
    left_parts (item p ps) h = (left_part p h.0, left_parts ps h.1)

    left_all : (bs : BranchTrees) → AreBranches u bs → AreBranches u (remaining_branches drop no_span bs)
    left_all no_branches h = tt
    left_all (branch s p bs) h =
        let one = left_part p h.0 in
        let more = left_all bs h.1 in
        cond_both (drop s) (remaining_branches drop no_span bs) (branch s (remaining drop no_span p) (remaining_branches drop no_span bs)) (AreBranches u) (λ z. more) (λ z. (one, more))

both_none : (a b : Bool) → a ≡ false → b ≡ false → (a || b) ≡ false
both_none false false p q = refl
both_none true b p q = absurd (true≢false p)
both_none false true p q = absurd (true≢false q)

module _ (drop : Span → Bool) where
  choice_guardless : (s : Span) (bs : BranchTrees) → branch_guard bs ≡ false → holds_guard (choice_of s bs) ≡ false
  choice_guardless s no_branches h = refl
  choice_guardless s (branch r p no_branches) h = (or_none (holds_guard p) false h).0
  choice_guardless s (branch r p (branch t q bs)) h = h

  mutual
    left_guardless : (p : PatTree) → holds_guard p ≡ false → holds_guard (remaining drop no_span p) ≡ false
    left_guardless (nothing s) h = refl
    left_guardless (class s set) h = refl
    left_guardless (seq s ps) h = items_guardless ps h
    left_guardless (choice s bs) h = choice_guardless s (remaining_branches drop no_span bs) (branches_guardless bs h)
    left_guardless (repeat s q l m g p) h = left_guardless p h
    left_guardless (group s c p) h = left_guardless p h
    left_guardless (anchor s k m) h = h
    left_guardless (boundary s n a) h = h
    left_guardless (look s b i r) h = h
    left_guardless (outside s f) h = h

    items_guardless : (ps : PatTrees) → some_guard ps ≡ false → some_guard (remaining_items drop no_span ps) ≡ false
    items_guardless no_items h = refl
    items_guardless (item p ps) h = let c = or_none (holds_guard p) (some_guard ps) h in both_none (holds_guard (remaining drop no_span p)) (some_guard (remaining_items drop no_span ps)) (left_guardless p c.0) (items_guardless ps c.1)

    branches_guardless : (bs : BranchTrees) → branch_guard bs ≡ false → branch_guard (remaining_branches drop no_span bs) ≡ false
    branches_guardless no_branches h = refl
    branches_guardless (branch s p bs) h =
        let c = or_none (holds_guard p) (branch_guard bs) h in
        let one = left_guardless p c.0 in
        let more = branches_guardless bs c.1 in
        cond_both (drop s) (remaining_branches drop no_span bs) (branch s (remaining drop no_span p) (remaining_branches drop no_span bs)) (λ b. branch_guard b ≡ false) (λ z. more) (λ z. both_none (holds_guard (remaining drop no_span p)) (branch_guard (remaining_branches drop no_span bs)) one more)

no_leading : (p : PatTree) → holds_guard p ≡ false → is_leading_item p ≡ false
no_leading (nothing s) h = refl
no_leading (class s set) h = refl
no_leading (seq s ps) h = refl
no_leading (choice s bs) h = refl
no_leading (repeat s q l m g p) h = refl
no_leading (group s c p) h = refl
no_leading (anchor s k m) h = absurd (true≢false h)
no_leading (boundary s n a) h = refl
no_leading (look s b i r) h = refl
no_leading (outside s f) h = refl

no_trailing : (p : PatTree) → holds_guard p ≡ false → is_trailing_item p ≡ false
no_trailing (nothing s) h = refl
no_trailing (class s set) h = refl
no_trailing (seq s ps) h = refl
no_trailing (choice s bs) h = refl
no_trailing (repeat s q l m g p) h = refl
no_trailing (group s c p) h = refl
no_trailing (anchor s k m) h = absurd (true≢false h)
no_trailing (boundary s n a) h = refl
no_trailing (look s b i r) h = refl
no_trailing (outside s f) h = refl

no_begin : (ps : PatTrees) → some_guard ps ≡ false → begins_anchored ps ≡ false
no_begin no_items h = refl
no_begin (item p ps) h = no_leading p (or_none (holds_guard p) (some_guard ps) h).0

no_end : (ps : PatTrees) → some_guard ps ≡ false → ends_anchored ps ≡ false
no_end no_items h = refl
no_end (item p no_items) h = no_trailing p (or_none (holds_guard p) false h).0
no_end (item p (item q ps)) h = no_end (item q ps) (or_none (holds_guard p) (some_guard (item q ps)) h).1

both_not : (a b : Bool) → a ≡ false → b ≡ false → (not a && not b) ≡ true
both_not false false p q = refl
both_not true b p q = absurd (true≢false p)
both_not false true p q = absurd (true≢false q)

guardless_bare : (p : PatTree) → holds_guard p ≡ false → is_bare p ≡ true
guardless_bare (nothing s) h = refl
guardless_bare (class s set) h = refl
guardless_bare (seq s ps) h = both_not (begins_anchored ps) (ends_anchored ps) (no_begin ps h) (no_end ps h)
guardless_bare (choice s bs) h = refl
guardless_bare (repeat s q l m g p) h = refl
guardless_bare (group s c p) h = refl
guardless_bare (anchor s k m) h = absurd (true≢false h)
guardless_bare (boundary s n a) h = refl
guardless_bare (look s b i r) h = refl
guardless_bare (outside s f) h = refl

pub left_judged : (u : Universe) (drop : Span → Bool) (p : PatTree) → holds_guard p ≡ false → IsPattern u p → IsPattern u (remaining drop no_span p)
left_judged u drop p none h = record { parts = left_part u drop p h.parts; bare = guardless_bare (remaining drop no_span p) (left_guardless drop p none) }
