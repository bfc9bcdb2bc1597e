-- What is left when quantifiers are removed as the rule allows spans what the whole spanned.
use Rattle.std.proofs.Common.{◌≡◌, ℕ, Bool, true, false, if◌then◌else◌, Option, refl, sym, ap, subst}
use Rattle.rl_syntax.specs.declared.span.Span.{Span}
use Rattle.rl_syntax.specs.Tree.{Tree, empty, one}
use Rattle.rl_syntax.specs.Lowering.{one_of, times, lowered, items_lowered, branches_lowered}
use Rattle.rl_syntax.specs.PatTree as s
use Rattle.rl_syntax.specs.SameSpans.{SameSpans}
use Rattle.rl_syntax.specs.AllowedPair.{AllowedPair}
use Rattle.rl_syntax.proofs.Stars.{stars, same_refl, AllSame, none_same, more_same, same_in_turn, same_one_of, same_times}
use Rattle.rl_pattern.specs.Cut.{choice_of, remaining, remaining_items, remaining_branches}
use Rattle.rl_pattern.proofs.Merged.{MayMerge, AllMayMerge, BranchesMayMerge, MergesUnder, MergesIn}

module _ (out : Span → Bool) where
  none_dropped : Span → Bool
  none_dropped r = false

  abbrev kept_of : s.PatTree → s.PatTree
  kept_of p = remaining (λ r. false) out p

  abbrev items_kept : s.PatTrees → s.PatTrees
  items_kept ps = remaining_items (λ r. false) out ps

  abbrev branches_kept : s.BranchTrees → s.BranchTrees
  branches_kept bs = remaining_branches (λ r. false) out bs

  choice_tree : (r : Span) (bs : s.BranchTrees) → lowered (choice_of r bs) ≡ one_of (branches_lowered bs)
  choice_tree r s.no_branches = refl
  choice_tree r (s.branch a p s.no_branches) = refl
  choice_tree r (s.branch a p (s.branch b q bs)) = refl

  -- The quantifier stays, because it isn't removed.
  stays_out : (b : Bool) (r q : Span) (least : ℕ) (most : Option ℕ) (g : Bool) (p : s.PatTree) → b ≡ false → lowered (if b then p else s.repeat r q least most g p) ≡ times least most g (lowered p)
  stays_out b r q least most g p e = ap (λ x. lowered (if x then p else s.repeat r q least most g p)) e

  goes_out : (b : Bool) (r q : Span) (least : ℕ) (most : Option ℕ) (g : Bool) (p : s.PatTree) → b ≡ true → lowered (if b then p else s.repeat r q least most g p) ≡ lowered p
  goes_out b r q least most g p e = ap (λ x. lowered (if x then p else s.repeat r q least most g p)) e

  -- A repeat whose inner quantifier is removed or stays.
  in_place : (r q : Span) (l : ℕ) (m : Option ℕ) (g : Bool) (x : s.PatTree) (least : ℕ) (most : Option ℕ) (outer : Bool) → (out q ≡ true → AllowedPair l m least most) → ((gr : Bool) → SameSpans (times l m gr (lowered (kept_of x))) (times l m gr (lowered x))) → SameSpans (times least most outer (lowered (if out q then kept_of x else s.repeat r q l m g (kept_of x)))) (times least most outer (times l m g (lowered x)))
  in_place r q l m g x least most outer allowed h = go (out q) refl
    where
      T : Tree
      T = times least most outer (times l m g (lowered x))

      go : (b : Bool) → out q ≡ b → SameSpans (times least most outer (lowered (if out q then kept_of x else s.repeat r q l m g (kept_of x)))) (times least most outer (times l m g (lowered x)))
      go true e =
          let k = lowered (kept_of x) in
          let star : SameSpans (times least most outer (times l m g k)) (times least most outer k) = stars l m least most g outer k (allowed e) in
          subst (λ t. SameSpans (times least most outer t) (times least most outer (times l m g (lowered x)))) (sym (goes_out (out q) r q l m g (kept_of x) e)) (λ w i j. (λ y. (same_times least most outer (times l m g k) (times l m g (lowered x)) (h g) w i j).0 ((star w i j).1 y), λ y. (star w i j).0 ((same_times least most outer (times l m g k) (times l m g (lowered x)) (h g) w i j).1 y)))
      go false e = subst (λ t. SameSpans (times least most outer t) (times least most outer (times l m g (lowered x)))) (sym (stays_out (out q) r q l m g (kept_of x) e)) (same_times least most outer (times l m g (lowered (kept_of x))) (times l m g (lowered x)) (h g))

  repeat_same : (r q : Span) (least : ℕ) (most : Option ℕ) (g : Bool) (p : s.PatTree) → out q ≡ false → SameSpans (times least most g (lowered (kept_of p))) (times least most g (lowered p)) → SameSpans (lowered (if out q then kept_of p else s.repeat r q least most g (kept_of p))) (times least most g (lowered p))
  repeat_same r q least most g p e h = subst (λ t. SameSpans t (times least most g (lowered p))) (sym (stays_out (out q) r q least most g (kept_of p) e)) h

  mutual
    -- What is left when quantifiers are removed spans what the whole spanned.
    pub merged_same : (p : s.PatTree) → MayMerge out p → SameSpans (lowered (kept_of p)) (lowered p)
    merged_same (s.nothing r) h = same_refl empty
    merged_same (s.class r set) h = same_refl (one set)
    merged_same (s.seq r ps) h = same_in_turn (items_same ps h)
    merged_same (s.choice r bs) h = subst (λ t. SameSpans t (one_of (branches_lowered bs))) (sym (choice_tree r (branches_kept bs))) (same_one_of (branches_same bs h))
    merged_same (s.repeat r q least most g p) (e, h) = repeat_same r q least most g p e (under_same p least most h g)
    merged_same (s.group r captures p) h = merged_same p h
    merged_same (s.anchor r kind multiline) h = same_refl (lowered (s.anchor r kind multiline))
    merged_same (s.boundary r negated ascii) h = same_refl (lowered (s.boundary r negated ascii))
    merged_same (s.look r behind negated ranges) h = same_refl (lowered (s.look r behind negated ranges))
    merged_same (s.outside r what) h = same_refl empty

    items_same : (ps : s.PatTrees) → AllMayMerge out ps → AllSame (items_lowered (items_kept ps)) (items_lowered ps)
    items_same s.no_items h = none_same
    items_same (s.item p ps) (h, hs) = more_same (merged_same p h) (items_same ps hs)

    branches_same : (bs : s.BranchTrees) → BranchesMayMerge out bs → AllSame (branches_lowered (branches_kept bs)) (branches_lowered bs)
    branches_same s.no_branches h = none_same
    branches_same (s.branch r p bs) (h, hs) = more_same (merged_same p h) (branches_same bs hs)

    under_same : (p : s.PatTree) (least : ℕ) (most : Option ℕ) → MergesUnder out p least most → (g : Bool) → SameSpans (times least most g (lowered (kept_of p))) (times least most g (lowered p))
    under_same (s.nothing r) least most h g = same_times least most g empty empty (same_refl empty)
    under_same (s.class r set) least most h g = same_times least most g (one set) (one set) (same_refl (one set))
    under_same (s.seq r ps) least most h g = same_times least most g (lowered (kept_of (s.seq r ps))) (lowered (s.seq r ps)) (same_in_turn (items_same ps h))
    under_same (s.choice r bs) least most h g = same_times least most g (lowered (kept_of (s.choice r bs))) (lowered (s.choice r bs)) (subst (λ t. SameSpans t (one_of (branches_lowered bs))) (sym (choice_tree r (branches_kept bs))) (same_one_of (branches_same bs h)))
    under_same (s.repeat r q l m gr p) least most (e, h) g = same_times least most g (lowered (kept_of (s.repeat r q l m gr p))) (lowered (s.repeat r q l m gr p)) (repeat_same r q l m gr p e (under_same p l m h gr))
    under_same (s.group r captures p) least most h g = in_same p least most h g
    under_same (s.anchor r kind multiline) least most h g = same_times least most g (lowered (kept_of (s.anchor r kind multiline))) (lowered (s.anchor r kind multiline)) (same_refl (lowered (s.anchor r kind multiline)))
    under_same (s.boundary r negated ascii) least most h g = same_times least most g (lowered (kept_of (s.boundary r negated ascii))) (lowered (s.boundary r negated ascii)) (same_refl (lowered (s.boundary r negated ascii)))
    under_same (s.look r behind negated ranges) least most h g = same_times least most g (lowered (kept_of (s.look r behind negated ranges))) (lowered (s.look r behind negated ranges)) (same_refl (lowered (s.look r behind negated ranges)))
    under_same (s.outside r what) least most h g = same_times least most g empty empty (same_refl empty)

    in_same : (p : s.PatTree) (least : ℕ) (most : Option ℕ) → MergesIn out p least most → (g : Bool) → SameSpans (times least most g (lowered (kept_of p))) (times least most g (lowered p))
    in_same (s.nothing r) least most h g = same_times least most g empty empty (same_refl empty)
    in_same (s.class r set) least most h g = same_times least most g (one set) (one set) (same_refl (one set))
    in_same (s.seq r ps) least most h g = same_times least most g (lowered (kept_of (s.seq r ps))) (lowered (s.seq r ps)) (same_in_turn (items_same ps h))
    in_same (s.choice r bs) least most h g = same_times least most g (lowered (kept_of (s.choice r bs))) (lowered (s.choice r bs)) (subst (λ t. SameSpans t (one_of (branches_lowered bs))) (sym (choice_tree r (branches_kept bs))) (same_one_of (branches_same bs h)))
    in_same (s.repeat r q l m gr x) least most (allowed, h) g = in_place r q l m gr x least most g allowed (λ z. under_same x l m h z)
    in_same (s.group r captures p) least most h g = same_times least most g (lowered (kept_of (s.group r captures p))) (lowered (s.group r captures p)) (merged_same p h)
    in_same (s.anchor r kind multiline) least most h g = same_times least most g (lowered (kept_of (s.anchor r kind multiline))) (lowered (s.anchor r kind multiline)) (same_refl (lowered (s.anchor r kind multiline)))
    in_same (s.boundary r negated ascii) least most h g = same_times least most g (lowered (kept_of (s.boundary r negated ascii))) (lowered (s.boundary r negated ascii)) (same_refl (lowered (s.boundary r negated ascii)))
    in_same (s.look r behind negated ranges) least most h g = same_times least most g (lowered (kept_of (s.look r behind negated ranges))) (lowered (s.look r behind negated ranges)) (same_refl (lowered (s.look r behind negated ranges)))
    in_same (s.outside r what) least most h g = same_times least most g empty empty (same_refl empty)
