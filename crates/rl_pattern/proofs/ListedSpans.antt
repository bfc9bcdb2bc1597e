-- The branches of a pattern, and the quantifiers that are removed from it, lie within its codes in ascending order.
use Rattle.std.proofs.Common.{ℕ, ◌<◌, ◌≤◌, Bool, true, false, not, ◌&&◌, if◌then◌else◌, List, [], ◌∷◌, length, Option, Ok, sym, subst, arith}
use Rattle.rl_ranges.specs.declared.universe.Universe.{Universe}
use Rattle.rl_syntax.specs.declared.span.Span.{Span}
use Rattle.rl_syntax.specs.declared.pattern.Pattern.{Pattern}
use Rattle.rl_syntax.specs.Pattern.{body_of}
use Rattle.rl_syntax.specs.PatTree.{PatTree, PatTrees, BranchTrees, nothing, class, seq, choice, repeat, group, anchor, boundary, look, outside, no_items, item, no_branches, branch}
use Rattle.rl_pattern.specs.declared.flags.Flags.{Flags}
use Rattle.rl_pattern.specs.Parsed.{is_text, IsParsed}
use Rattle.rl_pattern.specs.Cut.{remaining}
use Rattle.rl_pattern.specs.Suggested.{among, no_span, holds_capture, is_allowed, branches_in, items_branches, choice_branches, merged_in, items_merged, branches_merged, under, merged_at, inside}
use Rattle.rl_pattern.specs.Placed.{ArePlaced}
use Rattle.rl_pattern.proofs.Marks.{Placed, PlacedItems, PlacedBranches, placed_le, items_le, branches_le, left_placed, own_last}
use Rattle.rl_pattern.proofs.Final.{inner_placed}
use Rattle.rl_pattern.proofs.Rising.{Rising, rising_more, rising_join, rising_placed}

mutual
  branches_rise : (p : PatTree) (i j : ℕ) → Placed p i j → Rising i j (branches_in p)
  branches_rise (nothing s) i j h = tt
  branches_rise (class s set) i j h = tt
  branches_rise (seq s ps) i j h = items_rise ps i j h
  branches_rise (choice s bs) i j h = choice_rise bs i j h
  branches_rise (repeat s q l m g p) i j (k, h, a, b, c) = rising_more (branches_in p) i k i j (omega arith) (omega (arith, a, b, c)) (branches_rise p i k h)
  branches_rise (group s c p) i j h = branches_rise p i j h
  branches_rise (anchor s k m) i j h = tt
  branches_rise (boundary s n a) i j h = tt
  branches_rise (look s behind negated ranges) i j h = tt
  branches_rise (outside s f) i j h = tt

  items_rise : (ps : PatTrees) (i j : ℕ) → PlacedItems ps i j → Rising i j (items_branches ps)
  items_rise no_items i j h = tt
  items_rise (item p ps) i j (k, h, hs) = rising_join (branches_in p) (items_branches ps) i k j (placed_le p i k h) (items_le ps k j hs) (branches_rise p i k h) (items_rise ps k j hs)

  choice_rise : (bs : BranchTrees) (i j : ℕ) → PlacedBranches bs i j → Rising i j (choice_branches bs)
  choice_rise no_branches i j h = tt
  choice_rise (branch s p bs) i j (c, h, hs) =
      let own = placed_le p s.from s.upto h in
      let more = branches_le bs s.upto j hs in
      (c, own, more, rising_join (branches_in p) (choice_branches bs) s.from s.upto j own more (branches_rise p s.from s.upto h) (choice_rise bs s.upto j hs))

if_rises : (b : Bool) (q : Span) (k j : ℕ) → k ≤ q.from → q.from < q.upto → q.upto ≤ j → Rising k j (if b then q ∷ [] else [])
if_rises true q k j a b c = (a, omega (arith, b), c, tt)
if_rises false q k j a b c = tt

mutual
  merged_rise : (p : PatTree) (i j : ℕ) → Placed p i j → Rising i j (merged_in p)
  merged_rise (nothing s) i j h = tt
  merged_rise (class s set) i j h = tt
  merged_rise (seq s ps) i j h = merged_items_rise ps i j h
  merged_rise (choice s bs) i j h = merged_branches_rise bs i j h
  merged_rise (repeat s q l m g p) i j (k, h, a, b, c) = rising_more (merged_at (under l m) p) i k i j (omega arith) (omega (arith, a, b, c)) (under_rise p i k l m h)
  merged_rise (group s c p) i j h = merged_rise p i j h
  merged_rise (anchor s k m) i j h = tt
  merged_rise (boundary s n a) i j h = tt
  merged_rise (look s behind negated ranges) i j h = tt
  merged_rise (outside s f) i j h = tt

  merged_items_rise : (ps : PatTrees) (i j : ℕ) → PlacedItems ps i j → Rising i j (items_merged ps)
  merged_items_rise no_items i j h = tt
  merged_items_rise (item p ps) i j (k, h, hs) = rising_join (merged_in p) (items_merged ps) i k j (placed_le p i k h) (items_le ps k j hs) (merged_rise p i k h) (merged_items_rise ps k j hs)

  merged_branches_rise : (bs : BranchTrees) (i j : ℕ) → PlacedBranches bs i j → Rising i j (branches_merged bs)
  merged_branches_rise no_branches i j h = tt
  merged_branches_rise (branch s p bs) i j (c, h, hs) =
      let own = placed_le p s.from s.upto h in
      rising_join (merged_in p) (branches_merged bs) i s.upto j (omega (arith, c, own)) (branches_le bs s.upto j hs) (rising_more (merged_in p) s.from s.upto i s.upto c (omega arith) (merged_rise p s.from s.upto h)) (merged_branches_rise bs s.upto j hs)

  under_rise : (p : PatTree) (i j : ℕ) (least : ℕ) (most : Option ℕ) → Placed p i j → Rising i j (merged_at (under least most) p)
  under_rise (nothing s) i j x y h = tt
  under_rise (class s set) i j x y h = tt
  under_rise (seq s ps) i j x y h = merged_items_rise ps i j h
  under_rise (choice s bs) i j x y h = merged_branches_rise bs i j h
  under_rise (repeat s q l m g p) i j x y (k, h, a, b, c) = rising_more (merged_at (under l m) p) i k i j (omega arith) (omega (arith, a, b, c)) (under_rise p i k l m h)
  under_rise (group s c p) i j x y h = inside_rise p i j c x y h
  under_rise (anchor s k m) i j x y h = tt
  under_rise (boundary s n a) i j x y h = tt
  under_rise (look s behind negated ranges) i j x y h = tt
  under_rise (outside s f) i j x y h = tt

  inside_rise : (p : PatTree) (i j : ℕ) (captures : Bool) (least : ℕ) (most : Option ℕ) → Placed p i j → Rising i j (merged_at (inside captures least most) p)
  inside_rise (nothing s) i j v x y h = tt
  inside_rise (class s set) i j v x y h = tt
  inside_rise (seq s ps) i j v x y h = merged_items_rise ps i j h
  inside_rise (choice s bs) i j v x y h = merged_branches_rise bs i j h
  inside_rise (repeat s q l m g p) i j v x y (k, h, a, b, c) =
      let test = not v && (not (holds_capture p) && is_allowed l m x y) in
      subst (Rising i j) (sym (own_last test (merged_at (under l m) p) q)) (rising_join (merged_at (under l m) p) (if test then q ∷ [] else []) i k j (placed_le p i k h) (omega (arith, a, b, c)) (under_rise p i k l m h) (if_rises test q k j a b c))
  inside_rise (group s c p) i j v x y h = merged_rise p i j h
  inside_rise (anchor s k m) i j v x y h = tt
  inside_rise (boundary s n a) i j v x y h = tt
  inside_rise (look s behind negated ranges) i j v x y h = tt
  inside_rise (outside s f) i j v x y h = tt

module _ (flags : Flags) (u : Universe) (w : List ℕ) (found : Pattern) where
  in_codes : IsParsed flags u w (Ok found) → (i : ℕ) × Placed (body_of found) i (length w)
  in_codes (whole, sp) = let h = inner_placed u flags (is_text u) w whole sp.read.spelled in (h.0, subst (λ t. Placed t h.0 (length w)) (sym sp.pattern.body) h.1)

  pub branches_are_placed : IsParsed flags u w (Ok found) → ArePlaced (length w) (branches_in (body_of found))
  branches_are_placed h =
      let at_i = in_codes h in
      rising_placed (branches_in (body_of found)) at_i.0 (length w) (branches_rise (body_of found) at_i.0 (length w) at_i.1)

  pub merged_are_placed : (dropped : List Span) → IsParsed flags u w (Ok found) → ArePlaced (length w) (merged_in (remaining (among dropped) no_span (body_of found)))
  merged_are_placed dropped h =
      let at_i = in_codes h in
      let kept = remaining (among dropped) no_span (body_of found) in
      rising_placed (merged_in kept) at_i.0 (length w) (merged_rise kept at_i.0 (length w) (left_placed (among dropped) (body_of found) at_i.0 (length w) at_i.1))
