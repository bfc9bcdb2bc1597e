-- The quantifiers that are removed are told apart by their spans.
use Rattle.std.proofs.Common.{◌≡◌, ℕ, ◌<◌, ◌≤◌, Bool, true, false, not, ◌||◌, ◌&&◌, ◌==◌, if◌then◌else◌, List, [], ◌∷◌, ◌++◌, Option, Some, None, refl, sym, ap, ◌∙◌, subst, arith, true≢false}
use Rattle.std.proofs.lemmas.Bool.{eqb-true, cond_both}
use Rattle.std.proofs.lemmas.List.{append-nil}
use mathlib.Core.Logic.{⊎_elim}
use Rattle.rl_syntax.specs.declared.span.Span.{Span}
use Rattle.rl_syntax.specs.PatTree.{PatTree, PatTrees, BranchTrees, nothing, class, seq, choice, repeat, group, anchor, boundary, look, outside, no_items, item, no_branches, branch}
use Rattle.rl_pattern.specs.Cut.{choice_of, remaining, remaining_items, remaining_branches}
use Rattle.rl_syntax.specs.AllowedPair.{AllowedPair, any_in_any, some_in_any, option_in_any, some_in_some}
use Rattle.rl_pattern.proofs.Merged.{MayMerge, AllMayMerge, BranchesMayMerge, MergesUnder, MergesIn}
use Rattle.rl_pattern.specs.Suggested.{same_span, among, no_span, holds_capture, is_allowed, merged_in, items_merged, branches_merged, under, merged_at, inside}
use Rattle.rl_pattern.proofs.Linking.{and_first, and_second, no_true}
use Rattle.rl_pattern.proofs.Holes.{or_cases, or_false, or_assoc}

abbrev mutual
  -- The parts follow each other between two positions. Each quantifier comes after what it repeats, and each branch is
  -- where its span says.
  pub Placed : PatTree → ℕ → ℕ → Type 0
  Placed (nothing s) i j = i ≤ j
  Placed (class s set) i j = i ≤ j
  Placed (seq s ps) i j = PlacedItems ps i j
  Placed (choice s bs) i j = PlacedBranches bs i j
  Placed (repeat s q l m g p) i j = (k : ℕ) × Placed p i k × (k ≤ q.from) × (q.from < q.upto) × (q.upto ≤ j)
  Placed (group s c p) i j = Placed p i j
  Placed (anchor s k m) i j = i ≤ j
  Placed (boundary s n a) i j = i ≤ j
  Placed (look s behind negated ranges) i j = i ≤ j
  Placed (outside s f) i j = i ≤ j

  pub PlacedItems : PatTrees → ℕ → ℕ → Type 0
  PlacedItems no_items i j = i ≤ j
  PlacedItems (item p ps) i j = (k : ℕ) × Placed p i k × PlacedItems ps k j

  pub PlacedBranches : BranchTrees → ℕ → ℕ → Type 0
  PlacedBranches no_branches i j = i ≤ j
  PlacedBranches (branch s p bs) i j = (i ≤ s.from) × Placed p s.from s.upto × PlacedBranches bs s.upto j

mutual
  pub placed_le : (p : PatTree) (i j : ℕ) → Placed p i j → i ≤ j
  placed_le (nothing s) i j h = h
  placed_le (class s set) i j h = h
  placed_le (seq s ps) i j h = items_le ps i j h
  placed_le (choice s bs) i j h = branches_le bs i j h
  placed_le (repeat s q l m g p) i j (k, h, a, b, c) = omega (arith, placed_le p i k h, a, b, c)
  placed_le (group s c p) i j h = placed_le p i j h
  placed_le (anchor s k m) i j h = h
  placed_le (boundary s n a) i j h = h
  placed_le (look s behind negated ranges) i j h = h
  placed_le (outside s f) i j h = h

  pub items_le : (ps : PatTrees) (i j : ℕ) → PlacedItems ps i j → i ≤ j
  items_le no_items i j h = h
  items_le (item p ps) i j (k, h, hs) = omega (arith, placed_le p i k h, items_le ps k j hs)

  pub branches_le : (bs : BranchTrees) (i j : ℕ) → PlacedBranches bs i j → i ≤ j
  branches_le no_branches i j h = h
  branches_le (branch s p bs) i j (c, h, hs) = omega (arith, c, placed_le p s.from s.upto h, branches_le bs s.upto j hs)

mutual
  pub placed_more : (p : PatTree) (i j a b : ℕ) → a ≤ i → j ≤ b → Placed p i j → Placed p a b
  placed_more (nothing s) i j a b x y h = omega (arith, x, y, h)
  placed_more (class s set) i j a b x y h = omega (arith, x, y, h)
  placed_more (seq s ps) i j a b x y h = items_more ps i j a b x y h
  placed_more (choice s bs) i j a b x y h = branches_more bs i j a b x y h
  placed_more (repeat s q l m g p) i j a b x y (k, h, c, d, e) = (k, placed_more p i k a k x (omega arith) h, c, d, omega (arith, e, y))
  placed_more (group s c p) i j a b x y h = placed_more p i j a b x y h
  placed_more (anchor s k m) i j a b x y h = omega (arith, x, y, h)
  placed_more (boundary s n c) i j a b x y h = omega (arith, x, y, h)
  placed_more (look s behind negated ranges) i j a b x y h = omega (arith, x, y, h)
  placed_more (outside s f) i j a b x y h = omega (arith, x, y, h)

  items_more : (ps : PatTrees) (i j a b : ℕ) → a ≤ i → j ≤ b → PlacedItems ps i j → PlacedItems ps a b
  items_more no_items i j a b x y h = omega (arith, x, y, h)
  items_more (item p ps) i j a b x y (k, h, hs) = (k, placed_more p i k a k x (omega arith) h, items_more ps k j k b (omega arith) y hs)

  branches_more : (bs : BranchTrees) (i j a b : ℕ) → a ≤ i → j ≤ b → PlacedBranches bs i j → PlacedBranches bs a b
  branches_more no_branches i j a b x y h = omega (arith, x, y, h)
  branches_more (branch s p bs) i j a b x y (c, h, hs) = (omega (arith, x, c), h, branches_more bs s.upto j s.upto b (omega arith) y hs)

choice_placed : (s : Span) (bs : BranchTrees) (i j : ℕ) → PlacedBranches bs i j → Placed (choice_of s bs) i j
choice_placed s no_branches i j h = h
choice_placed s (branch r p no_branches) i j (c, h, l) = placed_more p r.from r.upto i j c l h
choice_placed s (branch r p (branch t q bs)) i j h = h

-- So do the parts that are left.
module _ (drop : Span → Bool) where
  mutual
    pub left_placed : (p : PatTree) (i j : ℕ) → Placed p i j → Placed (remaining drop no_span p) i j
    left_placed (nothing s) i j h = h
    left_placed (class s set) i j h = h
    left_placed (seq s ps) i j h = left_items_placed ps i j h
    left_placed (choice s bs) i j h = choice_placed s (remaining_branches drop no_span bs) i j (left_branches_placed bs i j h)
    left_placed (repeat s q l m g p) i j (k, h, a, b, c) = (k, left_placed p i k h, a, b, c)
    left_placed (group s c p) i j h = left_placed p i j h
    left_placed (anchor s k m) i j h = h
    left_placed (boundary s n a) i j h = h
    left_placed (look s behind negated ranges) i j h = h
    left_placed (outside s f) i j h = h

    left_items_placed : (ps : PatTrees) (i j : ℕ) → PlacedItems ps i j → PlacedItems (remaining_items drop no_span ps) i j
    left_items_placed no_items i j h = h
    left_items_placed (item p ps) i j (k, h, hs) = (k, left_placed p i k h, left_items_placed ps k j hs)

    left_branches_placed : (bs : BranchTrees) (i j : ℕ) → PlacedBranches bs i j → PlacedBranches (remaining_branches drop no_span bs) i j
    left_branches_placed no_branches i j h = h
    left_branches_placed (branch s p bs) i j (c, h, hs) =
        cond_both (drop s) (remaining_branches drop no_span bs) (branch s (remaining drop no_span p) (remaining_branches drop no_span bs)) (λ z. PlacedBranches z i j) (λ z. branches_more (remaining_branches drop no_span bs) s.upto j i j (omega (arith, c, placed_le p s.from s.upto h)) (omega arith) (left_branches_placed bs s.upto j hs)) (λ z. (c, left_placed p s.from s.upto h, left_branches_placed bs s.upto j hs))

-- Spans between two positions.
abbrev Within : ℕ → ℕ → List Span → Type 0
Within i j [] = Unit {0}
Within i j (r ∷ rs) = ((i ≤ r.from) × (r.from < r.upto) × (r.upto ≤ j)) × Within i j rs

within_more : (rs : List Span) (i j a b : ℕ) → a ≤ i → j ≤ b → Within i j rs → Within a b rs
within_more [] i j a b x y h = tt
within_more (r ∷ rs) i j a b x y ((c, d, e), hs) = ((omega (arith, c, x), d, omega (arith, e, y)), within_more rs i j a b x y hs)

within_join : (rs ss : List Span) (i j : ℕ) → Within i j rs → Within i j ss → Within i j (rs ++ ss)
within_join [] ss i j h k = k
within_join (r ∷ rs) ss i j (h, hs) k = (h, within_join rs ss i j hs k)

among_join : (rs ss : List Span) (q : Span) → among (rs ++ ss) q ≡ (among rs q || among ss q)
among_join [] ss q = refl
among_join (r ∷ rs) ss q = ap (λ b. same_span r q || b) (among_join rs ss q) ∙ sym (or_assoc (same_span r q) (among rs q) (among ss q))

among_within : (rs : List Span) (i j : ℕ) (q : Span) → Within i j rs → among rs q ≡ true → (i ≤ q.from) × (q.upto ≤ j)
among_within [] i j q h e = absurd (true≢false (sym e))
among_within (r ∷ rs) i j q ((a, b, c), hs) e =
    ⊎_elim (λ (z : same_span r q ≡ true). let f = eqb-true r.from q.from (and_first (r.from == q.from) (r.upto == q.upto) z) in let t = eqb-true r.upto q.upto (and_second (r.from == q.from) (r.upto == q.upto) z) in (omega (arith, a, f), omega (arith, c, t))) (λ (z : among rs q ≡ true). among_within rs i j q hs z) (or_cases (same_span r q) (among rs q) e)

-- A last span, which may be missing.
pub own_last : (b : Bool) (rs : List Span) (q : Span) → (if b then rs ++ q ∷ [] else rs) ≡ rs ++ (if b then q ∷ [] else [])
own_last true rs q = refl
own_last false rs q = sym (append-nil rs)

-- What is removed from a part lies within it.
if_within : (b : Bool) (q : Span) (i j : ℕ) → i ≤ q.from → q.from < q.upto → q.upto ≤ j → Within i j (if b then q ∷ [] else [])
if_within true q i j a b c = ((a, b, c), tt)
if_within false q i j a b c = tt

mutual
  in_within : (p : PatTree) (i j : ℕ) → Placed p i j → Within i j (merged_in p)
  in_within (nothing s) i j h = tt
  in_within (class s set) i j h = tt
  in_within (seq s ps) i j h = items_within ps i j h
  in_within (choice s bs) i j h = branches_within bs i j h
  in_within (repeat s q l m g p) i j (k, h, a, b, c) = within_more (merged_at (under l m) p) i k i j (omega arith) (omega (arith, a, b, c)) (under_within p i k l m h)
  in_within (group s c p) i j h = in_within p i j h
  in_within (anchor s k m) i j h = tt
  in_within (boundary s n a) i j h = tt
  in_within (look s behind negated ranges) i j h = tt
  in_within (outside s f) i j h = tt

  items_within : (ps : PatTrees) (i j : ℕ) → PlacedItems ps i j → Within i j (items_merged ps)
  items_within no_items i j h = tt
  items_within (item p ps) i j (k, h, hs) = within_join (merged_in p) (items_merged ps) i j (within_more (merged_in p) i k i j (omega arith) (items_le ps k j hs) (in_within p i k h)) (within_more (items_merged ps) k j i j (placed_le p i k h) (omega arith) (items_within ps k j hs))

  branches_within : (bs : BranchTrees) (i j : ℕ) → PlacedBranches bs i j → Within i j (branches_merged bs)
  branches_within no_branches i j h = tt
  branches_within (branch s p bs) i j (c, h, hs) =
      within_join (merged_in p) (branches_merged bs) i j (within_more (merged_in p) s.from s.upto i j c (branches_le bs s.upto j hs) (in_within p s.from s.upto h)) (within_more (branches_merged bs) s.upto j i j (omega (arith, c, placed_le p s.from s.upto h)) (omega arith) (branches_within bs s.upto j hs))

  under_within : (p : PatTree) (i j : ℕ) (least : ℕ) (most : Option ℕ) → Placed p i j → Within i j (merged_at (under least most) p)
  under_within (nothing s) i j x y h = tt
  under_within (class s set) i j x y h = tt
  under_within (seq s ps) i j x y h = items_within ps i j h
  under_within (choice s bs) i j x y h = branches_within bs i j h
  under_within (repeat s q l m g p) i j x y (k, h, a, b, c) = within_more (merged_at (under l m) p) i k i j (omega arith) (omega (arith, a, b, c)) (under_within p i k l m h)
  under_within (group s c p) i j x y h = inside_within p i j c x y h
  under_within (anchor s k m) i j x y h = tt
  under_within (boundary s n a) i j x y h = tt
  under_within (look s behind negated ranges) i j x y h = tt
  under_within (outside s f) i j x y h = tt

  inside_within : (p : PatTree) (i j : ℕ) (captures : Bool) (least : ℕ) (most : Option ℕ) → Placed p i j → Within i j (merged_at (inside captures least most) p)
  inside_within (nothing s) i j v x y h = tt
  inside_within (class s set) i j v x y h = tt
  inside_within (seq s ps) i j v x y h = items_within ps i j h
  inside_within (choice s bs) i j v x y h = branches_within bs i j h
  inside_within (repeat s q l m g p) i j v x y (k, h, a, b, c) =
      let test = not v && (not (holds_capture p) && is_allowed l m x y) in
      subst (Within i j) (sym (own_last test (merged_at (under l m) p) q)) (within_join (merged_at (under l m) p) (if test then q ∷ [] else []) i j (within_more (merged_at (under l m) p) i k i j (omega arith) (omega (arith, a, b, c)) (under_within p i k l m h)) (if_within test q i j (omega (arith, placed_le p i k h, a)) b c))
  inside_within (group s c p) i j v x y h = in_within p i j h
  inside_within (anchor s k m) i j v x y h = tt
  inside_within (boundary s n a) i j v x y h = tt
  inside_within (look s behind negated ranges) i j v x y h = tt
  inside_within (outside s f) i j v x y h = tt

-- The pairs that are allowed.
under_any : (l least : ℕ) → (least == 0) ≡ true → (l == 0 || l == 1) ≡ true → AllowedPair l None least None
under_any l least a h =
    subst (λ x. AllowedPair l None x None) (sym (eqb-true least 0 a)) (⊎_elim (λ (z : (l == 0) ≡ true). subst (λ x. AllowedPair x None 0 None) (sym (eqb-true l 0 z)) any_in_any) (λ (z : (l == 1) ≡ true). subst (λ x. AllowedPair x None 0 None) (sym (eqb-true l 1 z)) some_in_any) (or_cases (l == 0) (l == 1) h))

under_some : (l least : ℕ) → (least == 1) ≡ true → (l == 1) ≡ true → AllowedPair l None least None
under_some l least a h = subst (λ x. AllowedPair l None x None) (sym (eqb-true least 1 a)) (subst (λ x. AllowedPair x None 1 None) (sym (eqb-true l 1 h)) some_in_some)

allowed_pair : (l : ℕ) (m : Option ℕ) (least : ℕ) (most : Option ℕ) → is_allowed l m least most ≡ true → AllowedPair l m least most
allowed_pair l None least None h =
    ⊎_elim (λ (z : (least == 0 && (l == 0 || l == 1)) ≡ true). under_any l least (and_first (least == 0) (l == 0 || l == 1) z) (and_second (least == 0) (l == 0 || l == 1) z)) (λ (z : (least == 1 && l == 1) ≡ true). under_some l least (and_first (least == 1) (l == 1) z) (and_second (least == 1) (l == 1) z)) (or_cases (least == 0 && (l == 0 || l == 1)) (least == 1 && l == 1) h)
allowed_pair l (Some m) least None h =
    let zero_least = eqb-true least 0 (and_first (least == 0) (l == 0 && m == 1) h) in
    let pair = and_second (least == 0) (l == 0 && m == 1) h in
    let zero_l = eqb-true l 0 (and_first (l == 0) (m == 1) pair) in
    let one_m = eqb-true m 1 (and_second (l == 0) (m == 1) pair) in
    subst (λ x. AllowedPair l (Some m) x None) (sym zero_least) (subst (λ x. AllowedPair x (Some m) 0 None) (sym zero_l) (subst (λ x. AllowedPair 0 (Some x) 0 None) (sym one_m) option_in_any))
allowed_pair l None least (Some k) h = absurd (true≢false (sym h))
allowed_pair l (Some m) least (Some k) h = absurd (true≢false (sym h))

module _ (ms : List Span) where
  -- Between these positions, exactly these are removed.
  abbrev OutIs : List Span → ℕ → ℕ → Type 0
  OutIs rs i j = (q : Span) → i ≤ q.from → q.from < q.upto → q.upto ≤ j → among ms q ≡ among rs q

  out_part : (rs : List Span) (i j a b : ℕ) → i ≤ a → b ≤ j → OutIs rs i j → OutIs rs a b
  out_part rs i j a b x y h q c d e = h q (omega (arith, x, c)) d (omega (arith, y, e))

  out_left : (rs ss : List Span) (i k j : ℕ) → k ≤ j → Within k j ss → OutIs (rs ++ ss) i j → OutIs rs i k
  out_left rs ss i k j l w h q a b c = h q a b (omega (arith, c, l)) ∙ among_join rs ss q ∙ ap (λ z. among rs q || z) (no_true (among ss q) (λ e. let x = among_within ss k j q w e in omega (arith, x.0, b, c))) ∙ or_false (among rs q)

  out_right : (rs ss : List Span) (i k j : ℕ) → i ≤ k → Within i k rs → OutIs (rs ++ ss) i j → OutIs ss k j
  out_right rs ss i k j l w h q a b c = h q (omega (arith, a, l)) b c ∙ among_join rs ss q ∙ ap (λ z. z || among ss q) (no_true (among rs q) (λ e. let x = among_within rs i k q w e in omega (arith, x.1, b, a)))

  -- The quantifier of a repeat isn't among those of its body.
  own_free : (rs : List Span) (i k : ℕ) (q : Span) → Within i k rs → k ≤ q.from → q.from < q.upto → among rs q ≡ false
  own_free rs i k q w a b = no_true (among rs q) (λ e. let x = among_within rs i k q w e in omega (arith, x.1, a, b))

  if_free : (b : Bool) (r q : Span) (k : ℕ) → k ≤ r.from → q.from < q.upto → q.upto ≤ k → among (if b then r ∷ [] else []) q ≡ false
  if_free true r q k a b c = or_false (same_span r q) ∙ no_true (same_span r q) (λ e. let f = eqb-true r.from q.from (and_first (r.from == q.from) (r.upto == q.upto) e) in omega (arith, f, a, b, c))
  if_free false r q k a b c = refl

  if_true : (b : Bool) (r q : Span) → among (if b then r ∷ [] else []) q ≡ true → b ≡ true
  if_true true r q h = refl
  if_true false r q h = absurd (true≢false (sym h))

  mutual
    pub merge_of : (p : PatTree) (i j : ℕ) → Placed p i j → OutIs (merged_in p) i j → MayMerge (among ms) p
    merge_of (nothing s) i j h o = tt
    merge_of (class s set) i j h o = tt
    merge_of (seq s ps) i j h o = items_merge ps i j h o
    merge_of (choice s bs) i j h o = branches_merge bs i j h o
    merge_of (repeat s q l m g p) i j (k, h, a, b, c) o =
        let le = placed_le p i k h in
        (o q (omega (arith, le, a)) b c ∙ own_free (merged_at (under l m) p) i k q (under_within p i k l m h) a b, under_merge p i k l m h (out_part (merged_at (under l m) p) i j i k (omega arith) (omega (arith, a, b, c)) o))
    merge_of (group s c p) i j h o = merge_of p i j h o
    merge_of (anchor s k m) i j h o = tt
    merge_of (boundary s n a) i j h o = tt
    merge_of (look s behind negated ranges) i j h o = tt
    merge_of (outside s f) i j h o = tt

    items_merge : (ps : PatTrees) (i j : ℕ) → PlacedItems ps i j → OutIs (items_merged ps) i j → AllMayMerge (among ms) ps
    items_merge no_items i j h o = tt
    items_merge (item p ps) i j (k, h, hs) o = (merge_of p i k h (out_left (merged_in p) (items_merged ps) i k j (items_le ps k j hs) (items_within ps k j hs) o), items_merge ps k j hs (out_right (merged_in p) (items_merged ps) i k j (placed_le p i k h) (in_within p i k h) o))

    branches_merge : (bs : BranchTrees) (i j : ℕ) → PlacedBranches bs i j → OutIs (branches_merged bs) i j → BranchesMayMerge (among ms) bs
    branches_merge no_branches i j h o = tt
    branches_merge (branch s p bs) i j (c, h, hs) o = (
      merge_of p s.from s.upto h (out_part (merged_in p) i s.upto s.from s.upto c (omega arith) (out_left (merged_in p) (branches_merged bs) i s.upto j (branches_le bs s.upto j hs) (branches_within bs s.upto j hs) o)),
      branches_merge bs s.upto j hs (out_right (merged_in p) (branches_merged bs) i s.upto j (omega (arith, c, placed_le p s.from s.upto h)) (within_more (merged_in p) s.from s.upto i s.upto c (omega arith) (in_within p s.from s.upto h)) o),
    )

    under_merge : (p : PatTree) (i j : ℕ) (least : ℕ) (most : Option ℕ) → Placed p i j → OutIs (merged_at (under least most) p) i j → MergesUnder (among ms) p least most
    under_merge (nothing s) i j x y h o = tt
    under_merge (class s set) i j x y h o = tt
    under_merge (seq s ps) i j x y h o = items_merge ps i j h o
    under_merge (choice s bs) i j x y h o = branches_merge bs i j h o
    under_merge (repeat s q l m g p) i j x y (k, h, a, b, c) o =
        let le = placed_le p i k h in
        (o q (omega (arith, le, a)) b c ∙ own_free (merged_at (under l m) p) i k q (under_within p i k l m h) a b, under_merge p i k l m h (out_part (merged_at (under l m) p) i j i k (omega arith) (omega (arith, a, b, c)) o))
    under_merge (group s c p) i j x y h o = inside_merge p i j c x y h o
    under_merge (anchor s k m) i j x y h o = tt
    under_merge (boundary s n a) i j x y h o = tt
    under_merge (look s behind negated ranges) i j x y h o = tt
    under_merge (outside s f) i j x y h o = tt

    inside_merge : (p : PatTree) (i j : ℕ) (captures : Bool) (least : ℕ) (most : Option ℕ) → Placed p i j → OutIs (merged_at (inside captures least most) p) i j → MergesIn (among ms) p least most
    inside_merge (nothing s) i j v x y h o = tt
    inside_merge (class s set) i j v x y h o = tt
    inside_merge (seq s ps) i j v x y h o = items_merge ps i j h o
    inside_merge (choice s bs) i j v x y h o = branches_merge bs i j h o
    inside_merge (repeat s q l m g p) i j v x y (k, h, a, b, c) out =
        let test = not v && (not (holds_capture p) && is_allowed l m x y) in
        let rs = merged_at (under l m) p in
        let ss = if test then q ∷ [] else [] in
        let o = subst (λ xs. OutIs xs i j) (own_last test rs q) out in
        let le = placed_le p i k h in (
          λ e. allowed_pair l m x y (and_second (not (holds_capture p)) (is_allowed l m x y) (and_second (not v) (not (holds_capture p) && is_allowed l m x y) (if_true test q q (sym (ap (λ z. z || among ss q) (own_free rs i k q (under_within p i k l m h) a b)) ∙ sym (among_join rs ss q) ∙ sym (o q (omega (arith, le, a)) b c) ∙ e)))),
          under_merge p i k l m h (λ r d e f. o r d e (omega (arith, f, a, b, c)) ∙ among_join rs ss r ∙ ap (λ z. among rs r || z) (if_free test q r k a e f) ∙ or_false (among rs r)),
        )
    inside_merge (group s c p) i j v x y h o = merge_of p i j h o
    inside_merge (anchor s k m) i j v x y h o = tt
    inside_merge (boundary s n a) i j v x y h o = tt
    inside_merge (look s behind negated ranges) i j v x y h o = tt
    inside_merge (outside s f) i j v x y h o = tt

-- The quantifiers that the rule removes may be removed.
pub rule_merges : (p : PatTree) (i j : ℕ) → Placed p i j → MayMerge (among (merged_in p)) p
rule_merges p i j h = merge_of (merged_in p) p i j h (λ q a b c. refl)

-- Removing them from what is left, or everything at once.
module _ (drop out : Span → Bool) where
  abbrev none_of : Span → Bool
  none_of r = false

  choice_once : (s : Span) (bs : BranchTrees) → remaining (λ r. false) out (choice_of s bs) ≡ choice_of s (remaining_branches (λ r. false) out bs)
  choice_once s no_branches = refl
  choice_once s (branch r p no_branches) = refl
  choice_once s (branch r p (branch t q bs)) = refl

  mutual
    pub left_twice : (p : PatTree) → remaining (λ r. false) out (remaining drop no_span p) ≡ remaining drop out p
    left_twice (nothing s) = refl
    left_twice (class s set) = refl
    left_twice (seq s ps) = ap (seq s) (items_twice ps)
    left_twice (choice s bs) = choice_once s (remaining_branches drop no_span bs) ∙ ap (choice_of s) (branches_twice bs)
    left_twice (repeat s q l m g p) = ap (λ x. if out q then x else repeat s q l m g x) (left_twice p)
    left_twice (group s c p) = ap (group s c) (left_twice p)
    left_twice (anchor s k m) = refl
    left_twice (boundary s n a) = refl
    left_twice (look s behind negated ranges) = refl
    left_twice (outside s f) = refl

    items_twice : (ps : PatTrees) → remaining_items (λ r. false) out (remaining_items drop no_span ps) ≡ remaining_items drop out ps
    items_twice no_items = refl
    items_twice (item p ps) = ap (λ x. item x (remaining_items (λ r. false) out (remaining_items drop no_span ps))) (left_twice p) ∙ ap (item (remaining drop out p)) (items_twice ps)

    branches_twice : (bs : BranchTrees) → remaining_branches (λ r. false) out (remaining_branches drop no_span bs) ≡ remaining_branches drop out bs
    branches_twice no_branches = refl
    branches_twice (branch s p bs) = go (drop s) (left_twice p) (branches_twice bs)
      where
        go : (b : Bool) → remaining (λ r. false) out (remaining drop no_span p) ≡ remaining drop out p → remaining_branches (λ r. false) out (remaining_branches drop no_span bs) ≡ remaining_branches drop out bs → remaining_branches (λ r. false) out (if b then remaining_branches drop no_span bs else branch s (remaining drop no_span p) (remaining_branches drop no_span bs)) ≡ (if b then remaining_branches drop out bs else branch s (remaining drop out p) (remaining_branches drop out bs))
        go true x y = y
        go false x y = ap (λ z. branch s z (remaining_branches (λ r. false) out (remaining_branches drop no_span bs))) x ∙ ap (branch s (remaining drop out p)) y
