-- For the contracts of private functions: the places of what is left of a pattern that are kept if further branches are
-- dropped. The places of a part are the leaves, each of which matches one code, of the tree to which it is lowered, from left
-- to right; a repeat is lowered to several copies of its body. `drop` selects the branches that are dropped already, and `gone`
-- those to be dropped next.
use Rattle.std.specs.Prelude.{ℕ, zero, suc, ◌+◌, ◌-◌, Bool, true, false, not, ◌&&◌, ◌||◌, ◌==◌, if◌then◌else◌, List, [], ◌∷◌, ◌++◌, Option, None, Some}
use Rattle.rl_syntax.specs.declared.span.Span.{Span}
use Rattle.rl_syntax.specs.PatTree.{PatTree, PatTrees, BranchTrees, nothing, class, seq, choice, repeat, group, anchor, boundary, look, outside, no_items, item, no_branches, branch}
use Rattle.rl_pattern.specs.Suggested.{some_kept}

-- The number of copies of its body to which a repeat is lowered: the greater of its two bounds, or one more than its lower
-- bound if it has no upper bound.
abbrev pub copies : ℕ → Option ℕ → ℕ
copies least None = least + 1
copies least (Some most) = least + (most - least)

-- The list `flags`, repeated `n` times. It is empty if `n` is 0.
abbrev pub repeated : ℕ → List Bool → List Bool
repeated zero flags = []
repeated (suc n) flags = flags ++ repeated n flags

module _ (drop : Span → Bool) where
  -- Whether what is left of a part without the dropped branches may span the empty text. Anchors, boundaries, lookarounds and
  -- features that aren't judged (`outside`) count as spanning it, and so does a choice without branches.
  abbrev mutual
    pub spans_empty : PatTree → Bool
    spans_empty (nothing s) = true
    spans_empty (class s set) = false
    spans_empty (seq s ps) = items_span_empty ps
    spans_empty (choice s bs) = branch_spans_empty bs || not (some_kept drop bs)
    spans_empty (repeat s q least most greedy p) = (least == 0) || spans_empty p
    spans_empty (group s captures p) = spans_empty p
    spans_empty (anchor s kind multiline) = true
    spans_empty (boundary s negated ascii) = true
    spans_empty (look s behind negated ranges) = true
    spans_empty (outside s what) = true

    -- Whether all items, without the dropped branches, may span the empty text.
    pub items_span_empty : PatTrees → Bool
    items_span_empty no_items = true
    items_span_empty (item p ps) = spans_empty p && items_span_empty ps

    -- Whether at least one of the branches isn't dropped and may span the empty text.
    pub branch_spans_empty : BranchTrees → Bool
    branch_spans_empty no_branches = false
    branch_spans_empty (branch s p bs) = (if drop s then false else spans_empty p) || branch_spans_empty bs

module _ (drop gone : Span → Bool) where
  -- Whether the part has a branch to be dropped next that may span the empty text. Only branches that aren't inside a dropped
  -- branch, nor inside another branch to be dropped next, are looked at.
  abbrev mutual
    pub loses_empty : PatTree → Bool
    loses_empty (nothing s) = false
    loses_empty (class s set) = false
    loses_empty (seq s ps) = items_lose_empty ps
    loses_empty (choice s bs) = branches_lose_empty bs
    loses_empty (repeat s q least most greedy p) = loses_empty p
    loses_empty (group s captures p) = loses_empty p
    loses_empty (anchor s kind multiline) = false
    loses_empty (boundary s negated ascii) = false
    loses_empty (look s behind negated ranges) = false
    loses_empty (outside s what) = false

    -- Whether one of the items has such a branch.
    pub items_lose_empty : PatTrees → Bool
    items_lose_empty no_items = false
    items_lose_empty (item p ps) = loses_empty p || items_lose_empty ps

    -- Whether one of these branches is such a branch, or has one inside it.
    pub branches_lose_empty : BranchTrees → Bool
    branches_lose_empty no_branches = false
    branches_lose_empty (branch s p bs) = (if drop s then false else if gone s then spans_empty drop p else loses_empty p) || branches_lose_empty bs

  -- A flag for each place of what is left of a part without the dropped branches, which says whether the place is kept if the
  -- branches to be dropped next are dropped too. The first argument is false if the part is inside one of these; then all
  -- flags are false.
  abbrev mutual
    pub flags_in : Bool → PatTree → List Bool
    flags_in keep (nothing s) = []
    flags_in keep (class s set) = keep ∷ []
    flags_in keep (seq s ps) = items_flags keep ps
    flags_in keep (choice s bs) = branches_flags keep bs
    flags_in keep (repeat s q least most greedy p) = repeated (copies least most) (flags_in keep p)
    flags_in keep (group s captures p) = flags_in keep p
    flags_in keep (anchor s kind multiline) = []
    flags_in keep (boundary s negated ascii) = []
    flags_in keep (look s behind negated ranges) = []
    flags_in keep (outside s what) = []

    -- The flags of the places of a sequence of items, item by item.
    pub items_flags : Bool → PatTrees → List Bool
    items_flags keep no_items = []
    items_flags keep (item p ps) = flags_in keep p ++ items_flags keep ps

    -- The flags of the places of the branches that aren't dropped, branch by branch.
    pub branches_flags : Bool → BranchTrees → List Bool
    branches_flags keep no_branches = []
    branches_flags keep (branch s p bs) = if drop s then branches_flags keep bs else flags_in (keep && not (gone s)) p ++ branches_flags keep bs
