-- Right suggestions. A suggestion makes a pattern simpler: it drops branches and removes quantifiers. Branches and quantifiers
-- are identified by their spans in the pattern as written. A part is a node of the pattern's body with everything in it. The
-- lowered tree of a body is the tree of operators that `rl_syntax` makes of it. A verdict is the
-- result of the comparison of two lowered trees, such as those with and without a branch.
use Rattle.std.specs.Prelude.{◌≡◌, ℕ, Bool, true, false, not, ◌&&◌, ◌||◌, ◌==◌, if◌then◌else◌, List, [], ◌∷◌, ◌++◌, Option, Some, None}
use Rattle.rl_syntax.specs.declared.span.Span.{Span}
use Rattle.rl_syntax.specs.Tree.{Tree}
use Rattle.rl_syntax.specs.Lowering.{lowered}
use Rattle.rl_syntax.specs.PatTree.{PatTree, PatTrees, BranchTrees, nothing, class, seq, choice, repeat, group, anchor, boundary, look, outside, no_items, item, no_branches, branch}
use Rattle.rl_pattern.specs.Cut.{remaining, gone}
use Rattle.rl_pattern.specs.Thinned.{kept_from}

-- Whether the two spans are equal.
abbrev pub same_span : Span → Span → Bool
same_span r s = r.from == s.from && r.upto == s.upto

-- Whether the span is in the list.
abbrev pub among : List Span → Span → Bool
among [] s = false
among (r ∷ rs) s = same_span r s || among rs s

-- The test that no span satisfies.
abbrev pub no_span : Span → Bool
no_span s = false

-- Whether a part is a capturing group or contains one. A group that is refused (`outside`) has lost its body and counts as
-- none.
abbrev mutual
  pub holds_capture : PatTree → Bool
  holds_capture (nothing s) = false
  holds_capture (class s set) = false
  holds_capture (seq s ps) = some_capture ps
  holds_capture (choice s bs) = branch_capture bs
  holds_capture (repeat s q least most greedy p) = holds_capture p
  holds_capture (group s captures p) = captures || holds_capture p
  holds_capture (anchor s kind multiline) = false
  holds_capture (boundary s negated ascii) = false
  holds_capture (look s behind negated ranges) = false
  holds_capture (outside s what) = false

  -- Whether some item is a capturing group or contains one.
  pub some_capture : PatTrees → Bool
  some_capture no_items = false
  some_capture (item p ps) = holds_capture p || some_capture ps

  -- Whether the body of some branch is a capturing group or contains one.
  pub branch_capture : BranchTrees → Bool
  branch_capture no_branches = false
  branch_capture (branch s p bs) = holds_capture p || branch_capture bs

-- Whether a part is a guard or contains one. A guard is an anchor, a word boundary or a lookaround of one character. A group
-- that is refused (`outside`) has lost its body and counts as none.
abbrev mutual
  pub holds_guard : PatTree → Bool
  holds_guard (nothing s) = false
  holds_guard (class s set) = false
  holds_guard (seq s ps) = some_guard ps
  holds_guard (choice s bs) = branch_guard bs
  holds_guard (repeat s q least most greedy p) = holds_guard p
  holds_guard (group s captures p) = holds_guard p
  holds_guard (anchor s kind multiline) = true
  holds_guard (boundary s negated ascii) = true
  holds_guard (look s behind negated ranges) = true
  holds_guard (outside s what) = false

  -- Whether some item is a guard or contains one.
  pub some_guard : PatTrees → Bool
  some_guard no_items = false
  some_guard (item p ps) = holds_guard p || some_guard ps

  -- Whether the body of some branch is a guard or contains one.
  pub branch_guard : BranchTrees → Bool
  branch_guard no_branches = false
  branch_guard (branch s p bs) = holds_guard p || branch_guard bs

-- The spans of all branches in a part, at any depth, in ascending order.
abbrev mutual
  pub branches_in : PatTree → List Span
  branches_in (seq s ps) = items_branches ps
  branches_in (choice s bs) = choice_branches bs
  branches_in (repeat s q least most greedy p) = branches_in p
  branches_in (group s captures p) = branches_in p
  branches_in _ = []

  -- The spans of all branches in a sequence of items, at any depth, in ascending order.
  pub items_branches : PatTrees → List Span
  items_branches no_items = []
  items_branches (item p ps) = branches_in p ++ items_branches ps

  -- The spans of the branches of a choice, and of all branches within them, in ascending order.
  pub choice_branches : BranchTrees → List Span
  choice_branches no_branches = []
  choice_branches (branch s p bs) = s ∷ branches_in p ++ choice_branches bs

-- Whether at least one of the branches isn't selected by `drop`. It is `false` if there are no branches.
abbrev pub some_kept : (Span → Bool) → BranchTrees → Bool
some_kept drop no_branches = false
some_kept drop (branch s p bs) = not (drop s) || some_kept drop bs

-- `drop` selects the branches to drop.
module _ (drop : Span → Bool) where
  abbrev mutual
    -- Whether the selected branches of a part may be dropped: none of them contains a capturing group, and each choice that
    -- doesn't lie in a dropped branch keeps a branch.
    pub may_go : PatTree → Bool
    may_go (nothing s) = true
    may_go (class s set) = true
    may_go (seq s ps) = items_may_go ps
    may_go (choice s bs) = some_kept drop bs && branches_may_go bs
    may_go (repeat s q least most greedy p) = may_go p
    may_go (group s captures p) = may_go p
    may_go (anchor s kind multiline) = true
    may_go (boundary s negated ascii) = true
    may_go (look s behind negated ranges) = true
    may_go (outside s what) = true

    -- Whether the selected branches in each item of a sequence may be dropped.
    pub items_may_go : PatTrees → Bool
    items_may_go no_items = true
    items_may_go (item p ps) = may_go p && items_may_go ps

    -- Whether the selected branches of a choice, and those within the branches that are kept, may be dropped. That one branch
    -- is kept isn't checked here.
    pub branches_may_go : BranchTrees → Bool
    branches_may_go no_branches = true
    branches_may_go (branch s p bs) = (if drop s then not (holds_capture p) else may_go p) && branches_may_go bs

-- The lowered tree of the body after the branches in the list are dropped. All quantifiers are kept.
abbrev pub without : List Span → PatTree → Tree
without dropped body = lowered (remaining (among dropped) no_span body)

-- The verdict on the comparison of two trees: they are equal (`equal`), they differ (`apart`), or the comparison exceeded its
-- limit (`undecided`).
pub data Verdict : Type 0 where
  equal apart undecided : Verdict

-- `Answers s t v` says that the comparison of the trees `s` and `t` gives the verdict `v`.
module _ (Answers : Tree → Tree → Verdict → Type 0) (body : PatTree) where
  -- The result of trying the branches of a list from last to first, each on the body that is left by then. `Tried bs dropped
  -- passed` says which of the branches `bs` were dropped, and which have a test that exceeded its limit (`passed`), both in
  -- the order of `bs`. A branch is dropped if it may go (`may_go`) together with those dropped before, and its test, the
  -- comparison of the trees with and without it, gives `equal`. A branch that may not go isn't tested.
  pub data Tried : List Span → List Span → List Span → Type 0 where
    none_tried : Tried [] [] []
    left_alone : {bs dropped passed : List Span} {b : Span} → Tried bs dropped passed → may_go (among (b ∷ dropped)) body ≡ false → Tried (b ∷ bs) dropped passed
    dropped_one : {bs dropped passed : List Span} {b : Span} → Tried bs dropped passed → may_go (among (b ∷ dropped)) body ≡ true → Answers (without dropped body) (without (b ∷ dropped) body) equal → Tried (b ∷ bs) (b ∷ dropped) passed
    kept_one : {bs dropped passed : List Span} {b : Span} → Tried bs dropped passed → may_go (among (b ∷ dropped)) body ≡ true → Answers (without dropped body) (without (b ∷ dropped) body) apart → Tried (b ∷ bs) dropped passed
    undecided_one : {bs dropped passed : List Span} {b : Span} → Tried bs dropped passed → may_go (among (b ∷ dropped)) body ≡ true → Answers (without dropped body) (without (b ∷ dropped) body) undecided → Tried (b ∷ bs) dropped (b ∷ passed)

-- Whether the inner one of two nested quantifiers may be removed: `*`, `+` or `?` within `*`, or `+` within `+`. The arguments
-- are the minimum and maximum of the inner one, then those of the outer one. A missing maximum is `None`.
abbrev pub is_allowed : ℕ → Option ℕ → ℕ → Option ℕ → Bool
is_allowed l None least None = (least == 0 && (l == 0 || l == 1)) || (least == 1 && l == 1)
is_allowed l (Some m) least None = least == 0 && (l == 0 && m == 1)
is_allowed _ _ _ _ = false

-- The context of a part. It is the body of a repeat with these bounds (`under`), or the whole content of a group that is such
-- a body (`inside`, in which the flag says whether the group captures), or neither (`elsewhere`).
pub data Around : Type 0 where
  elsewhere : Around
  under : ℕ → Option ℕ → Around
  inside : Bool → ℕ → Option ℕ → Around

-- The context of the content of a group, given the context of the group and whether it captures.
abbrev pub content : Around → Bool → Around
content (under least most) captures = inside captures least most
content _ captures = elsewhere

-- Whether the quantifier of a repeat with minimum `l`, maximum `m` and body `p` is removed. It is if the repeat is the whole
-- content of a group that doesn't capture and is itself repeated, the body contains no capturing group, and `is_allowed` holds
-- for the two quantifiers.
abbrev pub goes_out : Around → ℕ → Option ℕ → PatTree → Bool
goes_out (inside captures least most) l m p = not captures && (not (holds_capture p) && is_allowed l m least most)
goes_out _ l m p = false

-- The spans of the quantifiers that are removed from a part in this context, in ascending order.
abbrev mutual
  pub merged_at : Around → PatTree → List Span
  merged_at around (seq s ps) = items_merged ps
  merged_at around (choice s bs) = branches_merged bs
  merged_at around (repeat s q l m greedy p) = if goes_out around l m p then merged_at (under l m) p ++ q ∷ [] else merged_at (under l m) p
  merged_at around (group s captures p) = merged_at (content around captures) p
  merged_at around _ = []

  -- The spans of the quantifiers that are removed from a sequence of items, in ascending order.
  pub items_merged : PatTrees → List Span
  items_merged no_items = []
  items_merged (item p ps) = merged_at elsewhere p ++ items_merged ps

  -- The spans of the quantifiers that are removed from the branches of a choice, in ascending order.
  pub branches_merged : BranchTrees → List Span
  branches_merged no_branches = []
  branches_merged (branch s p bs) = merged_at elsewhere p ++ branches_merged bs

-- The spans of the quantifiers that are removed from a whole body, in ascending order. Its context is `elsewhere`.
abbrev pub merged_in : PatTree → List Span
merged_in p = merged_at elsewhere p

-- The codes that are left of `codes`, the pattern with this body, when the branches in `dropped` and the quantifiers in
-- `merged` are removed. With each dropped branch goes one `|` too: the one before it, or the one after it if no earlier branch
-- of the choice is left.
abbrev pub text_of : PatTree → List Span → List Span → List ℕ → List ℕ
text_of body dropped merged codes = kept_from (λ t. not (gone (among dropped) (among merged) body t)) 0 codes

-- The codes that `text_of` leaves when the branches in `dropped`, each with one `|`, and the quantifiers in `merged` are
-- removed. `None` if both lists are empty.
abbrev pub text_if : PatTree → List Span → List Span → List ℕ → Option (List ℕ)
text_if body [] [] codes = None
text_if body dropped merged codes = Some (text_of body dropped merged codes)

-- Holds if a suggestion is right. `dropped` lists the branches that were dropped, `merged` the quantifiers that were removed
-- from what the dropped branches left, and `passed` the branches whose test exceeded its limit. `text` has the codes of the
-- simpler pattern, or is `None` if nothing changes. In a body with guards no branch is tried, but quantifiers may be removed.
pub record IsRight (Answers : Tree → Tree → Verdict → Type 0) (body : PatTree) (codes : List ℕ) (dropped merged passed : List Span) (text : Option (List ℕ)) : Type 0 where
  pub guarded : holds_guard body ≡ true → (dropped ≡ []) × (passed ≡ [])
  pub tried : holds_guard body ≡ false → Tried Answers body (branches_in body) dropped passed
  pub quantifiers : merged ≡ merged_in (remaining (among dropped) no_span body)
  pub spelled : text ≡ text_if body dropped merged codes
