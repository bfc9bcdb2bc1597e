-- For the contracts of private functions: the holes in a pattern, each of which is a run of consecutive codes that are
-- removed. A code is given by its position in the pattern, from 0; a hole goes from its first code up to, but not including,
-- `upto`.
use Rattle.std.specs.Prelude.{ℕ, suc, ◌-◌, Bool, true, false, ◌||◌, if◌then◌else◌, List, [], ◌∷◌, ◌++◌}
use Rattle.rl_syntax.specs.declared.span.Span.{Span}
use Rattle.rl_syntax.specs.PatTree.{PatTree, PatTrees, BranchTrees, nothing, class, seq, choice, repeat, group, anchor, boundary, look, outside, no_items, item, no_branches, branch}
use Rattle.rl_pattern.specs.Cut.{lies_in}
use Rattle.rl_rewrite.specs.declared.spelling.Hole.{Hole}

-- Whether the position `t` lies in one of the holes.
abbrev pub in_holes : List Hole → ℕ → Bool
in_holes [] t = false
in_holes (h ∷ hs) t = lies_in h.from h.upto t || in_holes hs t

-- The hole of a dropped branch with the span `s`. The flag says whether an earlier branch of its choice is left: if so, the
-- hole includes the `|` before the branch, otherwise the `|` after it.
abbrev pub branch_hole : Span → Bool → Hole
branch_hole s true = record { from = s.from - 1; upto = s.upto }
branch_hole s false = record { from = s.from; upto = suc s.upto }

-- The hole of a quantifier with the span `q` that is taken out.
abbrev pub mark_hole : Span → Hole
mark_hole q = record { from = q.from; upto = q.upto }

module _ (drop out : Span → Bool) where
  abbrev mutual
    -- The holes of a part; `drop` selects the branches to be dropped and `out` the quantifiers to be taken out.
    pub holes_in : PatTree → List Hole
    holes_in (nothing s) = []
    holes_in (class s set) = []
    holes_in (seq s ps) = items_holes ps
    holes_in (choice s bs) = branches_holes bs false
    holes_in (repeat s q least most greedy p) = (if out q then mark_hole q ∷ [] else []) ++ holes_in p
    holes_in (group s captures p) = holes_in p
    holes_in (anchor s kind multiline) = []
    holes_in (boundary s negated ascii) = []
    holes_in (look s behind negated ranges) = []
    holes_in (outside s what) = []

    -- The holes of a sequence of items, item by item.
    pub items_holes : PatTrees → List Hole
    items_holes no_items = []
    items_holes (item p ps) = holes_in p ++ items_holes ps

    -- The holes of branches of a choice, branch by branch. The flag says whether a branch before these ones is left.
    pub branches_holes : BranchTrees → Bool → List Hole
    branches_holes no_branches some_before = []
    branches_holes (branch s p bs) some_before = if drop s then branch_hole s some_before ∷ branches_holes bs some_before else holes_in p ++ branches_holes bs true
