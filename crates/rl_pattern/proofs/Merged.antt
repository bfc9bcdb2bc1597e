-- When an inner quantifier may be removed: its repeat is the whole content of a group that doesn't capture, the group is
-- the body of an outer repeat, and the two quantifiers are an allowed pair.
use Rattle.std.proofs.Common.{◌≡◌, ℕ, Bool, true, false, Option}
use Rattle.rl_syntax.specs.declared.span.Span.{Span}
use Rattle.rl_syntax.specs.AllowedPair.{AllowedPair}
use Rattle.rl_syntax.specs.PatTree.{PatTree, PatTrees, BranchTrees, nothing, class, seq, choice, repeat, group, anchor, boundary, look, outside, no_items, item, no_branches, branch}

-- The quantifiers with these spans are removed.
module _ (out : Span → Bool) where
  abbrev mutual
    -- A part that isn't the whole content of the body of a repeat.
    pub MayMerge : PatTree → Type 0
    MayMerge (nothing s) = Unit {0}
    MayMerge (class s set) = Unit {0}
    MayMerge (seq s ps) = AllMayMerge ps
    MayMerge (choice s bs) = BranchesMayMerge bs
    MayMerge (repeat s q least most greedy p) = (out q ≡ false) × MergesUnder p least most
    MayMerge (group s captures p) = MayMerge p
    MayMerge (anchor s kind multiline) = Unit {0}
    MayMerge (boundary s negated ascii) = Unit {0}
    MayMerge (look s behind negated ranges) = Unit {0}
    MayMerge (outside s what) = Unit {0}

    pub AllMayMerge : PatTrees → Type 0
    AllMayMerge no_items = Unit {0}
    AllMayMerge (item p ps) = MayMerge p × AllMayMerge ps

    pub BranchesMayMerge : BranchTrees → Type 0
    BranchesMayMerge no_branches = Unit {0}
    BranchesMayMerge (branch s p bs) = MayMerge p × BranchesMayMerge bs

    -- The body of a repeat with these bounds.
    pub MergesUnder : PatTree → ℕ → Option ℕ → Type 0
    MergesUnder (nothing s) least most = Unit {0}
    MergesUnder (class s set) least most = Unit {0}
    MergesUnder (seq s ps) least most = AllMayMerge ps
    MergesUnder (choice s bs) least most = BranchesMayMerge bs
    MergesUnder (repeat s q l m greedy p) least most = (out q ≡ false) × MergesUnder p l m
    MergesUnder (group s captures p) least most = MergesIn p least most
    MergesUnder (anchor s kind multiline) least most = Unit {0}
    MergesUnder (boundary s negated ascii) least most = Unit {0}
    MergesUnder (look s behind negated ranges) least most = Unit {0}
    MergesUnder (outside s what) least most = Unit {0}

    -- The content of the group that is the body of a repeat with these bounds.
    pub MergesIn : PatTree → ℕ → Option ℕ → Type 0
    MergesIn (nothing s) least most = Unit {0}
    MergesIn (class s set) least most = Unit {0}
    MergesIn (seq s ps) least most = AllMayMerge ps
    MergesIn (choice s bs) least most = BranchesMayMerge bs
    MergesIn (repeat s q l m greedy p) least most = (out q ≡ true → AllowedPair l m least most) × MergesUnder p l m
    MergesIn (group s captures p) least most = MayMerge p
    MergesIn (anchor s kind multiline) least most = Unit {0}
    MergesIn (boundary s negated ascii) least most = Unit {0}
    MergesIn (look s behind negated ranges) least most = Unit {0}
    MergesIn (outside s what) least most = Unit {0}
