-- Removing branches and quantifiers from a pattern: what is left of the pattern, and which of its codes are removed. Branches
-- and quantifiers are identified by their spans. A part is a node of the pattern's body with everything in it. Positions count
-- codes from 0.
use Rattle.std.specs.Prelude.{ℕ, suc, ◌-◌, Bool, true, false, ◌&&◌, ◌||◌, if◌then◌else◌, nat_le, nat_lt}
use Rattle.rl_syntax.specs.declared.span.Span.{Span}
use Rattle.rl_syntax.specs.PatTree.{PatTree, PatTrees, BranchTrees, nothing, class, seq, choice, repeat, group, anchor, boundary, look, outside, no_items, item, no_branches, branch}

-- Whether position `t` lies from `i` up to, but not including, `j`.
abbrev pub lies_in : ℕ → ℕ → ℕ → Bool
lies_in i j t = nat_le i t && nat_lt t j

-- Whether the code at position `t` is removed with a dropped branch of span `s`. The codes of the branch are, and one code
-- beside it: if `some_before` says that an earlier branch of the choice is left, the one directly before the branch, which is
-- a `|`. Otherwise it is the one directly after the branch, which is a `|` if another branch follows.
abbrev pub in_dropped : Bool → Span → ℕ → Bool
in_dropped some_before s t = if some_before then lies_in (s.from - 1) s.upto t else lies_in s.from (suc s.upto) t

-- The body with span `s` and these branches: an empty body if there are none, the body of the branch if there is one, and
-- otherwise a choice.
abbrev pub choice_of : Span → BranchTrees → PatTree
choice_of s no_branches = nothing s
choice_of s (branch r p no_branches) = p
choice_of s (branch r p (branch t q bs)) = choice s (branch r p (branch t q bs))

-- `drop` selects the branches to drop, and `out` the quantifiers to remove.
module _ (drop out : Span → Bool) where
  abbrev mutual
    -- What is left of a part. A repeat whose quantifier is removed leaves what is left of its body.
    pub remaining : PatTree → PatTree
    remaining (nothing s) = nothing s
    remaining (class s set) = class s set
    remaining (seq s ps) = seq s (remaining_items ps)
    remaining (choice s bs) = choice_of s (remaining_branches bs)
    remaining (repeat s q least most greedy p) = if out q then remaining p else repeat s q least most greedy (remaining p)
    remaining (group s captures p) = group s captures (remaining p)
    remaining (anchor s kind multiline) = anchor s kind multiline
    remaining (boundary s negated ascii) = boundary s negated ascii
    remaining (look s behind negated ranges) = look s behind negated ranges
    remaining (outside s what) = outside s what

    -- What is left of a sequence of items.
    pub remaining_items : PatTrees → PatTrees
    remaining_items no_items = no_items
    remaining_items (item p ps) = item (remaining p) (remaining_items ps)

    -- The branches of a choice that are left, each with what is left of its body.
    pub remaining_branches : BranchTrees → BranchTrees
    remaining_branches no_branches = no_branches
    remaining_branches (branch s p bs) = if drop s then remaining_branches bs else branch s (remaining p) (remaining_branches bs)

  -- Whether the code at position `t` is removed from a part: it belongs to a dropped branch or to a removed quantifier.
  abbrev mutual
    pub gone : PatTree → ℕ → Bool
    gone (seq s ps) t = gone_items ps t
    gone (choice s bs) t = gone_branches bs false t
    gone (repeat s q least most greedy p) t = (out q && lies_in q.from q.upto t) || gone p t
    gone (group s captures p) t = gone p t
    gone _ t = false

    -- Whether the code at position `t` is removed from a sequence of items.
    pub gone_items : PatTrees → ℕ → Bool
    gone_items no_items t = false
    gone_items (item p ps) t = gone p t || gone_items ps t

    -- Whether the code at position `t` is removed from these branches. `some_before` says whether an earlier branch of the
    -- choice is left.
    pub gone_branches : BranchTrees → Bool → ℕ → Bool
    gone_branches no_branches some_before t = false
    gone_branches (branch s p bs) some_before t = if drop s then (in_dropped some_before s t || gone_branches bs some_before t) else (gone p t || gone_branches bs true t)
