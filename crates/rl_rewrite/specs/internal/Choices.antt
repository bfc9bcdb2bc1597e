-- For the contracts of private functions: whether a pattern contains a branch. A branch is one of the alternatives of a
-- choice, which `|` separates.
use Rattle.std.specs.Prelude.{Bool, true, false, ◌||◌}
use Rattle.rl_syntax.specs.PatTree.{PatTree, PatTrees, BranchTrees, nothing, class, seq, choice, repeat, group, anchor, boundary, look, outside, no_items, item, no_branches, branch}

-- Whether there is at least one branch.
abbrev pub is_some_branch : BranchTrees → Bool
is_some_branch no_branches = false
is_some_branch (branch s p bs) = true

abbrev mutual
  -- Whether a part contains a branch of some choice.
  pub holds_branch : PatTree → Bool
  holds_branch (nothing s) = false
  holds_branch (class s set) = false
  holds_branch (seq s ps) = items_hold_branch ps
  holds_branch (choice s bs) = is_some_branch bs
  holds_branch (repeat s q least most greedy p) = holds_branch p
  holds_branch (group s captures p) = holds_branch p
  holds_branch (anchor s kind multiline) = false
  holds_branch (boundary s negated ascii) = false
  holds_branch (look s behind negated ranges) = false
  holds_branch (outside s what) = false

  -- Whether at least one of the items contains a branch of some choice.
  pub items_hold_branch : PatTrees → Bool
  items_hold_branch no_items = false
  items_hold_branch (item p ps) = holds_branch p || items_hold_branch ps
