-- The sets so far and those of the parts that are left make up all sets.
use Rattle.std.proofs.Common.{◌≡◌, ◌++◌, map}
use Rattle.std.proofs.Math.ListN.{drop}
use Rattle.rl_ranges.specs.Codes.{has}
use Rattle.rl_syntax.specs.Counting.{branch_tree}
use Rattle.rl_syntax.specs.PatTree.{branches_of, items_of, pat_of}
use Rattle.rl_parts.specs.Sets.{sets_in_branches, sets_in_items}
use Rattle.rl_parts.proofs.sets.+sets.Given as goal

abbrev pub invariant-add_item_sets-loop-item : goal.invariant-add_item_sets-loop-item
invariant-add_item_sets-loop-item l =
    map has l.sets.items ++ sets_in_items (items_of (map pat_of (drop l.item-index l.items)))
    ≡ map has l.initial.sets.items ++ sets_in_items (items_of (map pat_of l.items))

abbrev pub invariant-add_branch_sets-loop-branch : goal.invariant-add_branch_sets-loop-branch
invariant-add_branch_sets-loop-branch l =
    map has l.sets.items ++ sets_in_branches (branches_of (map branch_tree (drop l.branch-index l.branches)))
    ≡ map has l.initial.sets.items ++ sets_in_branches (branches_of (map branch_tree l.branches))
