-- The spans so far, followed by the spans of the remaining parts.
use Rattle.std.proofs.Common.{◌≡◌, ◌++◌, drop, map}
use Rattle.rl_syntax.specs.PatTree.{pat_of, items_of, branches_of}
use Rattle.rl_syntax.specs.Counting.{branch_tree}
use Rattle.rl_pattern.specs.Suggested.{items_branches, choice_branches}
use Rattle.rl_rewrite.proofs.going.+branches.Given as goal

abbrev pub invariant-put_choice_branches-loop-branch : goal.invariant-put_choice_branches-loop-branch
invariant-put_choice_branches-loop-branch l = l.found ++ choice_branches (branches_of (map branch_tree (drop l.branch-index l.branches))) ≡ l.fn.found ++ choice_branches (branches_of (map branch_tree l.branches))

abbrev pub invariant-put_items_branches-loop-item : goal.invariant-put_items_branches-loop-item
invariant-put_items_branches-loop-item l = l.found ++ items_branches (items_of (map pat_of (drop l.item-index l.items))) ≡ l.fn.found ++ items_branches (items_of (map pat_of l.items))
