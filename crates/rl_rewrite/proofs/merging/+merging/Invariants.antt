-- The marks so far, and those of what is left.
use Rattle.std.proofs.Common.{◌≡◌, ◌++◌, drop, map}
use Rattle.rl_syntax.specs.PatTree.{pat_of, items_of, branches_of}
use Rattle.rl_syntax.specs.Counting.{branch_tree}
use Rattle.rl_pattern.specs.Suggested.{items_merged, branches_merged}
use Rattle.rl_rewrite.proofs.merging.+merging.Given as goal

abbrev pub invariant-put_branches_merged-loop-branch : goal.invariant-put_branches_merged-loop-branch
invariant-put_branches_merged-loop-branch l = l.found ++ branches_merged (branches_of (map branch_tree (drop l.branch-index l.branches))) ≡ l.fn.found ++ branches_merged (branches_of (map branch_tree l.branches))

abbrev pub invariant-put_items_merged-loop-item : goal.invariant-put_items_merged-loop-item
invariant-put_items_merged-loop-item l = l.found ++ items_merged (items_of (map pat_of (drop l.item-index l.items))) ≡ l.fn.found ++ items_merged (items_of (map pat_of l.items))
