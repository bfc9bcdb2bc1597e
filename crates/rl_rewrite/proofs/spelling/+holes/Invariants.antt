-- The holes so far, and those of what is left.
use Rattle.std.proofs.Common.{◌≡◌, ◌++◌, false, drop, map}
use Rattle.rl_syntax.specs.PatTree.{pat_of, items_of, branches_of}
use Rattle.rl_syntax.specs.Counting.{branch_tree}
use Rattle.rl_pattern.specs.Suggested.{among}
use Rattle.rl_rewrite.specs.internal.Holes.{items_holes, branches_holes}
use Rattle.rl_rewrite.proofs.spelling.+holes.Given as goal

abbrev pub invariant-put_branches_holes-loop-branch : goal.invariant-put_branches_holes-loop-branch
invariant-put_branches_holes-loop-branch l = l.found ++ branches_holes (among l.dropped) (among l.merged) (branches_of (map branch_tree (drop l.branch-index l.branches))) l.some_before ≡ l.fn.found ++ branches_holes (among l.dropped) (among l.merged) (branches_of (map branch_tree l.branches)) false

abbrev pub invariant-put_items_holes-loop-item : goal.invariant-put_items_holes-loop-item
invariant-put_items_holes-loop-item l = l.found ++ items_holes (among l.dropped) (among l.merged) (items_of (map pat_of (drop l.item-index l.items))) ≡ l.fn.found ++ items_holes (among l.dropped) (among l.merged) (items_of (map pat_of l.items))
