-- What is left of the parts so far, followed by what is left of the remaining parts.
use Rattle.std.proofs.Common.{◌≡◌, ◌++◌, drop, map}
use Rattle.rl_syntax.specs.PatTree.{pat_of}
use Rattle.rl_syntax.specs.Counting.{branch_tree}
use Rattle.rl_pattern.specs.Suggested.{among}
use Rattle.rl_rewrite.specs.internal.LeftLists.{all_remaining, some_remaining}
use Rattle.rl_rewrite.proofs.leaving.+leaving.Given as goal

abbrev pub invariant-put_items_left-loop-item : goal.invariant-put_items_left-loop-item
invariant-put_items_left-loop-item l = map pat_of l.found ++ all_remaining (among l.dropped) (map pat_of (drop l.item-index l.items)) ≡ map pat_of l.fn.found ++ all_remaining (among l.dropped) (map pat_of l.items)

abbrev pub invariant-put_branches_left-loop-branch : goal.invariant-put_branches_left-loop-branch
invariant-put_branches_left-loop-branch l = map branch_tree l.found ++ some_remaining (among l.dropped) (map branch_tree (drop l.branch-index l.branches)) ≡ map branch_tree l.fn.found ++ some_remaining (among l.dropped) (map branch_tree l.branches)
