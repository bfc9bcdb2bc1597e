-- The flags so far, and those of what is left.
use Rattle.std.proofs.Common.{◌≡◌, ◌++◌, drop, map}
use Rattle.rl_syntax.specs.PatTree.{pat_of, items_of, branches_of}
use Rattle.rl_syntax.specs.Counting.{branch_tree}
use Rattle.rl_pattern.specs.Suggested.{among}
use Rattle.rl_rewrite.specs.internal.Keeping.{items_flags, branches_flags}
use Rattle.rl_rewrite.proofs.keeping.+keeping.Given as goal

abbrev pub invariant-put_branches_flags-loop-branch : goal.invariant-put_branches_flags-loop-branch
invariant-put_branches_flags-loop-branch l = l.found.items ++ branches_flags (among l.dropped) (among l.gone) l.keep (branches_of (map branch_tree (drop l.branch-index l.branches))) ≡ l.fn.found.items ++ branches_flags (among l.dropped) (among l.gone) l.keep (branches_of (map branch_tree l.branches))

abbrev pub invariant-put_items_flags-loop-item : goal.invariant-put_items_flags-loop-item
invariant-put_items_flags-loop-item l = l.found.items ++ items_flags (among l.dropped) (among l.gone) l.keep (items_of (map pat_of (drop l.item-index l.items))) ≡ l.fn.found.items ++ items_flags (among l.dropped) (among l.gone) l.keep (items_of (map pat_of l.items))
