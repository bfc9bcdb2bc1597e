use Rattle.std.proofs.Common.{◌≡◌, ◌+◌, ◌≤◌, ◌++◌, map}
use Rattle.std.proofs.Math.ListN.{drop}
use Rattle.rl_syntax.specs.PatTree.{pat_of, items_of, branches_of}
use Rattle.rl_syntax.specs.Counting.{branch_tree}
use Rattle.rl_marks.specs.declared.limits.TheConstants.{MOST_GROUPS}
use Rattle.rl_marks.specs.Marked.{marked_of}
use Rattle.rl_marks.specs.Marking.{groups_in_items, groups_in_branches, items_marked, branches_marked}
use Rattle.rl_marks.proofs.marking.+marking.Given as goal

abbrev pub invariant-mark_branches-loop-branch : goal.invariant-mark_branches-loop-branch
invariant-mark_branches-loop-branch l = record {
  trees : map marked_of l.trees ++ branches_marked (branches_of (map branch_tree (drop l.branch-index l.branches))) l.next
      ≡ branches_marked (branches_of (map branch_tree l.branches)) l.number;
  next : l.next + groups_in_branches (branches_of (map branch_tree (drop l.branch-index l.branches)))
      ≡ l.number + groups_in_branches (branches_of (map branch_tree l.branches));
  few : l.number ≤ MOST_GROUPS + 1 → l.next ≤ MOST_GROUPS + 1;
}

abbrev pub invariant-mark_items-loop-item : goal.invariant-mark_items-loop-item
invariant-mark_items-loop-item l = record {
  trees : map marked_of l.trees ++ items_marked (items_of (map pat_of (drop l.item-index l.items))) l.next
      ≡ items_marked (items_of (map pat_of l.items)) l.number;
  next : l.next + groups_in_items (items_of (map pat_of (drop l.item-index l.items))) ≡ l.number + groups_in_items (items_of (map pat_of l.items));
  few : l.number ≤ MOST_GROUPS + 1 → l.next ≤ MOST_GROUPS + 1;
}
