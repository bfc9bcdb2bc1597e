-- The objects so far and those of the parts that are left make up all objects, and the numbers go on from part to part.
use Rattle.std.proofs.Common.{◌≡◌, ◌+◌, ◌++◌, map}
use Rattle.std.proofs.Math.ListN.{drop}
use Rattle.serde_json.specs.View.{view}
use Rattle.rl_syntax.specs.Counting.{branch_tree}
use Rattle.rl_syntax.specs.PatTree.{branches_of, items_of, pat_of}
use Rattle.rl_marks.specs.Marking.{groups_in_branches, groups_in_items}
use Rattle.rl_parts.specs.Nodes.{branches_data, items_data}
use Rattle.rl_parts.proofs.nodes.+nodes.Given as goal

abbrev pub invariant-item_nodes-loop-item : goal.invariant-item_nodes-loop-item
invariant-item_nodes-loop-item l = record {
  values : map view l.values.items ++ items_data l.letters.samples (items_of (map pat_of (drop l.item-index l.items))) l.next
      ≡ items_data l.letters.samples (items_of (map pat_of l.items)) l.number;
  next : l.next + groups_in_items (items_of (map pat_of (drop l.item-index l.items))) ≡ l.number + groups_in_items (items_of (map pat_of l.items));
}

abbrev pub invariant-branch_nodes-loop-branch : goal.invariant-branch_nodes-loop-branch
invariant-branch_nodes-loop-branch l = record {
  values : map view l.values.items ++ branches_data l.letters.samples (branches_of (map branch_tree (drop l.branch-index l.branches))) l.next
      ≡ branches_data l.letters.samples (branches_of (map branch_tree l.branches)) l.number;
  next : l.next + groups_in_branches (branches_of (map branch_tree (drop l.branch-index l.branches)))
      ≡ l.number + groups_in_branches (branches_of (map branch_tree l.branches));
}
