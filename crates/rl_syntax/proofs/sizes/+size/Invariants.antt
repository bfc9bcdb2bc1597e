use Rattle.std.proofs.Common.{◌≡◌, take}
use Rattle.std.specs.List.{sum_by}
use Rattle.rl_syntax.specs.Tree.{capped}
use Rattle.rl_syntax.proofs.PartSizes.{part_nodes, branch_nodes}
use Rattle.rl_syntax.proofs.sizes.+size.Given as goal

abbrev pub invariant-branches_size-loop-branch : goal.invariant-branches_size-loop-branch
invariant-branches_size-loop-branch l = l.nodes ≡ capped (sum_by branch_nodes (take l.branch-index l.branches))

abbrev pub invariant-items_size-loop-item : goal.invariant-items_size-loop-item
invariant-items_size-loop-item l = l.nodes ≡ capped (sum_by part_nodes (take l.item-index l.items))
