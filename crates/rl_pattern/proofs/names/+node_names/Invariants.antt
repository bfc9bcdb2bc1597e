-- The names so far, and those of the remaining nodes or branches.
use Rattle.std.proofs.Common.{◌≡◌, drop, map, ◌++◌}
use Rattle.rl_pattern.specs.internal.Views.{node_of, branch_of}
use Rattle.rl_pattern.specs.internal.Judged.{called_of}
use Rattle.rl_pattern.specs.Tree as t
use Rattle.rl_pattern.specs.Found.{nodes_names, branches_names}
use Rattle.rl_pattern.proofs.names.+node_names.Given as goal

abbrev pub invariant-branches_names-loop-branch : goal.invariant-branches_names-loop-branch
invariant-branches_names-loop-branch l =
    map called_of l.all ++ branches_names (t.branches (map branch_of (drop l.branch-index l.branches))) ≡ map called_of l.fn.found ++ branches_names (t.branches (map branch_of l.branches))

abbrev pub invariant-nodes_names-loop-node : goal.invariant-nodes_names-loop-node
invariant-nodes_names-loop-node l =
    map called_of l.all ++ nodes_names (t.nodes (map node_of (drop l.node-index l.nodes))) ≡ map called_of l.fn.found ++ nodes_names (t.nodes (map node_of l.nodes))
