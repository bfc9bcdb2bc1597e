-- What is done, and what remains of the nodes or branches.
use Rattle.std.proofs.Common.{◌≡◌, ◌++◌, drop, map}
use Rattle.rl_syntax.specs.PatTree.{pat_of}
use Rattle.rl_syntax.specs.Counting.{branch_tree}
use Rattle.rl_pattern.specs.internal.Views.{node_of, branch_of}
use Rattle.rl_pattern.specs.Tree as t
use Rattle.rl_pattern.specs.Shape.{shapes_in, branch_shapes_in}
use Rattle.rl_pattern.proofs.shape.+shape.Given as goal

abbrev pub invariant-item_pats-loop-place : goal.invariant-item_pats-loop-place
invariant-item_pats-loop-place l =
    map pat_of l.items ++ shapes_in l.profile l.universe (t.nodes (map node_of (drop l.place l.nodes))) ≡ shapes_in l.fn.profile l.fn.universe (t.nodes (map node_of l.nodes))

abbrev pub invariant-branch_pats-loop-branch : goal.invariant-branch_pats-loop-branch
invariant-branch_pats-loop-branch l =
    map branch_tree l.found ++ branch_shapes_in l.profile l.universe (t.branches (map branch_of (drop l.branch-index l.branches))) ≡ branch_shapes_in l.fn.profile l.fn.universe (t.branches (map branch_of l.branches))
