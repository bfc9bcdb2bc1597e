-- The first fault so far, and that of the remaining nodes or branches.
use Rattle.std.proofs.Common.{◌≡◌, drop, map}
use Rattle.rl_pattern.specs.internal.Views.{node_of, branch_of}
use Rattle.rl_pattern.specs.Tree as t
use Rattle.rl_pattern.specs.Found.{earlier, first_fault, nodes_faults_in, branches_faults_in}
use Rattle.rl_pattern.proofs.faults.+node_fault.Given as goal

abbrev pub invariant-branches_fault-loop-branch : goal.invariant-branches_fault-loop-branch
invariant-branches_fault-loop-branch l = earlier l.best (first_fault (branches_faults_in l.profile l.text (t.branches (map branch_of (drop l.branch-index l.branches))))) ≡ first_fault (branches_faults_in l.fn.profile l.fn.text (t.branches (map branch_of l.branches)))

abbrev pub invariant-nodes_fault-loop-place : goal.invariant-nodes_fault-loop-place
invariant-nodes_fault-loop-place l = earlier l.best (first_fault (nodes_faults_in l.profile l.text (t.nodes (map node_of (drop l.place l.nodes))))) ≡ first_fault (nodes_faults_in l.fn.profile l.fn.text (t.nodes (map node_of l.nodes)))
