-- What the parts so far hold, or those that are left do.
use Rattle.std.proofs.Common.{◌≡◌, drop, map, ◌||◌}
use Rattle.rl_syntax.specs.PatTree.{pat_of, items_of, branches_of}
use Rattle.rl_syntax.specs.Counting.{branch_tree}
use Rattle.rl_pattern.specs.Suggested.{some_guard, branch_guard}
use Rattle.rl_rewrite.proofs.parts.+guards.Given as goal

abbrev pub invariant-branches_hold_guard-loop-branch : goal.invariant-branches_hold_guard-loop-branch
invariant-branches_hold_guard-loop-branch l = (l.held || branch_guard (branches_of (map branch_tree (drop l.branch-index l.branches)))) ≡ branch_guard (branches_of (map branch_tree l.branches))

abbrev pub invariant-items_hold_guard-loop-item : goal.invariant-items_hold_guard-loop-item
invariant-items_hold_guard-loop-item l = (l.held || some_guard (items_of (map pat_of (drop l.item-index l.items)))) ≡ some_guard (items_of (map pat_of l.items))
