-- Whether the items so far hold a branch, or those that are left do.
use Rattle.std.proofs.Common.{◌≡◌, drop, map, ◌||◌}
use Rattle.rl_syntax.specs.PatTree.{pat_of, items_of}
use Rattle.rl_rewrite.specs.internal.Choices.{items_hold_branch}
use Rattle.rl_rewrite.proofs.plain.+choices.Given as goal

abbrev pub invariant-items_hold_branch-loop-item : goal.invariant-items_hold_branch-loop-item
invariant-items_hold_branch-loop-item l = (l.held || items_hold_branch (items_of (map pat_of (drop l.item-index l.items)))) ≡ items_hold_branch (items_of (map pat_of l.items))
