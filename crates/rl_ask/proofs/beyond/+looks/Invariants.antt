-- What the parts so far hold, or those that are left do.
use Rattle.std.proofs.Common.{◌≡◌, drop, map, ◌||◌}
use Rattle.rl_syntax.specs.PatTree.{pat_of, items_of, branches_of}
use Rattle.rl_syntax.specs.Counting.{branch_tree}
use Rattle.rl_ask.specs.Beyond.{some_look, branch_look}
use Rattle.rl_ask.proofs.beyond.+looks.Given as goal

abbrev pub invariant-branches_hold_look-loop-branch : goal.invariant-branches_hold_look-loop-branch
invariant-branches_hold_look-loop-branch l = (l.held || branch_look (branches_of (map branch_tree (drop l.branch-index l.branches)))) ≡ branch_look (branches_of (map branch_tree l.branches))

abbrev pub invariant-items_hold_look-loop-item : goal.invariant-items_hold_look-loop-item
invariant-items_hold_look-loop-item l = (l.held || some_look (items_of (map pat_of (drop l.item-index l.items)))) ≡ some_look (items_of (map pat_of l.items))
