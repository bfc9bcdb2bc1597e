use Rattle.std.proofs.Common.{◌≡◌, ◌++◌, replicate}
use Rattle.rl_syntax.specs.PatTree.{pat_of}
use Rattle.rl_syntax.specs.Lowering.{in_turn, one_of, options, tail_of, lowered}
use Rattle.rl_syntax.specs.Counting.{trees_of_option}
use Rattle.rl_syntax.proofs.PartSizes.{item_trees, branch_trees}
use Rattle.rl_syntax.proofs.TreeJoins.{joined}
use Rattle.rl_syntax.proofs.lowering.+lowering.Given as goal

abbrev pub invariant-lower_branches-loop-branch : goal.invariant-lower_branches-loop-branch
invariant-lower_branches-loop-branch l = one_of (branch_trees l.branch-iterator.iter.rest.now ++ trees_of_option l.rest) ≡ one_of (branch_trees l.branches)

abbrev pub invariant-lower_items-loop-item : goal.invariant-lower_items-loop-item
invariant-lower_items-loop-item l = in_turn (item_trees l.item-iterator.iter.rest.now ++ trees_of_option l.rest) ≡ in_turn (item_trees l.items)

abbrev pub invariant-lower_options-loop : goal.invariant-lower_options-loop
invariant-lower_options-loop l = trees_of_option l.rest ≡ options l.greedy (lowered (pat_of l.body)) l.counter

abbrev pub invariant-lower_repeat-loop : goal.invariant-lower_repeat-loop
invariant-lower_repeat-loop l = trees_of_option l.rest ≡ joined (replicate l.counter (lowered (pat_of l.body)) ++ tail_of l.greedy (lowered (pat_of l.body)) l.min l.fn.max)
