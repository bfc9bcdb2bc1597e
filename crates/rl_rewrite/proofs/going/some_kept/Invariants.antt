-- Whether one of the branches so far is kept, or one of the remaining branches.
use Rattle.std.proofs.Common.{◌≡◌, ◌||◌, drop, map}
use Rattle.rl_syntax.specs.PatTree.{branches_of}
use Rattle.rl_syntax.specs.Counting.{branch_tree}
use Rattle.rl_pattern.specs.Suggested.{among, some_kept}
use Rattle.rl_rewrite.proofs.going.some_kept.Given as goal

abbrev pub invariant-loop-branch : goal.invariant-loop-branch
invariant-loop-branch l = (l.kept || some_kept (among l.dropped) (branches_of (map branch_tree (drop l.branch-index l.branches)))) ≡ some_kept (among l.dropped) (branches_of (map branch_tree l.branches))
