-- What the branches so far hold, and what the remaining ones hold.
use Rattle.std.proofs.Common.{◌≡◌, ◌||◌, ℕ, drop, map}
use Rattle.std.specs.Prelude.{Some}
use Rattle.rl_ranges.specs.Codes.{has}
use Rattle.rl_pattern.specs.internal.Views.{branch_of}
use Rattle.rl_pattern.specs.Tree as t
use Rattle.rl_pattern.specs.Looks.{some_beside}
use Rattle.rl_pattern.proofs.leaf_set.+body_set.Given as goal

abbrev pub invariant-branches_set-loop-branch : goal.invariant-branches_set-loop-branch
invariant-branches_set-loop-branch l =
    (x : ℕ) → (has l.set x || some_beside l.fn.universe (t.branches (map branch_of (drop l.branch-index l.branches))) (Some x)) ≡ some_beside l.fn.universe (t.branches (map branch_of l.branches)) (Some x)
