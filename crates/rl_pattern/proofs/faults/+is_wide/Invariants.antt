-- Whether the body of each branch so far is of the width, and of each remaining one.
use Rattle.std.proofs.Common.{◌≡◌, ◌&&◌, drop, map}
use Rattle.rl_pattern.specs.internal.Views.{branch_of}
use Rattle.rl_pattern.specs.Tree as t
use Rattle.rl_pattern.specs.Found.{all_wide}
use Rattle.rl_pattern.proofs.faults.+is_wide.Given as goal

abbrev pub invariant-all_wide-loop-branch : goal.invariant-all_wide-loop-branch
invariant-all_wide-loop-branch l = (l.all && all_wide l.wide (t.branches (map branch_of (drop l.branch-index l.branches)))) ≡ all_wide l.fn.wide (t.branches (map branch_of l.branches))
