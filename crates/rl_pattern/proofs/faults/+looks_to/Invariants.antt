-- Whether the body of each branch so far looks to the side, and of each remaining one.
use Rattle.std.proofs.Common.{◌≡◌, ◌&&◌, drop, map}
use Rattle.rl_pattern.specs.internal.Views.{branch_of}
use Rattle.rl_pattern.specs.Tree as t
use Rattle.rl_pattern.specs.Found.{all_look_to}
use Rattle.rl_pattern.proofs.faults.+looks_to.Given as goal

abbrev pub invariant-all_look_to-loop-branch : goal.invariant-all_look_to-loop-branch
invariant-all_look_to-loop-branch l =
    (l.all && all_look_to l.text l.own l.behind (t.branches (map branch_of (drop l.branch-index l.branches)))) ≡ all_look_to l.fn.text l.fn.own l.fn.behind (t.branches (map branch_of l.branches))
