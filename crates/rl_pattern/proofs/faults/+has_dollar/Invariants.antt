-- Whether the body of some branch so far has a `$` without MULTILINE, or of some remaining one.
use Rattle.std.proofs.Common.{◌≡◌, ◌||◌, drop, map}
use Rattle.rl_pattern.specs.internal.Views.{branch_of}
use Rattle.rl_pattern.specs.Tree as t
use Rattle.rl_pattern.specs.Found.{some_dollar}
use Rattle.rl_pattern.proofs.faults.+has_dollar.Given as goal

abbrev pub invariant-some_dollar-loop-branch : goal.invariant-some_dollar-loop-branch
invariant-some_dollar-loop-branch l = (l.some || some_dollar (t.branches (map branch_of (drop l.branch-index l.branches)))) ≡ some_dollar (t.branches (map branch_of l.branches))
