-- Whether the body of some branch so far holds where there is no character, or of some remaining one.
use Rattle.std.proofs.Common.{◌≡◌, ◌||◌, drop, map}
use Rattle.std.specs.Prelude.{None}
use Rattle.rl_ranges.specs.declared.universe.Universe.{Universe}
use Rattle.rl_pattern.specs.internal.Views.{branch_of}
use Rattle.rl_pattern.specs.Tree as t
use Rattle.rl_pattern.specs.Looks.{some_beside}
use Rattle.rl_pattern.proofs.leaf_set.+holds_at_end.Given as goal

abbrev pub invariant-some_at_end-loop-branch : goal.invariant-some_at_end-loop-branch
invariant-some_at_end-loop-branch l = (u : Universe) → (l.some || some_beside u (t.branches (map branch_of (drop l.branch-index l.branches))) None) ≡ some_beside u (t.branches (map branch_of l.branches)) None
