use Rattle.std.proofs.Common.{◌≡◌, ◌≤◌, ◌++◌, length, map, take}
use Rattle.rl_syntax.specs.declared.limits.TheConstants.{MOST_MOVES}
use Rattle.rl_prio.specs.internal.Attempts.{behind}
use Rattle.rl_prio.proofs.build.attempts.put_behind.Given as goal

abbrev pub invariant-loop-attempt : goal.invariant-loop-attempt
invariant-loop-attempt l =
    (l.list ≡ l.initial.list ++ map (behind l.guards) (take l.attempt-index l.further)) × (length l.initial.list ≤ MOST_MOVES → length l.list ≤ MOST_MOVES)
