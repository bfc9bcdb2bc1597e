use Rattle.std.proofs.Common.{◌≡◌, ◌≤◌, length, take}
use Rattle.rl_syntax.specs.declared.limits.TheConstants.{MOST_MOVES}
use Rattle.rl_prio.specs.internal.Attempts.{ends_replaced}
use Rattle.rl_prio.proofs.build.attempts.with_ends_replaced.Given as goal

abbrev pub invariant-loop-attempt : goal.invariant-loop-attempt
invariant-loop-attempt l = (l.list ≡ ends_replaced (take l.attempt-index l.attempts) l.further) × (length l.list ≤ MOST_MOVES)
