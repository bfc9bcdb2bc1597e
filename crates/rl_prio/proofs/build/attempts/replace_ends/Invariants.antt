use Rattle.std.proofs.Common.{ℕ, ◌<◌, ◌≤◌, [], length, get_or}
use Rattle.rl_syntax.specs.declared.limits.TheConstants.{MOST_MOVES}
use Rattle.rl_prio.specs.internal.Attempts.{AreReplaced}
use Rattle.rl_prio.proofs.build.attempts.replace_ends.Given as goal

abbrev pub invariant-loop-place : goal.invariant-loop-place
invariant-loop-place l =
    AreReplaced l.further l.from l.place l.initial.lists.items l.lists.items × ((k : ℕ) → l.from ≤ k → k < l.place → length (get_or l.lists.items k []) ≤ MOST_MOVES)
