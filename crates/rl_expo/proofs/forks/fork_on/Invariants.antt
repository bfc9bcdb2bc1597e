use Rattle.std.proofs.Common.{ℕ, ◌<◌, get_or}
use Rattle.rl_kernel.specs.Seats.{seats_of}
use Rattle.rl_expo.specs.internal.Meeting.{Meets}
use Rattle.rl_expo.proofs.forks.fork_on.Given as goal

abbrev pub invariant-loop-second : goal.invariant-loop-second
invariant-loop-second l =
    (i j : ℕ) → i < j → j < l.second → Meets (seats_of l.kernel) l.parts l.own (get_or l.row i 0) (get_or l.row j 0) → ⊥
