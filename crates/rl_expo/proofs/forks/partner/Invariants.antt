use Rattle.std.proofs.Common.{ℕ, ◌<◌, get_or}
use Rattle.rl_kernel.specs.Seats.{seats_of}
use Rattle.rl_expo.specs.internal.Meeting.{Meets}
use Rattle.rl_expo.proofs.forks.partner.Given as goal

abbrev pub invariant-loop-first : goal.invariant-loop-first
invariant-loop-first l =
    (i : ℕ) → i < l.first → Meets (seats_of l.kernel) l.parts l.own (get_or l.row i 0) (get_or l.row l.second 0) → ⊥
