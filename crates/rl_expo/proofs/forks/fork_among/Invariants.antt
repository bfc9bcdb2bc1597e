use Rattle.std.proofs.Common.{ℕ, ◌<◌}
use Rattle.rl_kernel.specs.Seats.{seats_of}
use Rattle.rl_expo.specs.internal.Meeting.{NoneMeets, AreSearched}
use Rattle.rl_expo.proofs.forks.fork_among.Given as goal

abbrev pub invariant-loop-place : goal.invariant-loop-place
invariant-loop-place l =
    ((i c : ℕ) → i < l.place → c < l.g.letters → NoneMeets l.g (seats_of l.kernel) l.parts i c)
    × AreSearched l.g (seats_of l.kernel) l.parts l.searched.items
