use Rattle.std.proofs.Common.{ℕ, ◌<◌}
use Rattle.rl_kernel.specs.Seats.{seats_of}
use Rattle.rl_expo.specs.internal.Meeting.{NoneMeets, AreSearched}
use Rattle.rl_expo.proofs.forks.fork_from.Given as goal

abbrev pub invariant-loop-letter : goal.invariant-loop-letter
invariant-loop-letter l =
    ((c : ℕ) → c < l.letter → NoneMeets l.g (seats_of l.kernel) l.parts l.place c)
    × AreSearched l.g (seats_of l.kernel) l.parts l.searched.items
