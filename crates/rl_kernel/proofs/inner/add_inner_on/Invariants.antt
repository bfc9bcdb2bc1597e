use Rattle.rl_kernel.specs.Seats.{seats_of}
use Rattle.rl_kernel.specs.internal.Growing.{IsInnerUpTo}
use Rattle.rl_kernel.proofs.InnerLaws.{IsRowUpTo, IsFilling}
use Rattle.rl_kernel.proofs.inner.add_inner_on.Given as goal

abbrev pub invariant-loop-number : goal.invariant-loop-number
invariant-loop-number l = record {
  so_far : IsInnerUpTo l.g l.components (seats_of l.kernel) l.place l.letter l.inner;
  row : IsRowUpTo l.g l.components (seats_of l.kernel) l.place l.letter l.number l.inner;
  filling : IsFilling l.place l.letter l.number l.inner;
}
