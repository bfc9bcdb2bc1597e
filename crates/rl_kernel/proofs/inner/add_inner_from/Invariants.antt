use Rattle.rl_kernel.specs.Seats.{seats_of}
use Rattle.rl_kernel.specs.internal.Growing.{IsBareFrom, IsInnerUpTo}
use Rattle.rl_kernel.proofs.inner.add_inner_from.Given as goal

abbrev pub invariant-loop-letter : goal.invariant-loop-letter
invariant-loop-letter l = record {
  so_far : IsInnerUpTo l.g l.components (seats_of l.kernel) l.place l.letter l.inner;
  bare : IsBareFrom l.place l.letter l.inner;
}
