use Rattle.rl_kernel.specs.Seats.{seats_of}
use Rattle.rl_kernel.specs.internal.Growing.{IsBareFrom, IsInnerUpTo}
use Rattle.rl_kernel.proofs.inner.inner_graph.Given as goal

abbrev pub invariant-loop-place : goal.invariant-loop-place
invariant-loop-place l = record {
  so_far : IsInnerUpTo l.g l.components (seats_of l.kernel) l.place 0 l.inner;
  bare : IsBareFrom l.place 0 l.inner;
}
