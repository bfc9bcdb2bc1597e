use Rattle.rl_numbers.specs.internal.Inner.{IsBareFrom, IsInnerUpTo}
use Rattle.rl_numbers.specs.Level.{table_of}
use Rattle.rl_numbers.proofs.leveling.inner_graph.Given as goal

abbrev pub invariant-loop-state : goal.invariant-loop-state
invariant-loop-state l = record {
  so_far : IsInnerUpTo l.g (table_of l.ranks) l.state 0 l.inner;
  bare : IsBareFrom l.state 0 l.inner;
}
