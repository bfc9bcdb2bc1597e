use Rattle.rl_numbers.specs.internal.Inner.{IsBareFrom, IsInnerUpTo}
use Rattle.rl_numbers.specs.Level.{table_of}
use Rattle.rl_numbers.proofs.leveling.add_level_from.Given as goal

abbrev pub invariant-loop-letter : goal.invariant-loop-letter
invariant-loop-letter l = record {
  so_far : IsInnerUpTo l.g (table_of l.ranks) l.state l.letter l.inner;
  bare : IsBareFrom l.state l.letter l.inner;
}
