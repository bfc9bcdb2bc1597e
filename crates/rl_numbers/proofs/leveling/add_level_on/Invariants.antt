use Rattle.rl_numbers.specs.internal.Inner.{IsInnerUpTo}
use Rattle.rl_kernel.proofs.InnerLaws.{IsFilling}
use Rattle.rl_numbers.proofs.InnerLaws.{IsRowUpTo}
use Rattle.rl_numbers.specs.Level.{table_of}
use Rattle.rl_numbers.proofs.leveling.add_level_on.Given as goal

abbrev pub invariant-loop-place : goal.invariant-loop-place
invariant-loop-place l = record {
  so_far : IsInnerUpTo l.g (table_of l.ranks) l.state l.letter l.inner;
  row : IsRowUpTo l.g (table_of l.ranks) l.state l.letter l.place l.inner;
  filling : IsFilling l.state l.letter l.place l.inner;
}
