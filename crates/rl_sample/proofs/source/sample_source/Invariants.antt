use Rattle.std.proofs.Common.{◌≡◌, ℕ, ◌<◌, ◌^◌, List}
use Rattle.rl_sample.specs.Generator.{source_of, value_at}
use Rattle.rl_sample.proofs.source.sample_source.Given as goal

pub record SoFar (seed lines value : ℕ) (text : List ℕ) : Type 0 where
  pub value_is : value ≡ value_at seed lines
  pub below : value < 2 ^ 31
  pub text_is : text ≡ source_of seed lines

abbrev pub invariant-loop-line : goal.invariant-loop-line
invariant-loop-line l = SoFar l.seed l._line l.value l.text.items
