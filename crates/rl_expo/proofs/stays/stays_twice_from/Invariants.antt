use Rattle.std.proofs.Common.{ℕ, ◌<◌}
use Rattle.rl_expo.specs.internal.Search.{NoneStay}
use Rattle.rl_expo.proofs.stays.stays_twice_from.Given as goal

abbrev pub invariant-loop-letter : goal.invariant-loop-letter
invariant-loop-letter l = (k : ℕ) → k < l.letter → NoneStay l.g l.components l.state k
