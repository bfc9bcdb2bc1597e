-- The number that the digits so far spell, which is small.
use Rattle.std.proofs.Common.{◌≡◌, take}
use Rattle.rl_pystr.specs.Escapes.{number_of}
use Rattle.rl_pystr.proofs.Numbers.{IsSmall}
use Rattle.rl_pystr.proofs.digits.number_of.Given as goal

abbrev pub invariant-loop-digit : goal.invariant-loop-digit
invariant-loop-digit l = (l.number ≡ number_of l.base (take l.digit-index l.digits)) × IsSmall l.digit-index l.number
