use Rattle.std.proofs.Common.{◌≡◌, take}
use Rattle.rl_numbers.specs.internal.Diagonal.{doubles_in}
use Rattle.rl_numbers.proofs.diagonal.listed_doubles.Given as goal

abbrev pub invariant-loop-i : goal.invariant-loop-i
invariant-loop-i l = l.doubles ≡ doubles_in l.parts l.states (take l.i l.keys.keys)
