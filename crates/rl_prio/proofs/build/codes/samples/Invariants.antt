use Rattle.std.proofs.Common.{◌≡◌, take}
use Rattle.rl_prio.proofs.build.codes.samples.Given as goal

abbrev pub invariant-loop-letter : goal.invariant-loop-letter
invariant-loop-letter l = l.codes.items ≡ take l.letter l.letters.samples
