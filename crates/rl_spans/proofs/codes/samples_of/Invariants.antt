use Rattle.std.proofs.Common.{◌≡◌, take}
use Rattle.rl_spans.proofs.codes.samples_of.Given as goal

abbrev pub invariant-loop-letter : goal.invariant-loop-letter
invariant-loop-letter l = l.codes ≡ take l.letter l.letters.samples
