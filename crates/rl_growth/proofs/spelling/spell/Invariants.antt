use Rattle.std.proofs.Common.{◌≡◌, take}
use Rattle.rl_pairs.specs.Families.{spelled}
use Rattle.rl_growth.proofs.spelling.spell.Given as goal

abbrev pub invariant-loop-letter : goal.invariant-loop-letter
invariant-loop-letter l = l.codes ≡ spelled l.a (take l.letter-index l.word)
