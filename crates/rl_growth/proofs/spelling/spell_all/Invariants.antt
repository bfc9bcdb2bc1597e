use Rattle.std.proofs.Common.{◌≡◌, map, take}
use Rattle.rl_pairs.specs.Families.{spelled}
use Rattle.rl_growth.proofs.spelling.spell_all.Given as goal

abbrev pub invariant-loop-word : goal.invariant-loop-word
invariant-loop-word l = l.texts ≡ map (spelled l.a) (take l.word-index l.words)
