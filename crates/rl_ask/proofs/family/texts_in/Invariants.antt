-- The codes of the strings so far.
use Rattle.std.proofs.Common.{◌≡◌, map, take}
use Rattle.rl_ask.proofs.FamilyLemmas.{codes_seen}
use Rattle.rl_ask.proofs.family.texts_in.Given as goal

abbrev pub invariant-loop-index : goal.invariant-loop-index
invariant-loop-index l = l.texts ≡ map codes_seen (take l.index l.values)
