use Rattle.rl_trim.specs.internal.Quick.{AreTrims}
use Rattle.rl_trim.proofs.ApartLaws.{IsRunning}
use Rattle.rl_trim.proofs.word.leads_apart.Given as goal

abbrev pub invariant-loop-letter : goal.invariant-loop-letter
invariant-loop-letter l = record {
  running : IsRunning l.branch.automaton.now l.branch.keep.now l.fn.walk l.walk l.word l.letter-index l.key;
  trims : AreTrims l.branch.keep.now l.walk l.trims;
}
