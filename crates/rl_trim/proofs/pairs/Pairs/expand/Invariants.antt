use Rattle.std.proofs.Common.{◌≡◌}
use Rattle.rl_trim.specs.internal.Quick.{AreTrims}
use Rattle.rl_trim.proofs.PairLaws.{IsExpanding}
use Rattle.rl_trim.proofs.pairs.Pairs.expand.Given as goal

abbrev pub invariant-loop-letter : goal.invariant-loop-letter
invariant-loop-letter l = record {
  expanding : IsExpanding l.branch.automaton.now l.branch.keep.now l.fn.walk l.walk l.self.count l.fn.self.keys.keys l.self.keys.keys l.place l.letter;
  count : l.self.count ≡ l.fn.self.count;
  trims : AreTrims l.branch.keep.now l.walk l.self.trims;
}
