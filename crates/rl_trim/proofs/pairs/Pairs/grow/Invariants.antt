use Rattle.std.proofs.Common.{◌≡◌, ◌≤◌, length}
use Rattle.rl_trim.specs.internal.Quick.{IsGrown, ArePairs, AreDone, AreTrims}
use Rattle.rl_trim.proofs.pairs.Pairs.grow.Given as goal

abbrev pub invariant-loop-place : goal.invariant-loop-place
invariant-loop-place l = record {
  grown : IsGrown l.branch.automaton.now l.fn.walk l.walk;
  pairs : ArePairs l.branch.automaton.now l.branch.keep.now l.walk l.self.count l.self.keys.keys;
  done : AreDone l.branch.automaton.now l.branch.keep.now l.walk l.self.count l.self.keys.keys l.place;
  inside : l.place ≤ length l.self.keys.keys;
  count : l.self.count ≡ l.fn.self.count;
  trims : AreTrims l.branch.keep.now l.walk l.self.trims;
}
