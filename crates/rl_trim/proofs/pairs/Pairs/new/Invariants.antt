use Rattle.std.proofs.Common.{◌≡◌}
use Rattle.rl_trim.specs.Reached.{IsClosedTo}
use Rattle.rl_trim.specs.internal.Noting.{AreTouched}
use Rattle.rl_trim.specs.internal.Quick.{IsGrown, AreRooted, AreTrims}
use Rattle.rl_trim.proofs.pairs.Pairs.new.Given as goal

abbrev pub invariant-loop-set : goal.invariant-loop-set
invariant-loop-set l = record {
  grown : IsGrown l.branch.automaton.now l.fn.walk l.walk;
  closed : IsClosedTo l.branch.automaton.now l.walk l.count l.count;
  touched : AreTouched l.branch.keep.now l.walk l.count l.touched;
  rooted : AreRooted l.branch.keep.now l.walk l.set l.pairs.keys.keys;
  count : l.pairs.count ≡ l.count;
  trims : AreTrims l.branch.keep.now l.walk l.pairs.trims;
}
