use Rattle.rl_trim.specs.internal.Quick.{NoneApart}
use Rattle.rl_trim.proofs.pairs.Pairs.apart.Given as goal

abbrev pub invariant-loop-place : goal.invariant-loop-place
invariant-loop-place l = NoneApart l.branch.automaton.now l.walk l.self.keys.keys l.place
