use Rattle.rl_graph.specs.internal.Dense.{AreRanked}
use Rattle.rl_graph.proofs.dense.ranked.Given as goal

abbrev pub invariant-loop-state : goal.invariant-loop-state
invariant-loop-state l = AreRanked l.parts l.ranks l.state l.numbers.items
