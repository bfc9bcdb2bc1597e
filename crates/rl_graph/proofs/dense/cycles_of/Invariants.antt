use Rattle.rl_graph.specs.internal.Dense.{AreCut}
use Rattle.rl_graph.proofs.dense.cycles_of.Given as goal

abbrev pub invariant-loop-state : goal.invariant-loop-state
invariant-loop-state l = AreCut l.parts l.state l.cycles.items
