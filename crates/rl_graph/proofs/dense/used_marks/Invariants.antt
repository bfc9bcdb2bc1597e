use Rattle.rl_graph.specs.internal.Dense.{AreUsed}
use Rattle.rl_graph.proofs.dense.used_marks.Given as goal

abbrev pub invariant-loop-state : goal.invariant-loop-state
invariant-loop-state l = AreUsed l.parts l.size l.state l.marks.items
