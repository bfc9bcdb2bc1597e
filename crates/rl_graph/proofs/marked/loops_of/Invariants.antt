use Rattle.rl_graph.specs.Graph.{edges_of}
use Rattle.rl_graph.specs.internal.Marked.{AreLoops}
use Rattle.rl_graph.proofs.marked.loops_of.Given as goal

abbrev pub invariant-loop-state : goal.invariant-loop-state
invariant-loop-state l = AreLoops (edges_of l.g) l.state l.loops.items
