use Rattle.rl_graph.specs.Graph.{edges_of}
use Rattle.rl_degree.specs.internal.Reached.{AreReachedUpTo}
use Rattle.rl_degree.proofs.reached.reached_rows.Given as goal

abbrev pub invariant-loop-component : goal.invariant-loop-component
invariant-loop-component l = AreReachedUpTo (edges_of l.g) l.g.states l.components l.component l.rows.items
