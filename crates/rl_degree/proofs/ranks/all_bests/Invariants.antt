use Rattle.rl_graph.specs.Graph.{edges_of}
use Rattle.rl_degree.specs.internal.Splits.{AreMarks}
use Rattle.rl_degree.specs.internal.Ranks.{AreBests}
use Rattle.rl_degree.proofs.ranks.all_bests.Given as goal

abbrev pub invariant-loop-component : goal.invariant-loop-component
invariant-loop-component l = record {
  bests : AreBests (edges_of l.g) l.g.states l.table.components l.component l.bests.items;
  marks : AreMarks l.g l.table l.marks.items;
}
