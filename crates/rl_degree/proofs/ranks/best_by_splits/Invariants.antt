use Rattle.std.proofs.Common.{◌≤◌}
use Rattle.rl_graph.specs.Graph.{edges_of}
use Rattle.rl_degree.specs.internal.Splits.{AreMarks}
use Rattle.rl_degree.specs.internal.Ranks.{IsGood}
use Rattle.rl_degree.proofs.RankLaws.{BeatsListed}
use Rattle.rl_degree.proofs.ranks.best_by_splits.Given as goal

abbrev pub invariant-loop-place : goal.invariant-loop-place
invariant-loop-place l = record {
  good : IsGood (edges_of l.g) l.g.states l.table.components l.bests l.state l.best;
  least : l.initial.best.rank ≤ l.best.rank;
  splits : BeatsListed (edges_of l.g) l.table.components l.bests l.state l.table.kernel.states.items l.place l.best.rank;
  marks : AreMarks l.g l.table l.marks.items;
}
