use Rattle.std.proofs.Common.{◌≤◌}
use Rattle.rl_graph.specs.Graph.{edges_of}
use Rattle.rl_degree.specs.internal.Ranks.{IsGood}
use Rattle.rl_degree.proofs.RankLaws.{BeatsFirst}
use Rattle.rl_degree.proofs.ranks.best_by_letter.Given as goal

abbrev pub invariant-loop-place : goal.invariant-loop-place
invariant-loop-place l = record {
  good : IsGood (edges_of l.g) l.g.states l.components l.bests l.state l.best;
  least : l.initial.best.rank ≤ l.best.rank;
  first : BeatsFirst l.components l.bests l.state (edges_of l.g l.state l.letter) l.place l.best.rank;
}
