use Rattle.std.proofs.Common.{◌≡◌, ◌<◌, ◌≤◌, ◌-◌}
use Rattle.rl_graph.specs.Graph.{edges_of}
use Rattle.rl_graph.specs.Parts.{number_of}
use Rattle.rl_degree.specs.internal.Ranks.{IsGoodIn, BeatsMovesIn}
use Rattle.rl_degree.proofs.ranks.best_by_all_moves.Given as goal

abbrev pub invariant-loop-state : goal.invariant-loop-state
invariant-loop-state l = record {
  within : l.state ≤ l.g.states;
  member : l.state < l.g.states → number_of l.components l.state ≡ l.component;
  good : IsGoodIn (edges_of l.g) l.g.states l.components l.bests l.component l.best;
  moves : BeatsMovesIn (edges_of l.g) l.state l.components l.bests l.component l.best.rank;
}

abbrev pub decreases-loop-state : goal.decreases-loop-state
decreases-loop-state l = l.g.states - l.state
