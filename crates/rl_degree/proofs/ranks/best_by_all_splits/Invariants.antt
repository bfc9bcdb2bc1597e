use Rattle.std.proofs.Common.{◌≡◌, ◌<◌, ◌≤◌, ◌-◌}
use Rattle.rl_graph.specs.Graph.{edges_of}
use Rattle.rl_graph.specs.Parts.{number_of}
use Rattle.rl_degree.specs.internal.Splits.{AreMarks}
use Rattle.rl_degree.specs.internal.Ranks.{IsGoodIn, BeatsSplitsIn}
use Rattle.rl_degree.proofs.ranks.best_by_all_splits.Given as goal

abbrev pub invariant-loop-state : goal.invariant-loop-state
invariant-loop-state l = record {
  within : l.state ≤ l.g.states;
  member : l.state < l.g.states → number_of l.table.components l.state ≡ l.component;
  good : IsGoodIn (edges_of l.g) l.g.states l.table.components l.bests l.component l.best;
  least : l.initial.best.rank ≤ l.best.rank;
  splits : BeatsSplitsIn (edges_of l.g) l.g.states l.state l.table.components l.bests l.component l.best.rank;
  marks : AreMarks l.g l.table l.marks.items;
}

abbrev pub decreases-loop-state : goal.decreases-loop-state
decreases-loop-state l = l.g.states - l.state
