use Rattle.std.proofs.Common.{ℕ, ◌<◌, ◌≤◌}
use Rattle.rl_graph.specs.Graph.{edges_of}
use Rattle.rl_degree.specs.internal.Ranks.{IsGood, BeatsLetter}
use Rattle.rl_degree.proofs.ranks.best_by_moves.Given as goal

abbrev pub invariant-loop-letter : goal.invariant-loop-letter
invariant-loop-letter l = record {
  good : IsGood (edges_of l.g) l.g.states l.components l.bests l.state l.best;
  least : l.initial.best.rank ≤ l.best.rank;
  letters : (c : ℕ) → c < l.letter → BeatsLetter (edges_of l.g) l.components l.bests l.state c l.best.rank;
}
