use Rattle.std.proofs.Common.{ℕ, ◌≡◌, ◌<◌, length, get_or}
use Rattle.rl_graph.specs.Parts.{number_of}
use Rattle.rl_degree.specs.internal.Ranks.{best_at}
use Rattle.rl_degree.proofs.ranks.ranks_of.Given as goal

abbrev pub invariant-loop-state : goal.invariant-loop-state
invariant-loop-state l = record {
  size : length l.ranks ≡ l.state;
  right : (q : ℕ) → q < l.state → get_or l.ranks q 0 ≡ (best_at l.bests (number_of l.components q)).rank;
}
