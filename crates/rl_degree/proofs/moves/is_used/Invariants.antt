use Rattle.std.proofs.Common.{ℕ, ◌<◌, ◌≡◌, length}
use Rattle.rl_graph.specs.Graph.{edges_of}
use Rattle.rl_degree.proofs.moves.is_used.Given as goal

abbrev pub invariant-loop-state : goal.invariant-loop-state
invariant-loop-state l = (q : ℕ) → q < l.state → length (edges_of l.g q l.letter) ≡ 0
