use Rattle.std.proofs.Common.{◌≡◌, ◌<◌, ℕ, []}
use Rattle.rl_graph.specs.Graph.{edges_of}
use Rattle.rl_graph.proofs.marked.has_moves.Given as goal

abbrev pub invariant-loop-state : goal.invariant-loop-state
invariant-loop-state l = (q : ℕ) → q < l.state → edges_of l.g q l.letter ≡ []
