use Rattle.std.proofs.Common.{◌<◌, ℕ}
use Rattle.rl_graph.specs.Graph.{edges_of}
use Rattle.rl_graph.specs.Paths.{Has}
use Rattle.rl_graph.proofs.marked.has_loop.Given as goal

abbrev pub invariant-loop-letter : goal.invariant-loop-letter
invariant-loop-letter l = (k : ℕ) → k < l.letter → Has l.state (edges_of l.g l.state k) → ⊥
