use Rattle.std.proofs.Common.{ℕ, ◌<◌}
use Rattle.rl_graph.specs.Paths.{Has}
use Rattle.rl_graph.specs.Graph.{edges_of}
use Rattle.rl_degree.specs.internal.Entries.{HasLetter, AreEntriesUpTo}
use Rattle.rl_degree.proofs.entries.mark_moves.Given as goal

abbrev pub invariant-loop-letter : goal.invariant-loop-letter
invariant-loop-letter l = record {
  so_far : AreEntriesUpTo l.g l.state l.entries.items;
  own : (k m : ℕ) → k < l.letter → Has m (edges_of l.g l.state k) → HasLetter l.entries.items m k;
}
