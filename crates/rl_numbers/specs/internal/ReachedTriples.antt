-- For the contracts of private functions: the triples that are reached in the product of three copies of a graph. In a
-- graph with `n` states, the code of the triple of `p`, `q` and `r` is `(p * n + q) * n + r`. A part is a strongly
-- connected component.
use Rattle.std.specs.Prelude.{◌≡◌, ℕ, ◌*◌, ◌<◌, ◌≤◌, List, length}
use Rattle.rl_graph.specs.Graph.{Graph, edges_of, IsWhole}
use Rattle.rl_graph.specs.Parts.{PartTable, IsParts}
use Rattle.rl_graph.specs.Paths.{Each}
use Rattle.rl_numbers.specs.Listed.{listing}
use Rattle.rl_numbers.specs.Reached.{IsReach}
use Rattle.rl_numbers.specs.Triples.{triple_moves, among_moves}
use Rattle.rl_numbers.specs.declared.triple.Triple.{Triple}
use Rattle.rl_numbers.specs.declared.numbering.TheConstants.{MOST_TRIPLES}

-- Holds if the list has exactly the triples that are reached in the product from the triples with the codes `starts`,
-- each once and at most 1,000,000. The number of a triple is the number of its part in the graph of these triples, in
-- which each `(p, q, q)` also has a move to `(p, p, q)`.
pub record AreReachedTriples (h : Graph) (starts : List ℕ) (l : List Triple) : Type 0 where
  pub keys : List ℕ
  pub parts : PartTable
  pub whole : IsWhole h
  pub reach : IsReach (triple_moves (edges_of h) h.states) starts keys
  pub few : length keys ≤ MOST_TRIPLES
  pub inside : Each (λ x. x < h.states * h.states * h.states) keys
  pub are_parts : IsParts (among_moves h keys) (length keys) parts
  pub same : l ≡ listing parts h.states 0 keys
