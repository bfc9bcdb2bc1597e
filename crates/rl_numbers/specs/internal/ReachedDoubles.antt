-- For the contracts of private functions: the doubles that are reached in the product of a graph with itself. In a
-- graph with `n` states, the code of the double of `p` and `q` is `p * n + q`.
use Rattle.std.specs.Prelude.{◌≡◌, ℕ, ◌*◌, ◌<◌, List}
use Rattle.rl_graph.specs.Graph.{Graph, edges_of}
use Rattle.rl_graph.specs.Paths.{Each}
use Rattle.rl_graph.specs.Parts.{PartTable, IsParts}
use Rattle.rl_graph.specs.Product.{pair_moves}
use Rattle.rl_numbers.specs.declared.double.Double.{Double}
use Rattle.rl_numbers.specs.Reached.{IsReach}
use Rattle.rl_numbers.specs.internal.Diagonal.{doubles_in}

-- Holds if the list has exactly the doubles that are reached in the product from the doubles with the codes `starts`,
-- each once and with the number of its part in the product.
pub record AreReachedDoubles (g : Graph) (starts : List ℕ) (l : List Double) : Type 0 where
  pub keys : List ℕ
  pub parts : PartTable
  pub reach : IsReach (pair_moves (edges_of g) g.states) starts keys
  pub inside : Each (λ x. x < g.states * g.states) keys
  pub are_parts : IsParts (pair_moves (edges_of g) g.states) (g.states * g.states) parts
  pub same : l ≡ doubles_in parts g.states keys
