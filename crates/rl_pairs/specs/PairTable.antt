-- The mathematical model of a graph of live pairs. A pair is a state of an automaton with the set of the states that were
-- tried before it. A rest is a list of letters followed by the end letter; a set refuses it if none of its members accepts it.
use Rattle.std.specs.Prelude.{[], ◌≡◌, ℕ, List, length, slice_index_or}
use Rattle.rl_graph.specs.Graph.{Graph, edges_of}
use Rattle.rl_pairs.specs.declared.pair.Pair.{Pair}
use Rattle.rl_pairs.specs.LivePairs.{first_pair}

-- A multigraph of moves, and three lists by the numbers of its states: the pair of each state, a word that leads to the pair,
-- and a rest that the set of the pair refuses. `IsFull` says that the lists have an item for each state.
pub record PairTable : Type 0 where
  pub graph : Graph
  pub pairs : List Pair
  pub leads : List (List ℕ)
  pub rests : List (List ℕ)

-- The moves of the graph: a function from a state and a letter to the list of the targets.
abbrev pub moves_in : PairTable → ℕ → ℕ → List ℕ
moves_in g = edges_of g.graph

-- The pair with the number `i`, or the first pair if there is none.
abbrev pub pair_in : PairTable → ℕ → Pair
pair_in g i = slice_index_or g.pairs i first_pair

-- The lead of the pair with the number `i`, that is, a word that leads to it. It is empty if there is no such pair.
abbrev pub lead_in : PairTable → ℕ → List ℕ
lead_in g i = slice_index_or g.leads i []

-- The rest of the pair with the number `i`, that is, a rest that its set refuses. It is empty if there is no such pair.
abbrev pub rest_in : PairTable → ℕ → List ℕ
rest_in g i = slice_index_or g.rests i []

-- Each of the three lists has one item for each state.
pub record IsFull (g : PairTable) : Type 0 where
  pub pairs : length g.pairs ≡ g.graph.states
  pub leads : length g.leads ≡ g.graph.states
  pub rests : length g.rests ≡ g.graph.states
