-- For the contracts of private functions: the graph that is built from the live pairs found. A pair is a state of the
-- automaton with a set: the states that were tried before it. A rest is a list of letters followed by the end letter; a set
-- refuses it if none of its members accepts it. A live pair is the first pair, or a pair whose set refuses some rest and to
-- which a live pair has a move. Each has a lead, which is a word that leads to it, and a rest that its set refuses.
use Rattle.std.specs.Prelude.{◌≡◌, ℕ, length, map}
use Rattle.rl_sets.specs.Walk.{Walk}
use Rattle.rl_graph.specs.Graph.{Graph}
use Rattle.rl_pairs.specs.internal.Finding.{Found, pair_of}
use Rattle.rl_pairs.specs.PairTable.{PairTable}

-- The multigraph with the pairs found as its states, the given number of letters, and the rows found, one for each pair and
-- letter.
abbrev pub graph_of_rows : Found → ℕ → Graph
graph_of_rows f letters = record { states = length f.keys; letters = letters; rows = f.rows }

-- The graph `g` is made of the pairs found: their moves, pairs, leads and rests.
pub record IsBuilt (w : Walk) (f : Found) (letters : ℕ) (g : PairTable) : Type 0 where
  pub graph : g.graph ≡ graph_of_rows f letters
  pub pairs : g.pairs ≡ map (pair_of w) f.keys
  pub leads : g.leads ≡ f.leads
  pub rests : g.rests ≡ f.rests
