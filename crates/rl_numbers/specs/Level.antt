-- The moves of a graph that lead to states of the same rank, and the triples of states for given codes. In a graph with
-- `n` states, the code of the triple of `p`, `q` and `r` is `(p * n + q) * n + r`.
use Rattle.std.specs.Prelude.{◌≡◌, ℕ, ◌/◌, ◌%◌, ◌↔◌, List, []}
use Rattle.rl_graph.specs.Graph.{Graph, edges_of}
use Rattle.rl_graph.specs.Paths.{Has}
use Rattle.rl_graph.specs.Parts.{PartTable}
use Rattle.rl_numbers.specs.Closed.{Three}

-- Holds if the graph `h` has `n` states and a move from `q` to `m` on a letter if and only if `next` has such a move
-- and `m` has the rank of `q`. The number of parallel moves can differ.
pub record IsLevelOf (next : ℕ → ℕ → List ℕ) (n : ℕ) (rank : ℕ → ℕ) (h : Graph) : Type 0 where
  pub states : h.states ≡ n
  pub kept : (q l m : ℕ) → Has m (edges_of h q l) ↔ (Has m (next q l) × (rank m ≡ rank q))

-- A table of parts in which the part number of each state is its rank. It has no cycle flags.
abbrev pub table_of : List ℕ → PartTable
table_of ranks = record { numbers = ranks; cycles = [] }

-- The triple with the code `t` in a graph with `n` states.
abbrev pub three_of : ℕ → ℕ → Three
three_of n t = record { p = t / n / n; q = t / n % n; r = t % n }

-- Holds if the three states of the triple have the same rank.
abbrev pub IsOneRank : (ℕ → ℕ) → Three → Type 0
IsOneRank rank t = (rank t.q ≡ rank t.p) × (rank t.r ≡ rank t.p)
