-- The list of triples for a list of codes, with their part numbers. In a graph with `n` states, the code of the triple
-- of `p`, `q` and `r` is `(p * n + q) * n + r`. In the graph of triples, the triple at the index `i` of the list of
-- codes is the state `i`. A part is a strongly connected component of this graph.
use Rattle.std.specs.Prelude.{ℕ, suc, ◌/◌, ◌%◌, List, [], ◌∷◌}
use Rattle.rl_graph.specs.Parts.{PartTable, number_of}
use Rattle.rl_numbers.specs.declared.triple.Triple.{Triple}

-- The triple with the code `k`, whose number is the part number of the state `i` of the graph of triples.
abbrev pub triple_of : PartTable → ℕ → ℕ → ℕ → Triple
triple_of parts n i k = record { p = k / n / n; q = k / n % n; r = k % n; number = number_of parts i }

-- The triples for the codes of the list, in order, with their part numbers. The first code belongs to the state `i` of
-- the graph of triples, the second to the state `i + 1`, and so on.
abbrev pub listing : PartTable → ℕ → ℕ → List ℕ → List Triple
listing parts n i [] = []
listing parts n i (k ∷ keys) = triple_of parts n i k ∷ listing parts n (suc i) keys
