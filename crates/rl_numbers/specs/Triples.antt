-- The product of three copies of a graph that move side by side on the same letters. In a graph with `n` states, the
-- code of the triple of `p`, `q` and `r` is `(p * n + q) * n + r`.
use Rattle.std.specs.Prelude.{ℕ, ◌+◌, ◌*◌, ◌/◌, ◌%◌, ◌<◌, ◌&&◌, ◌==◌, nat_lt, if◌then◌else◌, List, [], ◌∷◌, ◌++◌, map, flat_map, length, slice_index, position, unwrap_or, nat_eq}
use Rattle.rl_graph.specs.Graph.{Graph, edges_of}
use Rattle.rl_graph.specs.Product.{pair_moves}

-- The moves of the triple with the code `t` on the letter `l`: one move of each of its three states. The targets are in
-- the order of the first state's moves, then of the second state's, then of the third state's.
abbrev pub triple_moves : (ℕ → ℕ → List ℕ) → ℕ → ℕ → ℕ → List ℕ
triple_moves next n t l = flat_map (λ x. map (λ y. x * n + y) (next (t % n) l)) (pair_moves next n (t / n) l)

-- Holds if the graph has fewer than 65,536 states, and each state has fewer than 65,536 moves on a letter.
pub record IsLow (g : Graph) : Type 0 where
  pub few_states : g.states < 65536
  pub few_moves : (q l : ℕ) → length (edges_of g q l) < 65536

-- The code of the lift of the triple with the code `t`: the lift of `(p, q, q)` is `(p, p, q)`, and every other triple
-- is its own lift.
abbrev pub lift_of : ℕ → ℕ → ℕ
lift_of n t = if t / n % n == t % n then (t / n / n * n + t / n / n) * n + t % n else t

-- The index of `key` in the list, or `place` if the list doesn't have it.
abbrev pub place_or : List ℕ → ℕ → ℕ → ℕ
place_or keys place key = unwrap_or (position (nat_eq key) keys) place

-- The moves on the letter `l` of the triple whose code has the index `i` in `keys`: the moves of three copies of the
-- graph, followed by a move to the lift. Targets are given by their indices in `keys`; a move to a triple that isn't in
-- the list leads back to `i`. There are no moves if the list has no such index, its code is not the code of a triple,
-- or the letter is out of range.
abbrev pub among_moves : Graph → List ℕ → ℕ → ℕ → List ℕ
among_moves g keys i l =
    if nat_lt i (length keys) && (nat_lt (slice_index keys i) (g.states * g.states * g.states) && nat_lt l g.letters)
    then map (place_or keys i) (triple_moves (edges_of g) g.states (slice_index keys i) l ++ lift_of g.states (slice_index keys i) ∷ []) else []
