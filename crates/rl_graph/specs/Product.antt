-- The product of a graph with itself: two copies of the graph that move side by side on the same letters. In a graph
-- `next` of `n` states, the pair of the states `p` and `q` is the state `p * n + q` of the product.
use Rattle.std.specs.Prelude.{ℕ, ◌+◌, ◌*◌, ◌/◌, ◌%◌, Bool, false, if◌then◌else◌, List, [], map, flat_map, slice_index_or}

-- The moves of the pair with the number `q` on the letter `l`: each move of its first state together with each move of
-- its second state. The targets are in the order of the first state's moves, and for each of these in the order of the
-- second state's moves.
abbrev pub pair_moves : (ℕ → ℕ → List ℕ) → ℕ → ℕ → ℕ → List ℕ
pair_moves next n q l = flat_map (λ x. map (λ y. x * n + y) (next (q % n) l)) (next (q / n) l)

-- The moves of the pair with the number `x` on the letter `l`, or no moves if the pair isn't marked. `marks` has a flag
-- for each pair, at the pair's number.
abbrev pub marked_moves : (ℕ → ℕ → List ℕ) → ℕ → List Bool → ℕ → ℕ → List ℕ
marked_moves next n marks x l = if slice_index_or marks x false then pair_moves next n x l else []
