-- The moves of an automaton that the moves of its live pairs are. A pair is a state with a set: the states that were tried before
-- it. Of the moves of a pair's state, the graph of live pairs keeps some, in order; a kept move leads to a pair, whose state is
-- the target of the move.
use Rattle.std.specs.Prelude.{ℕ, zero, suc, ◌==◌, List, [], ◌∷◌, map, slice_index, if◌then◌else◌}
use Rattle.rl_prio.specs.Automaton.{Automaton, moves_at}
use Rattle.rl_pairs.specs.PairTable.{PairTable, pair_in, moves_in}

-- The state of the pair with the number.
abbrev pub state_in : PairTable → ℕ → ℕ
state_in g k = (pair_in g k).state

-- The place, in the list of targets, of the state with the index `j` among the kept ones, if each kept state takes the first place
-- that fits it, behind the one before.
abbrev pub kept_place : List ℕ → List ℕ → ℕ → ℕ
kept_place kept [] j = 0
kept_place [] (target ∷ targets) j = 0
kept_place (k ∷ kept) (target ∷ targets) zero = if target == k then 0 else suc (kept_place (k ∷ kept) targets zero)
kept_place (k ∷ kept) (target ∷ targets) (suc j) =
    if target == k then suc (kept_place kept targets j) else suc (kept_place (k ∷ kept) targets (suc j))

-- The move numbers of the automaton of a path of the graph of its live pairs: from the pair `i`, along a word. `next` gives the
-- kept moves of a pair, `state` its state, and `moves` the moves of a state.
abbrev pub numbers_along : (ℕ → ℕ → List ℕ) → (ℕ → ℕ) → (ℕ → ℕ → List ℕ) → ℕ → List ℕ → List ℕ → List ℕ
numbers_along next state moves i [] path = []
numbers_along next state moves i (l ∷ w) [] = []
numbers_along next state moves i (l ∷ w) (j ∷ path) =
    kept_place (map state (next i l)) (moves (state i) l) j ∷ numbers_along next state moves (slice_index (next i l) j) w path

-- Those of a path of the program's graph.
abbrev pub numbers_in : Automaton → PairTable → ℕ → List ℕ → List ℕ → List ℕ
numbers_in a g i w path = numbers_along (moves_in g) (state_in g) (moves_at a) i w path
