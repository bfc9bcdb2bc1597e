-- Walks. On a list of letters, the walk of an automaton tries the moves on the next letter in order, at the start and then at
-- each further state. Each try is one step, and a step to the accepting state is a hit. After a step to any other state, the
-- walk from that state on the remaining letters follows.
use Rattle.std.specs.Prelude.{ℕ, suc, Bool, true, false, ◌==◌, List, [], ◌∷◌, ◌++◌, map, if◌then◌else◌}
use Rattle.rl_ranges.specs.Letters.{letter_at}
use Rattle.rl_syntax.specs.Cost.{up_to_hit, has_hit}
use Rattle.rl_prio.specs.Automaton.{Automaton, letters_count, accepting_state, moves_at}

-- The steps of a list of moves in order, as a flag for each step that says whether it is a hit. After a move to a state `q`
-- other than `accepting`, the steps `next q` follow.
abbrev pub stepped : ℕ → (ℕ → List Bool) → List ℕ → List Bool
stepped accepting next [] = []
stepped accepting next (q ∷ l) = (if q == accepting then true ∷ [] else false ∷ next q) ++ stepped accepting next l

-- The steps of the walk from the state `q` on a list of letters. If there are no letters, there are no steps.
abbrev pub walk : Automaton → ℕ → List ℕ → List Bool
walk a q [] = []
walk a q (letter ∷ rest) = stepped (accepting_state a) (λ r. walk a r rest) (moves_at a q letter)

-- The letters of the codes of a text, followed by the end letter.
abbrev pub word_at : Automaton → List ℕ → List ℕ
word_at a text = map (letter_at a.table) text ++ letters_count a ∷ []

-- The cost of the walk from the start on a list of letters: one more than the number of steps up to and including the first
-- hit, or one more than all steps if there is no hit.
abbrev pub walk_cost : Automaton → List ℕ → ℕ
walk_cost a word = suc (up_to_hit (walk a 0 word))

-- Whether the walk from the start on a list of letters has a hit.
abbrev pub walk_matched : Automaton → List ℕ → Bool
walk_matched a word = has_hit (walk a 0 word)
