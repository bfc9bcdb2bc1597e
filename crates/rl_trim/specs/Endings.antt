-- Which states of an automaton move to the accepting state on the end letter.
use Rattle.std.specs.Prelude.{◌≡◌, ℕ, ◌<◌, Bool, false, List, length, slice_index_or}
use Rattle.rl_prio.specs.Automaton.{Automaton, letters_count, accepting_state, moves_at}
use Rattle.rl_sets.specs.Live.{holds}

-- Whether the state `q` moves to the accepting state on the end letter.
abbrev pub state_ends : Automaton → ℕ → Bool
state_ends a q = holds (moves_at a q (letters_count a)) (accepting_state a)

-- Holds if there are `states` flags, and the flag with the index `q` says whether the state `q` moves to the accepting state
-- on the end letter.
abbrev pub AreEnding : Automaton → ℕ → List Bool → Type 0
AreEnding a states flags = (length flags ≡ states) × ((q : ℕ) → q < states → slice_index_or flags q false ≡ state_ends a q)
