-- Lists of the states to which a state of an automaton moves. Letters are numbered from 0, and the end letter has the number
-- after the last one.
use Rattle.std.specs.Prelude.{◌≡◌, ℕ, suc, ◌<◌, true, List, [], length, slice_index_or}
use Rattle.rl_prio.specs.Automaton.{Automaton, letters_count, moves_at}
use Rattle.rl_sets.specs.Live.{holds}

-- Holds if the list has every state to which the state `q` moves on a letter below `letters`. It may have other states too.
abbrev pub HasTargets : Automaton → ℕ → ℕ → List ℕ → Type 0
HasTargets a q letters list = (letter t : ℕ) → letter < letters → holds (moves_at a q letter) t ≡ true → holds list t ≡ true

-- Holds if there are `states` lists, and the list with the index `q` has every state to which the state `q` moves on any
-- letter or the end letter.
abbrev pub AreTargets : Automaton → ℕ → List (List ℕ) → Type 0
AreTargets a states lists = (length lists ≡ states) × ((q : ℕ) → q < states → HasTargets a q (suc (letters_count a)) (slice_index_or lists q []))
