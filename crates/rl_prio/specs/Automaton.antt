-- The mathematical model of an ordered automaton: the table of its letters, the number of its states and, for each state and
-- letter, the list of targets in the order in which they are tried. States and letters are numbered from 0. State 0 is the
-- start. The end letter is read after the last code of a text.
use Rattle.std.specs.Prelude.{◌≡◌, ℕ, suc, ◌+◌, ◌*◌, ◌-◌, ◌<◌, ◌≤◌, ◌&&◌, nat_lt, nat_le, List, [], length, slice_index_or, All, if◌then◌else◌}
use Rattle.rl_ranges.specs.Letters.{LetterTable}

-- An ordered automaton: its letters, the number of its states, and one row of targets for each state and letter. Rows are
-- ordered by state and then by letter, with the end letter last.
pub record Automaton : Type 0 where
  pub table : LetterTable
  pub states : ℕ
  pub rows : List (List ℕ)

-- The number of letters without the end letter. It is also the number of the end letter.
abbrev pub letters_count : Automaton → ℕ
letters_count a = length a.table.samples

-- The accepting state, which is the second to last one.
abbrev pub accepting_state : Automaton → ℕ
accepting_state a = a.states - 2

-- The dead state, which is the last one.
abbrev pub dead_state : Automaton → ℕ
dead_state a = a.states - 1

-- The targets of the state `q` on a letter or the end letter, in the order in which they are tried. A state or letter out of
-- range has no targets.
unfoldable pub moves_at : Automaton → ℕ → ℕ → List ℕ
moves_at a q letter =
    if nat_lt q a.states && nat_le letter (letters_count a) then slice_index_or a.rows (q * suc (letters_count a) + letter) [] else []

-- Holds if the automaton is well formed: it has a start, an accepting state and a dead state; each state has a row for each
-- letter and the end letter; each move leads to a state; and the accepting state and the dead state have no moves.
pub record IsAutomaton (a : Automaton) : Type 0 where
  pub three_states : 3 ≤ a.states
  pub row_count : length a.rows ≡ a.states * suc (letters_count a)
  pub targets : (q letter : ℕ) → All (λ target. target < a.states) (moves_at a q letter)
  pub accepted : (letter : ℕ) → moves_at a (accepting_state a) letter ≡ []
  pub died : (letter : ℕ) → moves_at a (dead_state a) letter ≡ []
