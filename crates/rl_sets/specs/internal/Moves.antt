-- For the contracts of private functions: the targets of the members of a set of states. A row has one bit for each state, at
-- the state's number. The dead state, which has no moves, is in no set.
use Rattle.std.specs.Prelude.{◌≡◌, ℕ, ◌<◌, Bool, true, false, List, length, slice_index_or}
use Rattle.std.specs.List.{list_any, flat_map}
use Rattle.rl_prio.specs.Automaton.{Automaton, dead_state, moves_at}
use Rattle.rl_sets.specs.Live.{holds}

-- The targets of the moves of the set's members on a letter: the targets of the first member, then those of the second, and so
-- on. A state may be listed more than once.
abbrev pub targets_of : Automaton → List ℕ → ℕ → List ℕ
targets_of a set letter = flat_map (λ q. moves_at a q letter) set

-- Holds if the row has a bit for each state, and each bit except the dead state's is set if and only if a member of the set
-- moves to the state on the letter.
pub record IsReached (a : Automaton) (set : List ℕ) (letter : ℕ) (row : List Bool) : Type 0 where
  pub wide : length row ≡ a.states
  pub moves : (t : ℕ) → t < dead_state a → slice_index_or row t false ≡ list_any (λ q. holds (moves_at a q letter) t) set

-- Holds if each state below `upto` whose bit is set in the row has the same moves on `letter` as on the letter `before`.
abbrev pub MoveAlike : Automaton → List Bool → ℕ → ℕ → ℕ → Type 0
MoveAlike a row upto before letter = (q : ℕ) → q < upto → slice_index_or row q false ≡ true → moves_at a q before ≡ moves_at a q letter
