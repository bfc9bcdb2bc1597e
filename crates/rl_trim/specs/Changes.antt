-- The changes of the states of an automaton: for each state, a row of marks with an entry for each letter, without the end
-- letter. A letter is marked if the state has other moves on it than on the letter before. Letters are numbered from 0.
use Rattle.std.specs.Prelude.{◌≡◌, ℕ, suc, ◌<◌, Bool, false, List, [], length, slice_index_or, Option, None, Some, All}
use Rattle.rl_trim.specs.declared.changes.Changes.{Changes}
use Rattle.rl_prio.specs.Automaton.{Automaton, letters_count, moves_at}

-- Holds if the row has an entry for each letter, without the end letter.
abbrev pub IsWide : Automaton → List Bool → Type 0
IsWide a row = length row ≡ letters_count a

-- Holds if the state `q` has the same moves on each letter that isn't marked in the row as on the letter before it. The first
-- letter has none before it, so its mark has no meaning.
abbrev pub IsSame : Automaton → List Bool → ℕ → Type 0
IsSame a row q = (letter : ℕ) → suc letter < letters_count a → slice_index_or row (suc letter) false ≡ false → moves_at a q letter ≡ moves_at a q (suc letter)

-- Holds if the table has a row for each state, each with an entry for each letter, and `IsSame` holds with the row `q` for each
-- state `q` below `done`.
pub record AreRows (a : Automaton) (done : ℕ) (rows : List (List Bool)) : Type 0 where
  pub high : length rows ≡ a.states
  pub wide : All (IsWide a) rows
  pub same : (q : ℕ) → q < done → IsSame a (slice_index_or rows q []) q

-- Holds if the changes have a right row, as in `AreRows`, for each state of the automaton.
abbrev pub AreChanges : Automaton → Changes → Type 0
AreChanges a c = AreRows a a.states c.rows

-- Holds if the changes haven't been found yet, or are right for the automaton.
abbrev pub AreChangesIf : Automaton → Option Changes → Type 0
AreChangesIf a None = Unit {0}
AreChangesIf a (Some c) = AreChanges a c
