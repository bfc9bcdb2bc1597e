-- The moves of an automaton, split into two tables of bits: `targets` has for each state a row of the states to which it moves
-- on any letter, and `barred` has for each letter a row of states to which no state moves on it. A row has one bit for each
-- state, at the state's number. The end letter counts as a letter here, with the number after the others. A state is split if
-- on each letter it moves exactly to its targets without the states barred on the letter; the other states are unsplit, and
-- the row `unsplit` has their bits set. Moves to the dead state, which has no moves itself, aren't looked at, since no set
-- holds it.
use Rattle.std.specs.Prelude.{◌≡◌, ℕ, suc, ◌<◌, ◌≤◌, Bool, false, not, ◌&&◌, List, [], length, slice_index_or, All}
use Rattle.rl_lanes.specs.Rows.{list_and_not}
use Rattle.rl_lanes.specs.Tables.{image as rows_image}
use Rattle.rl_prio.specs.Automaton.{Automaton, letters_count, dead_state, moves_at}
use Rattle.rl_sets.specs.Live.{holds}
use Rattle.rl_sets.specs.declared.split.SplitMoves.{SplitMoves}
use Rattle.rl_sets.specs.declared.split.SetMoves.{SetMoves}

-- Holds if the table has `n` rows of `n` bits each.
pub record IsSquare (n : ℕ) (table : List (List Bool)) : Type 0 where
  pub high : length table ≡ n
  pub wide : All (λ row. length row ≡ n) table

-- Holds if each row of `s.targets` and of `s.barred` and the row `s.unsplit` have `n` bits, one for each state, and
-- `s.targets` has `n` rows. The number of the rows in `s.barred` isn't looked at.
pub record IsShaped (n : ℕ) (s : SplitMoves) : Type 0 where
  pub square : IsSquare n s.targets
  pub barred_wide : All (λ row. length row ≡ n) s.barred.items
  pub unsplit_wide : length s.unsplit ≡ n

-- Holds if the state `q` moves on `letter` exactly to the states that are in the row `targets` and not in the row `barred`.
-- The dead state isn't looked at.
abbrev pub IsSplitOn : Automaton → List Bool → List Bool → ℕ → ℕ → Type 0
IsSplitOn a targets barred q letter =
    (t : ℕ) → t < dead_state a → (slice_index_or targets t false && not (slice_index_or barred t false)) ≡ holds (moves_at a q letter) t

-- Holds if the state `q` is split: `IsSplitOn` holds for it on each letter and the end letter, where the barred states are the
-- letter's row in the table `barred`, or none if the table has no such row.
abbrev pub AreSplitAt : Automaton → List Bool → List (List Bool) → ℕ → Type 0
AreSplitAt a targets barred q = (letter : ℕ) → letter ≤ letters_count a → IsSplitOn a targets (slice_index_or barred letter []) q letter

-- Holds if each state of the automaton that isn't in the row `unsplit` is split, with its row in the table `targets`. A
-- missing row counts as a row of bits that aren't set.
abbrev pub AreSplit : Automaton → List (List Bool) → List (List Bool) → List Bool → Type 0
AreSplit a targets barred unsplit =
    (q : ℕ) → q < a.states → slice_index_or unsplit q false ≡ false → AreSplitAt a (slice_index_or targets q []) barred q

-- Holds if `s` has the right sizes for the automaton, including a row in `barred` for each letter and the end letter, and all
-- states except those in `s.unsplit` are split by it.
pub record IsSplit (a : Automaton) (s : SplitMoves) : Type 0 where
  pub shape : IsShaped a.states s
  pub letters : length s.barred.items ≡ suc (letters_count a)
  pub moves : AreSplit a s.targets s.barred.items s.unsplit

-- Holds if `m` has the moves of the set whose row is `members`: `m.targets` is the union of the targets of the members that
-- aren't in `s.unsplit`, and `m.unsplit` is the row of the members that are. The number `m.set` isn't looked at.
pub record AreMovesOf (s : SplitMoves) (members : List Bool) (m : SetMoves) : Type 0 where
  pub targets : m.targets ≡ rows_image s.targets (list_and_not members s.unsplit) (length members)
  pub unsplit : m.unsplit ≡ list_and_not members (list_and_not members s.unsplit)
