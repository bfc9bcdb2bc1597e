-- For the contracts of private functions: rows of numbers, stored one after another in one list, with the index at which each
-- row ends.
use Rattle.std.specs.Prelude.{ℕ, zero, suc, ◌≤◌, List, [], ◌∷◌, drop, slice_index, slice_range}

-- A table of rows of numbers: the closed rows, in order (`rows`), and the numbers of the row that is still open (`open_row`).
pub record Rows : Type 0 where
  pub rows : List (List ℕ)
  pub open_row : List ℕ

-- The rows that end at the indices in the list. The first one begins at `start`, and each further one where the row before
-- ends. An end isn't part of its row.
abbrev pub rows_from : ℕ → List ℕ → List ℕ → List (List ℕ)
rows_from start [] items = []
rows_from start (end ∷ ends) items = slice_range items start end ∷ rows_from end ends items

-- The index at which a row begins, given its number, counted from 0: `start` for the first row, and otherwise the index in
-- `ends` at which the row before it ends, or 0 if there is no such row.
abbrev pub start_at : ℕ → List ℕ → ℕ → ℕ
start_at start ends zero = start
start_at start ends (suc i) = slice_index ends i

-- The last index in the list, or `start` if the list is empty.
abbrev pub last_end : ℕ → List ℕ → ℕ
last_end start [] = start
last_end start (end ∷ ends) = last_end end ends

-- The table of rows that the program stores: `ends` has the indices at which the closed rows end, and `items` the numbers of
-- all rows. The open row has the numbers after the last end.
abbrev pub rows_of : List ℕ → List ℕ → Rows
rows_of ends items = record { rows = rows_from 0 ends items; open_row = drop (last_end 0 ends) items }

-- Holds if the indices never decrease, beginning with `start`, and none is greater than `size`.
abbrev pub RiseTo : ℕ → ℕ → List ℕ → Type 0
RiseTo size start [] = start ≤ size
RiseTo size start (end ∷ ends) = (start ≤ end) × RiseTo size end ends
