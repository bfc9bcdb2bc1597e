-- Tables of truth values as lists of rows. All rows of a table have the same length.
use Rattle.std.specs.Prelude.{ℕ, Bool, true, false, List, [], ◌∷◌, replicate}
use Rattle.std.specs.List.{fold}
use Rattle.rl_lanes.specs.Rows.{list_or}

-- The rows of the table whose indices, from 0, are true in `chosen`, in order. Rows past the end of `chosen` are left
-- out.
abbrev pub chosen_rows : List (List Bool) → List Bool → List (List Bool)
chosen_rows [] chosen = []
chosen_rows (row ∷ rows) [] = []
chosen_rows (row ∷ rows) (true ∷ chosen) = row ∷ chosen_rows rows chosen
chosen_rows (row ∷ rows) (false ∷ chosen) = chosen_rows rows chosen

-- The union of the rows whose indices are true in `chosen`; each row has `len` places. If no row is chosen, all `len`
-- places are false.
unfoldable pub image : List (List Bool) → List Bool → ℕ → List Bool
image rows chosen len = fold list_or (replicate len false) (chosen_rows rows chosen)
