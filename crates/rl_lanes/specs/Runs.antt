-- Runs in a table, which let an image skip rows that add nothing. A run of a row consists of rows directly after it
-- that are all subsets of it. It is given by its end, the index of the first row after it. A row is a subset of another
-- one if every place that is true in it is true in the other. The image of a set of rows is their union.
use Rattle.std.specs.Prelude.{ℕ, ◌<◌, ◌≤◌, Bool, List, [], length, slice_index, slice_index_or}
use Rattle.rl_lanes.specs.Rows.{IsSubset}
use Rattle.rl_lanes.specs.Packed.{table_rows, IsPackedTable}

-- Holds if the rows after the row `row` and before the row `end` are a run of `row`: each of them is a subset of `row`.
-- The run may be empty (`end` is then `row + 1`), and it need not be the longest one.
pub record IsRun (table : List (List Bool)) (row end : ℕ) : Type 0 where
  pub after : row < end
  pub inside : end ≤ length table
  pub covered : (i : ℕ) → row < i → i < end → IsSubset (slice_index_or table i []) (slice_index_or table row [])

-- Holds if `ends` has the end of a run for each of the first rows of the table, as many as `ends` has items. There may
-- be none.
abbrev pub AreRuns : List (List Bool) → List ℕ → Type 0
AreRuns table ends = (row : ℕ) → row < length ends → IsRun table row (slice_index ends row)

-- Holds if the words store a table of `rows` rows with `len` truth values each, and `ends` has the end of a run for
-- each of the first rows, as many as `ends` has items.
pub record IsPackedWithRuns (rows len : ℕ) (words ends : List ℕ) : Type 0 where
  pub packed : IsPackedTable rows len words
  pub runs : AreRuns (table_rows rows len words) ends
