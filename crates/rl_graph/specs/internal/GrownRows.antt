-- For the contracts of private functions: appending a row to the shared numbers of a `RowList`, and changing one of the
-- rows that are stored apart.
use Rattle.std.specs.Prelude.{◌≡◌, ◌≢◌, ℕ, ◌<◌, ◌≤◌, List, [], ◌++◌, length, slice_range, slice_index_or}
use Rattle.rl_graph.specs.declared.row_list.Span.{Span}
use Rattle.rl_graph.specs.Spans.{row_of}

-- Holds if `new` begins with all of `old`.
abbrev pub IsGrown : List ℕ → List ℕ → Type 0
IsGrown old new = (more : List ℕ) × (new ≡ old ++ more)

-- Holds if the span ends within the numbers, and the numbers in it are `row`.
pub record IsRowAt (numbers row : List ℕ) (span : Span) : Type 0 where
  pub within : span.end ≤ length numbers
  pub same : row_of numbers [] span ≡ row

-- Holds if the span ends within the numbers, is not empty, and the numbers in it are `row`.
pub record IsFilledRowAt (numbers row : List ℕ) (span : Span) : Type 0 where
  pub within : span.end ≤ length numbers
  pub filled : span.start < span.end
  pub same : slice_range numbers span.start span.end ≡ row

-- Holds if `new` has `row` at the index `place` and the same rows as `old` at all other indices. An index past the end
-- counts as an empty row. `new` is longer than `old` only if it needs to be to have that index.
pub record IsPlaced (old new : List (List ℕ)) (place : ℕ) (row : List ℕ) : Type 0 where
  pub here : slice_index_or new place [] ≡ row
  pub elsewhere : (k : ℕ) → k ≢ place → slice_index_or new k [] ≡ slice_index_or old k []
  pub few : (count : ℕ) → place < count → length old ≤ count → length new ≤ count
