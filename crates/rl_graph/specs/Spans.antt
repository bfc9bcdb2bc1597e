-- How the rows of a `RowList` are stored. A non-empty row is either a range of one list of numbers that all rows share
-- (its span), or a list of its own ("apart"). The span of a row that is stored apart is empty.
use Rattle.std.specs.Prelude.{ℕ, ◌^◌, ◌<◌, ◌≤◌, nat_lt, if◌then◌else◌, All, List, [], length, map, slice_range, slice_index_or}
use Rattle.std.specs.List.{range_with_len}
use Rattle.rl_graph.specs.declared.row_list.Span.{Span}

-- A row: the numbers from `start` up to, but not including, `end` if the span isn't empty, and `apart` otherwise.
abbrev pub row_of : List ℕ → List ℕ → Span → List ℕ
row_of numbers apart span = if nat_lt span.start span.end then slice_range numbers span.start span.end else apart

-- An empty span.
abbrev pub no_span : Span
no_span = record { start = 0; end = 0 }

-- The rows of all spans, in order. A row that is stored apart has the same index in `apart` as its span has in `spans`;
-- past the end of `apart`, the row is empty.
unfoldable pub rows_in : List ℕ → List (List ℕ) → List Span → List (List ℕ)
rows_in numbers apart spans = map (λ k. row_of numbers (slice_index_or apart k []) (slice_index_or spans k no_span)) (range_with_len 0 (length spans))

-- Holds if the storage is well formed: each span ends within the numbers, there are at most as many rows apart as
-- spans, and every row has fewer than 2^32 numbers, so that an index in it fits a `u32`.
pub record AreWithin (numbers : List ℕ) (apart : List (List ℕ)) (spans : List Span) : Type 0 where
  pub few : length apart ≤ length spans
  pub within : All (λ (span : Span). span.end ≤ length numbers) spans
  pub short : All (λ row. length row < 2 ^ 32) (rows_in numbers apart spans)
