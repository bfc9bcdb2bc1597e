-- Access to the items of a list of pairs, which are ranges or stretches, by index.
use Rattle.std.specs.Prelude.{ℕ, List, slice_index_or}

-- The pair at index `k` of the list, counted from 0, or (0, 0) if there is none.
abbrev pub range_at : List (ℕ × ℕ) → ℕ → ℕ × ℕ
range_at ranges k = slice_index_or ranges k (0, 0)
