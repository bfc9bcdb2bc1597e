-- Names of places. In a pair of thread lists the places of groups have numbers in place of positions, their names.
use Rattle.std.specs.Prelude.{ℕ, List, slice_index_or}

-- The place that the list gives for the name: the item with this index, from 0 on; 0 if the list is too short.
abbrev pub place_named : List ℕ → ℕ → ℕ
place_named names name = slice_index_or names name 0
