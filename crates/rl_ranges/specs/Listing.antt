-- The ranges of a `RangeList`, which is a single range, a static table of the program, or a list that copies share. A range is
-- a pair: its first code and its last code.
use Rattle.std.specs.Prelude.{ℕ, List}
use Rattle.rl_ranges.specs.declared.range_list.RangeList.{RangeList}
use Rattle.rl_ranges.specs.declared.range_list.RangeList.TheVariants.{One, Table, Shared}

-- The ranges of the list, in order, wherever they are kept.
abbrev pub listed : RangeList → List (ℕ × ℕ)
listed (One range) = range
listed (Table table) = table.now
listed (Shared ranges) = ranges.value.items
