-- Trees without their groups, for questions that compare spans alone. `Marked` is a tree with groups (`rl_marks`).
use Rattle.rl_marks.specs.Marked.{Marked, empty, one, guard, both, either, many, further, mark}

-- The tree in which each group is replaced by its body. It finds matches at the same positions, and no groups.
abbrev pub ungrouped : Marked → Marked
ungrouped empty = empty
ungrouped (one set) = one set
ungrouped (guard g) = guard g
ungrouped (both e f) = both (ungrouped e) (ungrouped f)
ungrouped (either e f) = either (ungrouped e) (ungrouped f)
ungrouped (many e greedy) = many (ungrouped e) greedy
ungrouped (further e f) = further (ungrouped e) (ungrouped f)
ungrouped (mark n e) = ungrouped e
