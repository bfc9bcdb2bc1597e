-- Guards that look behind. A tree is a lowered pattern. A guard in it, which is an anchor, a word boundary or a lookaround of
-- one character, tests a position in a text by the characters next to it. A guard that looks behind needs the character before
-- its position, so that it can hold in a text and not in the rest of the text from there on.
use Rattle.std.specs.Prelude.{Bool, true, false, ◌||◌}
use Rattle.rl_syntax.specs.declared.anchors.Guard.{Guard}
use Rattle.rl_syntax.specs.declared.anchors.Guard.TheVariants.{Start, LineStart, LineEnd, TextEnd, Word, NotWord, Look}
use Rattle.rl_syntax.specs.Tree.{Tree, empty, one, guard, both, either, many}

-- Whether the guard looks behind: the start of the text or of a line, the boundaries of words, and a lookbehind do. The end of
-- the text or of a line, and a lookahead, need only the character after the position.
abbrev pub guard_looks_behind : Guard → Bool
guard_looks_behind Start = true
guard_looks_behind LineStart = true
guard_looks_behind LineEnd = false
guard_looks_behind TextEnd = false
guard_looks_behind (Word ascii) = true
guard_looks_behind (NotWord ascii) = true
guard_looks_behind (Look behind negated ranges) = behind

-- Whether some guard of the tree looks behind.
abbrev pub looks_behind : Tree → Bool
looks_behind empty = false
looks_behind (one set) = false
looks_behind (guard g) = guard_looks_behind g
looks_behind (both e f) = looks_behind e || looks_behind f
looks_behind (either e f) = looks_behind e || looks_behind f
looks_behind (many e greedy) = looks_behind e
