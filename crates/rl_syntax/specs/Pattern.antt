-- Patterns: the parts of a pattern that contracts refer to, and its tree in a mode, which is `fullmatch`, `match` or `search`.
-- The outer anchors of a pattern are `\A` and `^` without MULTILINE at its start (leading), and `\Z` and `$` without MULTILINE
-- at its end (trailing). The body is the rest. The universe of a pattern is the set of the codes that its texts may contain:
-- those of `str` or those of `bytes`.
use Rattle.std.specs.Prelude.{Bool}
use Rattle.rl_ranges.specs.declared.universe.Universe.{Universe}
use Rattle.rl_syntax.specs.declared.anchors.Trail.{Trail}
use Rattle.rl_syntax.specs.declared.re.Mode.{Mode}
use Rattle.rl_syntax.specs.declared.re.Ending.{Ending}
use Rattle.rl_syntax.specs.declared.pattern.Pattern.{Pattern}
use Rattle.rl_syntax.specs.PatTree.{PatTree, pat_of}
use Rattle.rl_syntax.specs.Tree.{Tree}
use Rattle.rl_syntax.specs.Modes.{tree_in, ending_of}

-- The body of the pattern, without its outer anchors.
abbrev pub body_of : Pattern → PatTree
body_of p = pat_of p.body

-- Whether a leading anchor was removed from the pattern.
abbrev pub is_anchored : Pattern → Bool
is_anchored p = p.leading

-- Which trailing anchors were removed from the pattern: none, only `$`, or `\Z` possibly along with `$`.
abbrev pub trail_of : Pattern → Trail
trail_of p = p.trailing

-- The universe of the pattern's characters.
abbrev pub universe_of : Pattern → Universe
universe_of p = p.universe

-- The tree of the whole pattern in the mode: what is matched, with the characters that a search skips and the line feed that a
-- trailing `$` allows.
abbrev pub pattern_tree : Pattern → Mode → Tree
pattern_tree p mode = tree_in mode (universe_of p) (is_anchored p) (trail_of p) (body_of p)

-- Where a match of the pattern may end in the mode: only at the end of the text, or anywhere.
abbrev pub pattern_ending : Pattern → Mode → Ending
pattern_ending p mode = ending_of mode (trail_of p)
