-- Modes. A pattern is matched by `fullmatch`, `match` or `search`; in each of these modes it becomes a tree and an ending,
-- which says where a match may end. In `fullmatch` it ends at the end of the text, and the anchors removed from the start and
-- the end of the pattern make no difference. In `match` and `search` it ends anywhere, unless the pattern has a trailing
-- anchor: then it ends at the end of the text, and if the anchor is only `$`, a final line feed may come between. In `search`
-- without a leading anchor, characters are skipped first, as few as possible.
use Rattle.std.specs.Prelude.{ℕ, Bool, true, false, nat_lt}
use Rattle.rl_ranges.specs.declared.universe.Universe.{Universe}
use Rattle.rl_ranges.specs.Text.{code_count}
use Rattle.rl_syntax.specs.declared.anchors.Trail.{Trail}
use Rattle.rl_syntax.specs.declared.anchors.Trail.TheVariants.{None, Dollar, End}
use Rattle.rl_syntax.specs.declared.re.Mode.{Mode}
use Rattle.rl_syntax.specs.declared.re.Mode.TheVariants.{Fullmatch, Match, Search}
use Rattle.rl_syntax.specs.declared.re.Ending.{Ending}
use Rattle.rl_syntax.specs.declared.re.Ending.TheVariants.{AtEnd, Anywhere}
use Rattle.rl_syntax.specs.Guards.{is_line_feed}
use Rattle.rl_syntax.specs.Tree.{Tree, empty, one, both, either, many}
use Rattle.rl_syntax.specs.PatTree.{PatTree}
use Rattle.rl_syntax.specs.Lowering.{lowered}

-- Whether the universe contains the code: whether the code is less than the number of codes in the universe.
unfoldable pub is_code : Universe → ℕ → Bool
is_code universe code = nat_lt code (code_count universe)

-- The tree, followed by what the trailing anchors allow after it: an optional line feed if there is only `$`, otherwise
-- nothing.
abbrev pub trailed : Trail → Tree → Tree
trailed None t = t
trailed Dollar t = both t (either empty (one is_line_feed))
trailed End t = t

-- The tree, preceded by any characters of the universe, as few as possible. If the flag is `true`, there is a leading anchor,
-- and nothing precedes the tree.
abbrev pub sought : Universe → Bool → Tree → Tree
sought universe true t = t
sought universe false t = both (many (one (is_code universe)) false) t

-- The tree of a whole pattern in the mode, given the tree `t` of its body. `leading` says whether the pattern has a leading
-- anchor, and `trailing` which trailing anchors it has. In `fullmatch` this is the body's tree; in `match`, that tree with
-- what the trailing anchors allow after it; in `search`, also with skipped characters before it.
abbrev pub wrapped : Mode → Universe → Bool → Trail → Tree → Tree
wrapped Fullmatch universe leading trailing t = t
wrapped Match universe leading trailing t = trailed trailing t
wrapped Search universe leading trailing t = sought universe leading (trailed trailing t)

-- Where a match may end, given the trailing anchors: anywhere if there are none, otherwise at the end of the text.
abbrev pub ending_at : Trail → Ending
ending_at None = Anywhere
ending_at Dollar = AtEnd
ending_at End = AtEnd

-- Where a match may end in the mode, given the trailing anchors: in `fullmatch` at the end of the text, otherwise as
-- `ending_at` says.
abbrev pub ending_of : Mode → Trail → Ending
ending_of Fullmatch trailing = AtEnd
ending_of Match trailing = ending_at trailing
ending_of Search trailing = ending_at trailing

-- The tree of a whole pattern in the mode, given its body without the outer anchors. `leading` says whether the pattern has a
-- leading anchor, and `trailing` which trailing anchors it has.
abbrev pub tree_in : Mode → Universe → Bool → Trail → PatTree → Tree
tree_in mode universe leading trailing body = wrapped mode universe leading trailing (lowered body)
