-- A search as a match. A search from the start of a text is a match from there of another tree: codes of the universe, as few
-- as possible, as the group 0, and then the tree. The search's match begins where group 0 ends. A matcher is a tree with
-- groups, and where its matches may end.
use Rattle.std.specs.Prelude.{false}
use Rattle.rl_ranges.specs.declared.universe.Universe.{Universe}
use Rattle.rl_syntax.specs.Modes.{is_code}
use Rattle.rl_marks.specs.declared.asked.How.{How}
use Rattle.rl_marks.specs.declared.asked.How.TheVariants.{Fullmatch, Match, OneSearch}
use Rattle.rl_marks.specs.Marked.{one, both, many, mark}
use Rattle.rl_marks.specs.Hits.{Matcher}

-- The matcher that first takes codes of the universe, as few as possible, as the group 0, and then matches like `m`. Its match
-- from the start of a text of the universe has the same end and the same values of the groups of `m` as a search with `m` from
-- there.
abbrev pub seeking : Universe → Matcher → Matcher
seeking u m = record { tree = both (mark 0 (many (one (is_code u)) false)) m.tree; ending = m.ending }

-- The matcher whose matches are compared, by how the patterns are asked: `seeking` for one search, otherwise the matcher
-- itself.
abbrev pub asked_in : How → Universe → Matcher → Matcher
asked_in Fullmatch u m = m
asked_in Match u m = m
asked_in OneSearch u m = seeking u m
