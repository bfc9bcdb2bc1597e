-- How `compare` ends. It depends on the trees of its two patterns. An ending says what the run does: it refuses with a
-- message, it reports an unreadable file with a message, or it writes a text. The texts that the two patterns match are in
-- three regions: those that only the first matches, those that only the second matches, and those that both match. A set pair
-- is a set of states of the first automaton with a set of states of the second. A search over the set pairs looks for a text
-- of each region (`first`, `second` and `both` of `Compared`); `more` says that it stopped at the limit of set pairs. The
-- matched tree of a pattern is its tree, followed by any text if a match may end anywhere.
use Rattle.std.specs.Prelude.{◌≡◌, ◌⊎◌, ◌&&◌, ℕ, Bool, true, false, not, List, [], ◌++◌, Option, Some, None, is_some, codes, if◌then◌else◌}
use Rattle.std.specs.Fmt.{decimal}
use Rattle.rl_ranges.specs.declared.universe.Universe.TheVariants.{Str}
use Rattle.rl_syntax.specs.Cost.{matched}
use Rattle.rl_syntax.specs.Tree.{Tree}
use Rattle.rl_syntax.specs.declared.re.Ending.{Ending as MatchEnd}
use Rattle.rl_syntax.specs.declared.limits.TheConstants.{MOST_SET_PAIRS}
use Rattle.rl_syntax.specs.declared.verdict.Limit.TheVariants as limit
use Rattle.rl_equiv.specs.Limits.{AreWithin}
use Rattle.rl_equiv.specs.Regions.{AreRegions}
use Rattle.rl_equiv.specs.declared.compared.Compared.{Compared}
use Rattle.rl_compare.specs.Matched.{matched_tree}
use Rattle.rl_compare.specs.Exceeded.{IsCompareExceeded}
use Rattle.rl_compare.specs.Comparison.{IsTrueComparison}
use Rattle.rl_compare.specs.declared.error.CompareError.{CompareError}
use Rattle.rl_compare.specs.declared.error.CompareError.TheVariants as error
use Rattle.rl_report.specs.Verdicts.{quoted_text}
use Rattle.rl_lint.specs.Messages.{undecided_line}
use Rattle.rl_lint.specs.Endings.{Ending, writes}
use Rattle.rl_report.specs.Names.{Text}
use Rattle.rl_lint.specs.declared.relation.Relation.{Relation}
use Rattle.rl_lint.specs.declared.relation.Relation.TheVariants.{Overlapping, Exceeded, Equal, Included, Includes, Disjoint}

-- ---- the lines

-- How two patterns are related, by the texts of the regions in `c`: `Overlapping` if all three regions have a text; otherwise
-- `Exceeded` if the limit of set pairs was exceeded; otherwise `Equal` if neither of the first two regions has a text,
-- `Included` if only the first has none, `Includes` if only the second has none, and `Disjoint` if both have one.
abbrev pub relation_of : Compared → Relation
relation_of c =
    if is_some c.first && (is_some c.second && is_some c.both) then Overlapping
    else (if c.more then Exceeded
    else (if not (is_some c.first) && not (is_some c.second) then Equal
    else (if not (is_some c.first) then Included
    else (if not (is_some c.second) then Includes
    else Disjoint))))

-- The words for a relation in the line that `compare` writes.
abbrev pub relation_name : Relation → Text
relation_name Overlapping = codes "overlapping"
relation_name Exceeded = codes "passed over " ++ decimal MOST_SET_PAIRS
relation_name Equal = codes "equal"
relation_name Included = codes "included"
relation_name Includes = codes "includes"
relation_name Disjoint = codes "disjoint"

-- Whether the relation is a finding, because the patterns were found not to match the same texts: every relation except
-- `Equal` and `Exceeded`, which leaves this undecided.
abbrev pub is_difference : Relation → Bool
is_difference Exceeded = false
is_difference Equal = false
is_difference _ = true

-- The line that shows the text of a region, two spaces and `NAME LITERAL`, with the text as a quoted Python literal. Nothing if
-- the region has no text.
abbrev pub region_line : Text → Option (List ℕ) → Text
region_line name None = []
region_line name (Some text) = codes "  " ++ (name ++ (codes " " ++ (quoted_text Str text ++ codes "\n")))

-- The line of the relation, and then a line for each region that has a text, in the order `first`, `second` and `both`.
abbrev pub compared_text : Compared → Text
compared_text c =
    relation_name (relation_of c) ++ (codes "\n"
    ++ (region_line (codes "first") c.first ++ (region_line (codes "second") c.second ++ region_line (codes "both") c.both)))

-- The line on the limit that the error names, such as `undecided moves over 256` with a line feed, or none if memory ran out,
-- which isn't a limit.
abbrev pub exceeded_line : CompareError → Option Text
exceeded_line error.Size = Some (undecided_line 0 limit.Size)
exceeded_line error.Letters = Some (undecided_line 0 limit.Letters)
exceeded_line error.Moves = Some (undecided_line 0 limit.Moves)
exceeded_line error.OutOfMemory = None

-- ---- the endings

-- One of two endings. If one of the two matched trees exceeds a limit, the first such limit is named; the limit of letters
-- applies to both trees together. Otherwise the texts of the three regions are written: each text is matched by exactly the
-- patterns that its region names, and if the limit of set pairs isn't exceeded, a region without a text is empty. `s` and `t`
-- are the trees, and `e` and `f` say where their matches may end.
abbrev pub CompareEnds : Tree → MatchEnd → Tree → MatchEnd → Ending → Type 0
CompareEnds s e t f ending =
    ((passed : CompareError) × (line : Text) × IsCompareExceeded Str (matched_tree Str s e) (matched_tree Str t f) passed
    × (exceeded_line passed ≡ Some line) × (ending ≡ writes line false false))
    ⊎ ((c : Compared) × AreWithin Str (matched_tree Str s e) (matched_tree Str t f)
    × AreRegions Str (matched_tree Str s e) (matched_tree Str t f) MOST_SET_PAIRS c × IsTrueComparison Str (matched s e) (matched t f) c
    × (ending ≡ writes (compared_text c) (is_difference (relation_of c)) false))
