-- Sights: what a pattern finds on a text, with the value of each of its groups. The value of a group is its last span, or
-- `None`; a span is two positions in the text, counted in codes from 0.
use Rattle.std.specs.Prelude.{ℕ, zero, suc, Bool, false, List, [], ◌∷◌, ◌++◌, Option, None}
use Rattle.rl_marks.specs.Finds.{group, last_group}
use Rattle.rl_marks.specs.declared.spans.GroupSpan.{GroupSpan}
use Rattle.rl_marks.specs.Hits.{match_at}
use Rattle.rl_marks.specs.Searches.{Match, begun, search_from}
use Rattle.rl_marks.specs.SameFinds.{matcher_in}
use Rattle.rl_marks.specs.declared.asked.How.{How}
use Rattle.rl_marks.specs.declared.asked.How.TheVariants.{Fullmatch, Match as EachMatch, OneSearch}
use Rattle.rl_marks.specs.declared.pattern.MarkedPattern.{MarkedPattern}
use Rattle.rl_spans.specs.declared.finding.Sight.{Sight}

-- The values of the groups 1 to `n`, in this order, by the spans of the groups that a match closed, in the order of their
-- closing.
abbrev pub group_values : ℕ → List GroupSpan → List (Option (ℕ × ℕ))
group_values zero spans = []
group_values (suc n) spans = group_values n spans ++ group (suc n) spans ∷ []

-- A match as a `Sight`: its start and end, the values of the groups 1 to `groups`, and the number of the group that was closed
-- last.
abbrev pub sight_of : ℕ → Match → Sight
sight_of groups m = record { start = m.start; end = m.found.end; groups = group_values groups m.found.spans; last = last_group m.found.spans }

-- What the pattern `p` finds on the text `w`, or `None`. With `Fullmatch` and `Match` it is the match that begins at position
-- `i`; `advance` says that only matches that aren't empty count. With `OneSearch` it is the first match of a search from the
-- text's start, whatever `advance` and `i` are.
abbrev pub found_in : How → MarkedPattern → List ℕ → Bool → ℕ → Option Match
found_in Fullmatch p w advance i = begun i (match_at (matcher_in Fullmatch p) w advance i) None
found_in EachMatch p w advance i = begun i (match_at (matcher_in EachMatch p) w advance i) None
found_in OneSearch p w advance i = search_from (matcher_in OneSearch p) w false 0
