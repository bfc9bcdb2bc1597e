-- Sights of what a run of threads found, and of what a side finds. Caps are what is known of the groups on the way: `held` has
-- the last span of each group that was closed, and `last` is the number of the group that was closed last.
use Rattle.std.specs.Prelude.{ℕ, zero, suc, Bool, false, List, [], ◌∷◌, ◌++◌, Option, None, option_map}
use Rattle.rl_marks.specs.Hits.{match_at}
use Rattle.rl_marks.specs.Searches.{begun, search_from}
use Rattle.rl_marks.specs.declared.asked.How.{How}
use Rattle.rl_marks.specs.declared.asked.How.TheVariants.{Fullmatch, Match, OneSearch}
use Rattle.rl_marks.specs.declared.spans.GroupSpan.{GroupSpan}
use Rattle.rl_marks.specs.internal.Caps.{span_of_group}
use Rattle.rl_marks.specs.internal.Walk.{Ended}
use Rattle.rl_spans.specs.declared.finding.Sight.{Sight}
use Rattle.rl_spans.specs.declared.side.Side.{Side}
use Rattle.rl_spans.specs.Sights.{sight_of}
use Rattle.rl_spans.specs.internal.Sides.{matcher_of}

-- The spans in `held` of the groups 1 to `n`, in this order; `None` for a group that has none there.
abbrev pub held_values : ℕ → List GroupSpan → List (Option (ℕ × ℕ))
held_values zero held = []
held_values (suc n) held = held_values n held ++ span_of_group (suc n) held ∷ []

-- The end of a run that began at position `start`, as a `Sight` with the values of the groups 1 to `groups`.
abbrev pub held_sight : ℕ → ℕ → Ended → Sight
held_sight groups start x = record { start = start; end = x.place; groups = held_values groups x.caps.held; last = x.caps.last }

-- What a side finds on the text `w` as a match that begins at position `i`, with the values of the groups 1 to `groups`;
-- `None` if it finds none. `advance` says that only matches that aren't empty count.
unfoldable pub sight_in : ℕ → Side → List ℕ → Bool → ℕ → Option Sight
sight_in groups side w advance i = option_map (sight_of groups) (begun i (match_at (matcher_of side) w advance i) None)

-- What a search with a side finds on the text `w` from position `i` on, with the values of the groups 1 to `groups`, or
-- `None`.
unfoldable pub sight_sought_in : ℕ → Side → List ℕ → ℕ → Option Sight
sight_sought_in groups side w i = option_map (sight_of groups) (search_from (matcher_of side) w false i)

-- What a side that is asked as `how` says finds on the text `w`, or `None`: with `OneSearch` by a search from the text's
-- start, whatever `advance` and `i` are, and otherwise as a match that begins at position `i`.
abbrev pub sight_asked : How → ℕ → Side → List ℕ → Bool → ℕ → Option Sight
sight_asked Fullmatch groups side w advance i = sight_in groups side w advance i
sight_asked Match groups side w advance i = sight_in groups side w advance i
sight_asked OneSearch groups side w advance i = sight_sought_in groups side w 0
