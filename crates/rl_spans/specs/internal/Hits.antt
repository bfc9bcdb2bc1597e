-- What a side finds on a text, as the end of a run of its threads. The end of a run is a position, with what is known of the
-- groups.
use Rattle.std.specs.Prelude.{ℕ, Bool, List, [], ◌∷◌, Option, None, Some}
use Rattle.rl_marks.specs.declared.threads.Caps.{Caps}
use Rattle.rl_marks.specs.Marked.{marked_of}
use Rattle.rl_marks.specs.Hits.{is_hit_from}
use Rattle.rl_marks.specs.internal.Caps.{no_caps}
use Rattle.rl_marks.specs.internal.Walk.{Ended}
use Rattle.rl_marks.specs.internal.Threads.{thread, first_ended, walks}
use Rattle.rl_spans.specs.declared.running.Hit.{Hit}
use Rattle.rl_spans.specs.declared.side.Side.{Side}

-- The end of a run that the program's `Hit` says.
abbrev pub end_of : Hit → Ended
end_of hit = record { place = hit.end; caps = hit.caps }

-- The same for an `Option`: `None` if there is no hit.
abbrev pub ended_of : Option Hit → Option Ended
ended_of None = None
ended_of (Some hit) = Some (end_of hit)

-- The end at position `i` with what is known of the groups there, if the threads stop there, and otherwise the end found
-- before, `x`.
abbrev pub later_of : ℕ → Option Caps → Option Ended → Option Ended
later_of i None x = x
later_of i (Some c) x = Some (record { place = i; caps = c })

-- The end of the match that a side finds on the text `w` from position `i` on, or `None`: the first end of its threads at
-- which a match may end. `advance` says that only matches that aren't empty count.
abbrev pub found_at : Side → List ℕ → Bool → ℕ → Option Ended
found_at side w advance i = first_ended (is_hit_from side.ending advance w i) (walks (marked_of side.tree) w (thread 0 no_caps ∷ []) i)
