-- Ways as values of JSON. A way shows how a text is read: for each character, what reads it, and the decisions before it. Both
-- are given by origins: what they come from in the pattern. `rl_why` defines ways and the spans of origins in its
-- `specs/Shown.antt`.
use Rattle.std.specs.Prelude.{List, map, Option, option_and_then, codes, ℕ}
use Rattle.serde_json.specs.Data.{Data, string, object, no_members, put}
use Rattle.rl_ways.specs.declared.origin.Origin.{Origin}
use Rattle.rl_ways.specs.declared.origin.Origin.TheVariants as origin
use Rattle.rl_why.specs.declared.shown.Side.{Side}
use Rattle.rl_why.specs.declared.shown.Side.TheVariants.{Left, Right, Round, Stop}
use Rattle.rl_why.specs.declared.shown.Step.{Step}
use Rattle.rl_why.specs.declared.shown.Taken.{Taken}
use Rattle.rl_why.specs.Shown.{span_at}
use Rattle.rl_parts.specs.Members.{list_data, place_data}

-- The name of what is decided.
abbrev pub side_name : Side → List ℕ
side_name Left = codes "left"
side_name Right = codes "right"
side_name Round = codes "round"
side_name Stop = codes "stop"

-- The name of an origin. Decisions are made at a `choice` or a `repeat` of the pattern, at the `search` that skips characters
-- before a match, and at the `dollar` that allows a line feed at the end. Other nodes of the tree decide nothing.
abbrev pub kind_name : Origin → List ℕ
kind_name origin.Joint = codes "joint"
kind_name (origin.Character span) = codes "set"
kind_name (origin.Position span) = codes "position"
kind_name (origin.Branch span branch) = codes "choice"
kind_name (origin.Copy span mark) = codes "repeat"
kind_name (origin.Loop span mark) = codes "repeat"
kind_name origin.Skip = codes "search"
kind_name origin.Skipped = codes "search"
kind_name origin.LastLine = codes "dollar"
kind_name origin.LineFeed = codes "dollar"

-- The object of a decision: where it is made, which is `null` if that isn't written in the pattern, and what is decided.
abbrev pub taken_data : Taken → Data
taken_data t =
    object (put (codes "side") (string (side_name t.side))
    (put (codes "kind") (string (kind_name t.at)) (put (codes "at") (place_data (span_at t.at)) no_members)))

-- The object of a step: what reads the character, which is `null` if that isn't written in the pattern, and the decisions
-- before it, in order.
abbrev pub step_data : Step → Data
step_data s =
    object (put (codes "took") (list_data (map taken_data s.took)) (put (codes "place") (place_data (span_at s.place)) no_members))

-- A way as an array of its steps.
abbrev pub way_data : List Step → Data
way_data steps = list_data (map step_data steps)

-- A loop as its span, or `null` if there is none or it isn't written in the pattern.
abbrev pub loop_data : Option Origin → Data
loop_data at = place_data (option_and_then span_at at)
