-- Ways as they are shown in a pattern. A way has a told item for each code of a text: the place of the tree that takes the code,
-- and the decisions on the way to it. Nodes and places are numbered from 0; the origin of a node is where it comes from in the
-- pattern. All these are defined in `rl_ways`.
use Rattle.std.specs.Prelude.{◌≡◌, ℕ, Bool, true, false, ◌==◌, ◌&&◌, List, [], ◌∷◌, ◌++◌, length, map, filter, Option, None, Some, slice_index_or}
use Rattle.rl_syntax.specs.declared.span.Span.{Span}
use Rattle.rl_ways.specs.declared.item.ToldItem.{ToldItem}
use Rattle.rl_ways.specs.declared.item.Decision.{Decision}
use Rattle.rl_ways.specs.declared.item.Decision.TheVariants.{Left as left, Right as right, Round as round, Stop as stop}
use Rattle.rl_ways.specs.declared.origin.Origin.{Origin}
use Rattle.rl_ways.specs.declared.origin.Origin.TheVariants.{Joint as joint, Character as character, Position as position, Branch as branch_from, Copy as copy, Loop as loop_at, Skip as skip, Skipped as skipped, LastLine as last_line, LineFeed as line_feed}
pub use Rattle.rl_why.specs.declared.shown.Side.{Side}
pub use Rattle.rl_why.specs.declared.shown.Side.TheVariants.{Left, Right, Round, Stop}
pub use Rattle.rl_why.specs.declared.shown.Taken.{Taken}
pub use Rattle.rl_why.specs.declared.shown.Step.{Step}

-- The span of an origin, if it is something that is written in the pattern.
abbrev pub span_at : Origin → Option Span
span_at joint = None
span_at (character span) = Some span
span_at (position span) = Some span
span_at (branch_from span i) = Some span
span_at (copy span mark) = Some span
span_at (loop_at span mark) = Some span
span_at skip = None
span_at skipped = None
span_at last_line = None
span_at line_feed = None

-- Whether a node with the origin reads a character.
abbrev pub reads : Origin → Bool
reads joint = false
reads (character span) = true
reads (position span) = false
reads (branch_from span i) = false
reads (copy span mark) = false
reads (loop_at span mark) = false
reads skip = false
reads skipped = true
reads last_line = false
reads line_feed = true

-- The origins of the places, from left to right, given those of the nodes.
abbrev pub readers : List Origin → List Origin
readers nodes = filter reads nodes

-- The origin with the index, or `joint` if there is none.
abbrev pub origin_at : List Origin → ℕ → Origin
origin_at origins k = slice_index_or origins k joint

-- What is decided.
abbrev pub side_of : Decision → Side
side_of (left n) = Left
side_of (right n) = Right
side_of (round n) = Round
side_of (stop n) = Stop

-- The node at which it is decided.
abbrev pub node_of : Decision → ℕ
node_of (left n) = n
node_of (right n) = n
node_of (round n) = n
node_of (stop n) = n

-- The decision as it is shown, given the origins of the nodes.
abbrev pub taken_of : List Origin → Decision → Taken
taken_of nodes d = record { side = side_of d; at = origin_at nodes (node_of d) }

-- The origin of a place.
abbrev pub place_in : List Origin → Option ℕ → Origin
place_in nodes None = joint
place_in nodes (Some p) = origin_at (readers nodes) p

-- The told item as it is shown.
abbrev pub step_of : List Origin → ToldItem → Step
step_of nodes m = record { took = map (taken_of nodes) m.decisions; place = place_in nodes m.place }

-- The way as it is shown.
abbrev pub shown : List Origin → List ToldItem → List Step
shown nodes l = map (step_of nodes) l

-- The number of a side.
abbrev pub code_of : Side → ℕ
code_of Left = 0
code_of Right = 1
code_of Round = 2
code_of Stop = 3

-- Whether the same is decided, decision by decision.
abbrev pub are_alike : List Taken → List Taken → Bool
are_alike [] [] = true
are_alike [] (t ∷ m) = false
are_alike (s ∷ l) [] = false
are_alike (s ∷ l) (t ∷ m) = (code_of s.side == code_of t.side) && are_alike l m

-- Holds if the two ways, as they are shown, are the same up to the step with the index `k`, and what is decided there isn't.
pub record PartAt (k : ℕ) (l m : List Step) : Type 0 where
  pub common : List Step
  pub one : Step
  pub other : Step
  pub rest : List Step
  pub others : List Step
  pub first : l ≡ common ++ one ∷ rest
  pub second : m ≡ common ++ other ∷ others
  pub index : length common ≡ k
  pub apart : are_alike one.took other.took ≡ false
