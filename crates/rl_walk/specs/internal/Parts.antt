-- For private contracts: what a part of a walk does. The map of a tree of files is the list of its nodes, which are paths with
-- what is there. A step is a task of the walk: to find out what is at a given path, to read a file, to enter a folder, or to
-- report a given path that is neither. A path is met when the walk first takes the file or the folder there; later it is
-- skipped. A call asks a tree for the kind, the children or the bytes of a path, and its mark says whether it failed. A visit
-- is what the walk reports about a path: a source with its bytes, or why there is none. The trail is the list of the calls on
-- the tree so far, in order, except those that ran out of memory.
use Rattle.std.specs.Prelude.{◌≡◌, ℕ, true, List, ◌++◌, Some}
use Rattle.rl_source.specs.Faults.{Rose}
use Rattle.rl_source.specs.Revealed.{Revealed, after}
use Rattle.rl_source.specs.declared.nodes.Call.{Call}
use Rattle.rl_source.specs.declared.nodes.Node.{Node}
use Rattle.rl_walk.specs.declared.visits.Visit.{Visit}
use Rattle.rl_walk.specs.Steps.{Step}
use Rattle.rl_walk.specs.Visits.{IsWalk, Moment, has_failed, has_unreadable}

-- Holds if, over the map `nodes`, these steps make these calls and visits and change the paths met from `met` to `met_after`,
-- whatever is left to do afterwards: a walk that does the steps first makes these calls and visits first, and then goes on
-- with the rest.
pub record Begins (nodes : List Node) (steps : List Step) (met met_after : List (List ℕ)) (calls : List Call) (visits : List Visit) : Type 0 where
  pub then : (rest : List Step) (later_calls : List Call) (later_visits : List Visit)
      → IsWalk nodes rest met_after later_calls later_visits
      → IsWalk nodes (steps ++ rest) met (calls ++ later_calls) (visits ++ later_visits)

-- Holds if between the two moments a walk did these steps, which changed the paths met from `met` to `met_after`. A moment is
-- what the tree reveals (its map and its trail, or nothing) and its fault count. If the tree reveals its trail, the calls were
-- added to it. The visitor received the visits in order: `before` and `now` say which lists of visits it had received at the
-- two moments. Some visit is `Unreadable` if and only if some call failed. If one is, the fault count increased, or it is
-- saturated: 2^64 - 1. If the tree reveals nothing, nothing is said of how the calls and visits follow from the steps.
pub record Does (steps : List Step) (old new : Moment) (met met_after : List (List ℕ)) (before now : List Visit → Type 0) : Type 0 where
  pub calls : List Call
  pub visits : List Visit
  pub trail : new.told ≡ after calls old.told
  pub begins : (t : Revealed) → old.told ≡ Some t → Begins t.nodes steps met met_after calls visits
  pub told : (earlier : List Visit) → before earlier → now (earlier ++ visits)
  pub failures : has_unreadable visits ≡ has_failed calls
  pub cause : has_unreadable visits ≡ true → Rose old.faults new.faults
