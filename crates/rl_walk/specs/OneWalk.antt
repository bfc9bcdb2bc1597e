-- The law that walks are determined by the map, the steps, the paths met, and which calls fail. The map of a tree of files is
-- the list of its nodes, which are paths with what is there. A step is a task of the walk: to find out what is at a given
-- path, to read a file, to enter a folder, or to report a given path that is neither. A path is met when the walk first takes
-- the file or the folder there; later it is skipped. A call asks a tree for the kind, the children or the bytes of a path, and
-- its mark says whether it failed. A visit is what the walk reports about a path: a source with its bytes, or why there is
-- none.
use Rattle.std.specs.Prelude.{◌≡◌, ℕ, Bool, false, List, map}
use Rattle.rl_source.specs.Distinct.{is_double}
use Rattle.rl_source.specs.declared.nodes.Call.{Call}
use Rattle.rl_source.specs.declared.nodes.Node.{Node}
use Rattle.rl_walk.specs.declared.visits.Visit.{Visit}
use Rattle.rl_walk.specs.Steps.{Step}
use Rattle.rl_walk.specs.Visits.{IsWalk}

-- The marks of the calls, in order: for each call, `true` if it failed.
abbrev pub marks : List Call → List Bool
marks calls = map (λ c. c.failed) calls

-- Holds if any two walks over the map `nodes` make the same calls and visits whenever they have the same steps to do, have met
-- the same paths, and their calls have the same marks. It also holds for every map in which two nodes have the same path or
-- two children of one folder have the same name.
abbrev pub IsDetermined : List Node → Type 0
IsDetermined nodes = is_double nodes ≡ false → (steps : List Step) (met : List (List ℕ)) (calls other_calls : List Call) (visits other_visits : List Visit)
    → IsWalk nodes steps met calls visits → IsWalk nodes steps met other_calls other_visits → marks calls ≡ marks other_calls
    → (calls ≡ other_calls) × (visits ≡ other_visits)
