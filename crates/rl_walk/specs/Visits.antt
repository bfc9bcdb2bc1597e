-- The visits of a walk over a map, and the calls of the tree that it makes. The map of a tree of files is the list of its
-- nodes, which are paths with what is there. A step is a task of the walk: to find out what is at a given path, to read a
-- file, to enter a folder, or to report a given path that is neither. A path is met when the walk first takes the file or the
-- folder there; later it is skipped. A call asks a tree for the kind, the children or the bytes of a path, and its mark says
-- whether it failed. A visit is what the walk reports about a path: a source with its bytes, or why there is none. The trail
-- is the list of the calls on the tree so far, in order, except those that ran out of memory.
use Rattle.std.specs.Prelude.{◌≡◌, ℕ, ◌+◌, ◌<◌, ◌≤◌, Bool, true, false, List, [], ◌∷◌, ◌++◌, take, map, Option, Some}
use Rattle.std.specs.List.{list_any}
use Rattle.rl_lists.specs.declared.limits.TheConstants.{MOST_BYTES}
use Rattle.rl_source.specs.Asked.{call_of}
use Rattle.rl_source.specs.Faults.{Rose}
use Rattle.rl_source.specs.NodeMap.{kind_at, children_at, bytes_at}
use Rattle.rl_source.specs.Revealed.{Revealed, after}
use Rattle.rl_source.specs.declared.nodes.Call.{Call}
use Rattle.rl_source.specs.declared.nodes.Query.TheVariants as query
use Rattle.rl_source.specs.declared.nodes.Child.{Child}
use Rattle.rl_source.specs.declared.nodes.Kind.{Kind}
use Rattle.rl_source.specs.declared.nodes.Node.{Node}
use Rattle.rl_walk.specs.declared.visits.Visit.{Visit}
use Rattle.rl_walk.specs.declared.visits.Visit.TheVariants.{Source, Unreadable, TooDeep, NotPlain}
use Rattle.rl_walk.specs.Children.{IsInOrder}
use Rattle.rl_walk.specs.Steps.{Step, named, file, folder, other, step_for, steps_below, is_met}
use Rattle.rl_walk.specs.declared.walking.TheConstants.{MOST_LEVELS}

-- Holds if, over the map `nodes`, with these steps left to do and these paths met, a walk may make these calls and these
-- visits, both in order. Which calls fail is free. If no two nodes have the same path and no two children of a folder the same
-- name, the map, the steps, the paths met and the marks of the calls determine the calls and the visits.
pub data IsWalk (nodes : List Node) : List Step → List (List ℕ) → List Call → List Visit → Type 0 where
  -- Nothing is left to do.
  done : {met : List (List ℕ)} → IsWalk nodes [] met [] []
  -- The kind of a given path is queried, each time that it is given.
  unknown : {path : List ℕ} {rest : List Step} {met : List (List ℕ)} {calls : List Call} {visits : List Visit}
      → IsWalk nodes rest met calls visits
      → IsWalk nodes (named path ∷ rest) met (call_of query.Kind path true ∷ calls) (Unreadable path ∷ visits)
  known : {path : List ℕ} {rest : List Step} {met : List (List ℕ)} {calls : List Call} {visits : List Visit} {kind : Kind}
      → kind_at nodes path ≡ Some kind
      → IsWalk nodes (step_for kind path ∷ rest) met calls visits
      → IsWalk nodes (named path ∷ rest) met (call_of query.Kind path false ∷ calls) visits
  not_plain : {path : List ℕ} {rest : List Step} {met : List (List ℕ)} {calls : List Call} {visits : List Visit}
      → IsWalk nodes rest met calls visits
      → IsWalk nodes (other path ∷ rest) met calls (NotPlain path ∷ visits)
  -- A file that was met before is skipped. Any other file is met now, and read: the call asks for one byte more than a source
  -- may have.
  file_again : {path : List ℕ} {rest : List Step} {met : List (List ℕ)} {calls : List Call} {visits : List Visit}
      → is_met path met ≡ true
      → IsWalk nodes rest met calls visits
      → IsWalk nodes (file path ∷ rest) met calls visits
  unread : {path : List ℕ} {rest : List Step} {met : List (List ℕ)} {calls : List Call} {visits : List Visit}
      → is_met path met ≡ false
      → IsWalk nodes rest (met ++ path ∷ []) calls visits
      → IsWalk nodes (file path ∷ rest) met (call_of (query.Read (MOST_BYTES + 1)) path true ∷ calls) (Unreadable path ∷ visits)
  source : {path : List ℕ} {rest : List Step} {met : List (List ℕ)} {calls : List Call} {visits : List Visit} {content : List ℕ}
      → is_met path met ≡ false
      → bytes_at nodes path ≡ Some content
      → IsWalk nodes rest (met ++ path ∷ []) calls visits
      → IsWalk nodes (file path ∷ rest) met (call_of (query.Read (MOST_BYTES + 1)) path false ∷ calls) (Source path (take (MOST_BYTES + 1) content) ∷ visits)
  -- A folder that was met before is skipped. Any other folder is met now, and entered unless it is too deep.
  folder_again : {path : List ℕ} {level : ℕ} {rest : List Step} {met : List (List ℕ)} {calls : List Call} {visits : List Visit}
      → is_met path met ≡ true
      → IsWalk nodes rest met calls visits
      → IsWalk nodes (folder path level ∷ rest) met calls visits
  too_deep : {path : List ℕ} {level : ℕ} {rest : List Step} {met : List (List ℕ)} {calls : List Call} {visits : List Visit}
      → is_met path met ≡ false
      → MOST_LEVELS < level
      → IsWalk nodes rest (met ++ path ∷ []) calls visits
      → IsWalk nodes (folder path level ∷ rest) met calls (TooDeep path ∷ visits)
  unlisted : {path : List ℕ} {level : ℕ} {rest : List Step} {met : List (List ℕ)} {calls : List Call} {visits : List Visit}
      → is_met path met ≡ false
      → level ≤ MOST_LEVELS
      → IsWalk nodes rest (met ++ path ∷ []) calls visits
      → IsWalk nodes (folder path level ∷ rest) met (call_of query.Children path true ∷ calls) (Unreadable path ∷ visits)
  -- The children come in the order of their names, before the steps that were left to do.
  listed : {path : List ℕ} {level : ℕ} {rest : List Step} {met : List (List ℕ)} {calls : List Call} {visits : List Visit} {children sorted : List Child}
      → is_met path met ≡ false
      → level ≤ MOST_LEVELS
      → children_at nodes path ≡ Some children
      → IsInOrder children sorted
      → IsWalk nodes (steps_below path level sorted ++ rest) (met ++ path ∷ []) calls visits
      → IsWalk nodes (folder path level ∷ rest) met (call_of query.Children path false ∷ calls) visits

-- Whether the visit is `Unreadable`, which reports that a call of the tree for its path failed.
abbrev pub is_unreadable : Visit → Bool
is_unreadable (Unreadable path) = true
is_unreadable _ = false

-- Whether some call of the list failed. `false` for the empty list.
abbrev pub has_failed : List Call → Bool
has_failed calls = list_any (λ c. c.failed) calls

-- Whether some visit of the list is `Unreadable`. `false` for the empty list.
abbrev pub has_unreadable : List Visit → Bool
has_unreadable visits = list_any is_unreadable visits

-- A tree at some moment: `told`, its map and its trail, or `None` if it doesn't reveal them; and `faults`, its fault count,
-- which is the number of its calls that failed, at most 2^64 - 1.
pub record Moment : Type 0 where
  pub told : Option Revealed
  pub faults : ℕ

-- The current moment of a tree, given the functions that return what a tree reveals and its fault count.
abbrev pub moment_of : {T : Type 0} → (T → Option Revealed) → (T → ℕ) → T → Moment
moment_of told faults tree = record { told = told tree; faults = faults tree }

-- Holds if between the two moments the tree was walked, beginning at `paths` with no path met yet. If the tree reveals its map
-- and its trail, the calls of the walk were added to the trail, and `calls` and `visits` are those of the rules of `IsWalk`.
-- The visitor has received the visits in order: `before` and `now` say which lists of visits it had received at the two
-- moments. Some visit is `Unreadable` if and only if some call failed. If one is, the fault count increased, or it is
-- saturated: 2^64 - 1.
pub record Walked (old new : Moment) (paths : List (List ℕ)) (before now : List Visit → Type 0) : Type 0 where
  pub calls : List Call
  pub visits : List Visit
  pub trail : new.told ≡ after calls old.told
  pub right : (t : Revealed) → old.told ≡ Some t → IsWalk t.nodes (map named paths) [] calls visits
  pub told : (earlier : List Visit) → before earlier → now (earlier ++ visits)
  pub failures : has_unreadable visits ≡ has_failed calls
  pub cause : has_unreadable visits ≡ true → Rose old.faults new.faults
