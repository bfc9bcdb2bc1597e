-- The steps that a walk has to do, and the paths that it has met. A step is a task of the walk: to find out what is at a given
-- path, to read a file, to enter a folder, or to report a given path that is neither. A path is met when the walk first takes
-- the file or the folder there; later it is skipped. The level of a folder is the number of levels that it is below the path
-- that the walk was given. Paths and names are lists of bytes.
use Rattle.std.specs.Prelude.{ℕ, ◌+◌, Bool, List, [], ◌∷◌, ◌++◌, if◌then◌else◌, bytes_eq}
use Rattle.std.specs.List.{list_any}
use Rattle.rl_source.specs.declared.nodes.Kind.{Kind}
use Rattle.rl_source.specs.declared.nodes.Kind.TheVariants as kind
use Rattle.rl_source.specs.declared.nodes.Child.{Child}
use Rattle.rl_walk.specs.Children.{path_below, has_source_name}

-- A step that a walk has to do.
pub data Step : Type 0 where
  -- Find out what is at a path that the walk was given
  named : List ℕ → Step
  -- Read a file
  file : List ℕ → Step
  -- Enter a folder that is this number of levels below the path that the walk was given
  folder : List ℕ → ℕ → Step
  -- Report that a path that the walk was given is neither a file nor a folder
  other : List ℕ → Step

-- The step for a path that the walk was given, once its kind is known: a file is read, a folder is entered at level 0, and
-- anything else is reported.
abbrev pub step_for : Kind → List ℕ → Step
step_for kind.File path = file path
step_for kind.Folder path = folder path 0
step_for kind.Other path = other path

-- The steps for a child with this kind, name, path and level, at most one: a file whose name ends in `.py` is read, a folder
-- is entered, and everything else is skipped.
abbrev pub child_steps : Kind → List ℕ → List ℕ → ℕ → List Step
child_steps kind.File name path level = if has_source_name name then file path ∷ [] else []
child_steps kind.Folder name path level = folder path level ∷ []
child_steps kind.Other name path level = []

-- The steps for the children of a folder, in the order of the list, given the path and the level of the folder. The level of
-- the children is one more.
abbrev pub steps_below : List ℕ → ℕ → List Child → List Step
steps_below path level [] = []
steps_below path level (child ∷ children) =
    child_steps child.kind child.name (path_below path child.name) (level + 1) ++ steps_below path level children

-- Whether the path is in the list `met` of the paths met, byte for byte.
abbrev pub is_met : List ℕ → List (List ℕ) → Bool
is_met path met = list_any (bytes_eq path) met

-- The list `met` of the paths met, with the path appended if it isn't in the list.
abbrev pub with_path : List (List ℕ) → List ℕ → List (List ℕ)
with_path met path = if is_met path met then met else met ++ path ∷ []
