-- A list of nodes as a finite map from paths to what is there: a file with its bytes, a folder with its children, or neither.
-- A child is an entry of a folder, with its name and its kind. Paths are lists of bytes.
use Rattle.std.specs.Prelude.{ℕ, List, Option, Some, None, option_map, option_and_then, find, bytes_eq}
use Rattle.rl_source.specs.declared.nodes.Kind.{Kind}
use Rattle.rl_source.specs.declared.nodes.Kind.TheVariants as kind
use Rattle.rl_source.specs.declared.nodes.Child.{Child}
use Rattle.rl_source.specs.declared.nodes.Held.{Held}
use Rattle.rl_source.specs.declared.nodes.Held.TheVariants as held
use Rattle.rl_source.specs.declared.nodes.Node.{Node}

-- What is at the path, or `None` if no node has the path. If several do, the first counts.
abbrev pub found_at : List Node → List ℕ → Option Held
found_at nodes path = option_map (λ n. n.held) (find (λ n. bytes_eq n.path path) nodes)

-- The kind of what is at some path: a file, a folder, or neither (`Other`).
abbrev pub kind_of : Held → Kind
kind_of (held.File content) = kind.File
kind_of (held.Folder children) = kind.Folder
kind_of held.Other = kind.Other

-- The children of a folder, or `None` for anything else.
abbrev pub children_of : Held → Option (List Child)
children_of (held.File content) = None
children_of (held.Folder children) = Some children
children_of held.Other = None

-- The bytes of a file, or `None` for anything else.
abbrev pub bytes_of : Held → Option (List ℕ)
bytes_of (held.File content) = Some content
bytes_of (held.Folder children) = None
bytes_of held.Other = None

-- The kind of what is at a path, or `None` if no node has the path. What is neither a file nor a folder has the kind `Other`.
abbrev pub kind_at : List Node → List ℕ → Option Kind
kind_at nodes path = option_map kind_of (found_at nodes path)

-- The children of the folder at a path, or `None` if no folder is there.
abbrev pub children_at : List Node → List ℕ → Option (List Child)
children_at nodes path = option_and_then children_of (found_at nodes path)

-- The bytes of the file at a path, or `None` if no file is there.
abbrev pub bytes_at : List Node → List ℕ → Option (List ℕ)
bytes_at nodes path = option_and_then bytes_of (found_at nodes path)
