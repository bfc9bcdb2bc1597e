-- The children of a folder: their order, their paths, and which names source files have. A child is an entry of a folder, with
-- its name and its kind. Paths and names are lists of bytes.
use Rattle.std.specs.Prelude.{ℕ, Bool, List, ◌++◌, [], if◌then◌else◌, codes, nat_eq, IsPermutation}
use Rattle.std.specs.List.{ends_with}
use Rattle.std.specs.List.Sorted.{IsSorted}
use Rattle.std.specs.Ordering.{nat_cmp}
use Rattle.std.specs.Cmp.Lexicographic.{slice_cmp}
use Rattle.std.specs.declared.cmp.Ordering.{Ordering}
use Rattle.rl_source.specs.declared.nodes.Child.{Child}

-- What separates the path `folder` from the name of a child: nothing if the path ends in a slash, otherwise a slash (also
-- after the empty path).
abbrev pub slash_after : List ℕ → List ℕ
slash_after folder = if ends_with nat_eq folder (codes "/") then [] else codes "/"

-- The path of the child with the name `name` in the folder with the path `folder`: both, with a slash between them unless
-- `folder` ends in one.
abbrev pub path_below : List ℕ → List ℕ → List ℕ
path_below folder name = folder ++ slash_after folder ++ name

-- Whether the name ends in `.py`. The name `.py` does.
abbrev pub has_source_name : List ℕ → Bool
has_source_name name = ends_with nat_eq name (codes ".py")

-- The order of two children by their names, compared lexicographically as lists of bytes: a proper prefix comes first.
abbrev pub by_name : Child → Child → Ordering
by_name a b = slice_cmp nat_cmp a.name b.name

-- Holds if `sorted` contains exactly the items of `children`, in ascending order of their names as lists of bytes. Children
-- with the same name may come in either order.
pub record IsInOrder (children sorted : List Child) : Type 0 where
  pub same : IsPermutation children sorted
  pub rising : IsSorted by_name sorted
