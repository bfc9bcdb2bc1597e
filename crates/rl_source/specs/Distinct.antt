-- Lists in which nothing occurs twice. A node is a path with what is there: a file, a folder with its children, or neither. A
-- child is an entry of a folder, with its name and its kind.
use Rattle.std.specs.Prelude.{◌≡◌, ℕ, Bool, false, ◌||◌, List, [], ◌∷◌, bytes_eq, IsPermutation}
use Rattle.std.specs.List.{list_any}
use Rattle.rl_source.specs.declared.nodes.Child.{Child}
use Rattle.rl_source.specs.declared.nodes.Held.{Held}
use Rattle.rl_source.specs.declared.nodes.Held.TheVariants as held
use Rattle.rl_source.specs.declared.nodes.Node.{Node}

-- Whether two items at different places of the list have the same key, which `key` gives for each item. `false` for the empty
-- list.
abbrev pub has_double : {X : Type 0} → (X → List ℕ) → List X → Bool
has_double key [] = false
has_double key (x ∷ xs) = list_any (λ y. bytes_eq (key y) (key x)) xs || has_double key xs

-- Whether what is at a path is a folder in which two children have the same name.
abbrev pub names_twice : Held → Bool
names_twice (held.File content) = false
names_twice (held.Folder children) = has_double (λ c. c.name) children
names_twice held.Other = false

-- Whether two nodes of the list have the same path, or two children of one folder have the same name.
abbrev pub is_double : List Node → Bool
is_double nodes = has_double (λ n. n.path) nodes || list_any (λ n. names_twice n.held) nodes

-- Holds if `found` contains exactly the items of `children`, in any order, and no two of them have the same name.
pub record Lists (children found : List Child) : Type 0 where
  pub same : IsPermutation children found
  pub once : has_double (λ c. c.name) found ≡ false
