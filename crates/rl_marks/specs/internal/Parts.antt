-- Optional trees in the contracts of the functions that build trees with groups.
use Rattle.std.specs.Prelude.{List, [], ◌∷◌, Option, None, Some}
use Rattle.rl_marks.specs.declared.tree.MarkTree.{MarkTree}
use Rattle.rl_marks.specs.Marked.{Marked, marked_of}

-- The list that has only the tree that contracts see in place of this `MarkTree`, or the empty list if there is none.
abbrev pub marked_of_option : Option MarkTree → List Marked
marked_of_option None = []
marked_of_option (Some tree) = marked_of tree ∷ []
