-- The values that the functions for lowering patterns and counting nodes work on. A `PatTree` is a pattern as it is written,
-- with the span (the range of positions) of each part. A `Tree` is a lowered pattern, made of a few operators.
use Rattle.std.specs.Prelude.{ℕ, zero, suc, ◌+◌, List, [], ◌∷◌, Option, None, Some}
use Rattle.rl_syntax.specs.declared.span.Span.{Span}
use Rattle.rl_syntax.specs.declared.pat.Branch.{Branch}
use Rattle.rl_syntax.specs.declared.pat.Pat.TheFolds.{fold-Branch}
use Rattle.rl_syntax.specs.declared.re.Re.{Re}
use Rattle.rl_syntax.specs.PatTree.{PatTree, layer_of, branch_of}
use Rattle.rl_syntax.specs.Tree.{Tree, tree_of}

-- The span of a branch of a choice, and the pattern tree of its body, given the program's value for the branch.
abbrev pub branch_tree : Branch → Span × PatTree
branch_tree = fold-Branch PatTree (Span × PatTree) layer_of branch_of

-- The list of the one tree in the option, or the empty list if there is none.
abbrev pub trees_of_option : Option Re → List Tree
trees_of_option None = []
trees_of_option (Some re) = tree_of re ∷ []

-- The number of nodes of the tree that joins some trees, in sequence or as a choice. The first argument is the number of the
-- trees, and they have `nodes` nodes together. Each tree except the last adds one node, which joins it to the rest. If there
-- are no trees, the result is the empty tree, which has one node, whatever `nodes` is.
abbrev pub joined_nodes : ℕ → ℕ → ℕ
joined_nodes zero nodes = 1
joined_nodes (suc k) nodes = nodes + k
