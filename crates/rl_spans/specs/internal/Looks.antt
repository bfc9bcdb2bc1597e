-- The sets of the lookarounds of trees. A guard of a tree may be a lookaround, which tests whether its set holds the code before
-- or after a place.
use Rattle.std.specs.Prelude.{ℕ, Bool, List, [], ◌∷◌, ◌++◌}
use Rattle.rl_ranges.specs.Codes.{has}
use Rattle.rl_syntax.specs.declared.anchors.Guard.{Guard}
use Rattle.rl_syntax.specs.declared.anchors.Guard.TheVariants.{Look}
use Rattle.rl_syntax.specs.Tree.{Tree, empty, one, guard, both, either, many}
use Rattle.rl_marks.specs.Marked.{plain}
use Rattle.rl_marks.specs.Hits.{Matcher}

-- The set of the guard if it is a lookaround, as a list of at most one set.
abbrev pub set_looked_for : Guard → List (ℕ → Bool)
set_looked_for (Look behind negated ranges) = has ranges ∷ []
set_looked_for _ = []

-- The sets of the tree's lookarounds, from left to right.
abbrev pub look_sets : Tree → List (ℕ → Bool)
look_sets empty = []
look_sets (one set) = []
look_sets (guard g) = set_looked_for g
look_sets (both e f) = look_sets e ++ look_sets f
look_sets (either e f) = look_sets e ++ look_sets f
look_sets (many e greedy) = look_sets e

-- The sets of the lookarounds of both trees.
abbrev pub looks_of_both : Matcher → Matcher → List (ℕ → Bool)
looks_of_both s t = look_sets (plain s.tree) ++ look_sets (plain t.tree)
