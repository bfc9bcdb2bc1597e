-- Cost: the number of steps that a backtracking matcher takes on a text. The run of a tree (a lowered pattern) is the list of
-- its steps: tests of a character against a set, and ends, which are positions at which the whole tree has ended. An end is a
-- hit if a match may end at its position. The cost is one more than the number of steps up to and including the first hit, or
-- one more than the number of all steps if there is no hit. Choices and guards cost nothing. An ending says where a match may
-- end: only at the end of the text, or anywhere.
use Rattle.std.specs.Prelude.{ℕ, zero, suc, Bool, true, false, ◌||◌, ◌==◌, List, [], ◌∷◌, length}
use Rattle.rl_syntax.specs.declared.re.Ending.{Ending}
use Rattle.rl_syntax.specs.declared.re.Ending.TheVariants.{AtEnd, Anywhere}
use Rattle.rl_syntax.specs.Tree.{Tree}
use Rattle.rl_syntax.specs.Run.{Step, test, end, run}

-- For each step of a run, whether it is a hit: an end is one if `hit` accepts its position, and a test of a character never
-- is.
abbrev pub tests : (ℕ → Bool) → List Step → List Bool
tests hit [] = []
tests hit (test ∷ steps) = false ∷ tests hit steps
tests hit (end j ∷ steps) = hit j ∷ tests hit steps

-- The number of items up to and including the first hit, which is the first `true`, or of all items if there is no hit. It is
-- 0 for the empty list.
abbrev pub up_to_hit : List Bool → ℕ
up_to_hit [] = zero
up_to_hit (true ∷ l) = suc zero
up_to_hit (false ∷ l) = suc (up_to_hit l)

-- Whether some item of the list is a hit (`true`). `false` for the empty list.
abbrev pub has_hit : List Bool → Bool
has_hit [] = false
has_hit (hit ∷ l) = hit || has_hit l

-- Whether a match may end at position `j` of a text of the length `size`: only at `size` with the ending `AtEnd`, at any
-- position with `Anywhere`.
abbrev pub is_hit : Ending → ℕ → ℕ → Bool
is_hit AtEnd size j = j == size
is_hit Anywhere size j = true

-- For each step of the tree's run on the text `w` from position 0, in order, whether it is a hit.
unfoldable pub all_tests : Tree → Ending → List ℕ → List Bool
all_tests t ending w = tests (is_hit ending (length w)) (run t w zero)

-- The cost of the tree on the text `w`: one more than the number of steps up to and including the first hit, or than the
-- number of all steps if there is no hit.
abbrev pub cost : Tree → Ending → List ℕ → ℕ
cost t ending w = suc (up_to_hit (all_tests t ending w))

-- Whether the tree matches the text `w`: some step of its run from position 0 is a hit.
abbrev pub matched : Tree → Ending → List ℕ → Bool
matched t ending w = has_hit (all_tests t ending w)
