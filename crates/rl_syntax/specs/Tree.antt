-- Trees. A lowered pattern is a tree of the operators of Python's `re`. A set is the test of its characters: the function from
-- codes to `true` or `false`. A guard is an anchor, a word boundary or a lookaround of one character: it tests a position of a
-- text and reads no character. A universe is the range of codes, from 0, that a text may contain: those of `str` or those of
-- `bytes`.
use Rattle.std.specs.Prelude.{ℕ, suc, ◌+◌, ◌<◌, Bool, false, ◌||◌, IsTrue, List, [], ◌∷◌, ◌++◌, min}
use Rattle.rl_ranges.specs.Codes.{has}
use Rattle.rl_ranges.specs.Text.{code_count}
use Rattle.rl_ranges.specs.declared.universe.Universe.{Universe}
use Rattle.rl_syntax.specs.declared.anchors.Guard.{Guard}
use Rattle.rl_syntax.specs.declared.re.Re.{Re, Empty, One, Both', Either', Many', Guard as GuardRe}
use Rattle.rl_syntax.specs.Guards.{sets_named, is_look}

-- A lowered pattern.
pub data Tree : Type 0 where
  -- Matches the empty text.
  empty : Tree
  -- Matches one character of the set.
  one : (ℕ → Bool) → Tree
  -- Matches the empty text at each position at which the guard holds.
  guard : Guard → Tree
  -- The first tree, then the second.
  both : Tree → Tree → Tree
  -- Either tree. The first one is tried first.
  either : Tree → Tree → Tree
  -- The tree any number of times. If the flag is `true` (greedy), one more repetition is tried before stopping.
  many : Tree → Bool → Tree

-- The tree that contracts see in place of the program's tree, node by node. Each list of ranges becomes the test of its codes.
abbrev pub tree_of : Re → Tree
tree_of Empty = empty
tree_of (One set) = one (has set)
tree_of (GuardRe g) = guard g
tree_of (Both' p e q f) = both (tree_of e) (tree_of f)
tree_of (Either' p e q f) = either (tree_of e) (tree_of f)
tree_of (Many' p e greedy) = many (tree_of e) greedy

-- The number of nodes of the tree, inner nodes and leaves.
abbrev pub size : Tree → ℕ
size empty = 1
size (one set) = 1
size (guard g) = 1
size (both e f) = suc (size e + size f)
size (either e f) = suc (size e + size f)
size (many e greedy) = suc (size e)

-- The number `n`, or 2^64 - 1 if it is larger.
abbrev pub capped : ℕ → ℕ
capped n = min n 18446744073709551615

-- The number of places of the tree. Its places are its `one` nodes, from left to right, each an occurrence of a set. Equal
-- sets count separately; sets that guards use don't count.
abbrev pub places : Tree → ℕ
places empty = 0
places (one set) = 1
places (guard g) = 0
places (both e f) = places e + places f
places (either e f) = places e + places f
places (many e greedy) = places e

-- The sets of the tree's `one` nodes, from left to right. Equal sets are repeated. The sets that guards use aren't among them.
abbrev pub sets_in : Tree → List (ℕ → Bool)
sets_in empty = []
sets_in (one set) = set ∷ []
sets_in (guard g) = []
sets_in (both e f) = sets_in e ++ sets_in f
sets_in (either e f) = sets_in e ++ sets_in f
sets_in (many e greedy) = sets_in e

-- The guards in the tree, from left to right. Equal guards are repeated.
abbrev pub guards_in : Tree → List Guard
guards_in empty = []
guards_in (one set) = []
guards_in (guard g) = g ∷ []
guards_in (both e f) = guards_in e ++ guards_in f
guards_in (either e f) = guards_in e ++ guards_in f
guards_in (many e greedy) = guards_in e

-- The sets that the tree's guards use, from left to right: for each guard, the line feeds, the word characters, the set of a
-- lookaround, or none.
abbrev pub guard_sets : Tree → List (ℕ → Bool)
guard_sets empty = []
guard_sets (one set) = []
guard_sets (guard g) = sets_named g
guard_sets (both e f) = guard_sets e ++ guard_sets f
guard_sets (either e f) = guard_sets e ++ guard_sets f
guard_sets (many e greedy) = guard_sets e

-- Whether some guard of the tree is a lookaround. No tree of a pattern within the profile of `relint` has one.
abbrev pub has_look : Tree → Bool
has_look empty = false
has_look (one set) = false
has_look (guard g) = is_look g
has_look (both e f) = has_look e || has_look f
has_look (either e f) = has_look e || has_look f
has_look (many e greedy) = has_look e

-- Holds if the set holds only codes of the universe.
abbrev pub LiesIn : Universe → (ℕ → Bool) → Type 0
LiesIn universe set = (code : ℕ) → IsTrue (set code) → code < code_count universe

-- Holds if each set of the list holds only codes of the universe. Holds for the empty list.
abbrev pub AllLieIn : Universe → List (ℕ → Bool) → Type 0
AllLieIn universe [] = Unit {0}
AllLieIn universe (set ∷ sets) = LiesIn universe set × AllLieIn universe sets

-- Holds if the tree's sets, and the sets that its guards use, hold only codes of the universe.
abbrev pub IsOver : Universe → Tree → Type 0
IsOver universe empty = Unit {0}
IsOver universe (one set) = LiesIn universe set
IsOver universe (guard g) = AllLieIn universe (sets_named g)
IsOver universe (both e f) = IsOver universe e × IsOver universe f
IsOver universe (either e f) = IsOver universe e × IsOver universe f
IsOver universe (many e greedy) = IsOver universe e
