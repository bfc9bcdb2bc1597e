-- The limits on trees that are compared: on their nodes, on their letters, and on the lengths of their item lists. The letters
-- are the classes of codes that the sets of a tree, and those that its guards use, don't tell apart; the common letters of two
-- trees are those of the sets of both. An item list is the list of what a matcher can try next at one point of a tree.
use Rattle.std.specs.Prelude.{◌<◌, ◌≤◌, ◌⊎◌, length}
use Rattle.rl_ranges.specs.declared.universe.Universe.{Universe}
use Rattle.rl_ranges.specs.Letters.{classes}
use Rattle.rl_ranges.specs.Text.{code_count}
use Rattle.rl_ranges.specs.declared.letters.TheConstants.{MOST_LETTERS}
use Rattle.rl_syntax.specs.Tree.{Tree, size}
use Rattle.rl_syntax.specs.declared.limits.TheConstants.{MOST_MOVES, MOST_NODES}
use Rattle.rl_prio.specs.Items.{longest}
use Rattle.rl_prio.specs.Letters.{all_sets}
use Rattle.rl_prio.specs.declared.error.PrioError.{PrioError}
use Rattle.rl_prio.specs.declared.error.PrioError.TheVariants.{Letters as LettersError, Moves as MovesError, OutOfMemory as NoMemory}
use Rattle.rl_equiv.specs.declared.error.SameError.{SameError}
use Rattle.rl_equiv.specs.declared.error.SameError.TheVariants.{Size, Letters, Moves, OutOfMemory}
use Rattle.rl_equiv.specs.SetPairs.{joint_letters}

-- Neither tree has more than `MOST_NODES` nodes.
pub record AreSmall (s t : Tree) : Type 0 where
  pub first_small : size s ≤ MOST_NODES
  pub second_small : size t ≤ MOST_NODES

-- The tree by itself exceeds no limit: neither on its nodes, nor on the letters of its own sets, nor on the length of its item
-- lists.
pub record IsWithin (u : Universe) (t : Tree) : Type 0 where
  pub small : size t ≤ MOST_NODES
  pub few_letters : length (classes (all_sets t) (code_count u)) ≤ MOST_LETTERS
  pub few_moves : longest t ≤ MOST_MOVES

-- The two trees exceed no limit: neither one on its nodes, nor both on their common letters, nor one on the length of its item
-- lists.
pub record AreWithin (u : Universe) (s t : Tree) : Type 0 where
  pub small : AreSmall s t
  pub few_letters : length (joint_letters u s t) ≤ MOST_LETTERS
  pub first_moves : longest s ≤ MOST_MOVES
  pub second_moves : longest t ≤ MOST_MOVES

-- The error names the first limit that the trees exceed, in the order of nodes, common letters and items. Running out of
-- memory says nothing about them.
abbrev pub IsExceeded : Universe → Tree → Tree → SameError → Type 0
IsExceeded u s t Size = (MOST_NODES < size s) ⊎ (MOST_NODES < size t)
IsExceeded u s t Letters = AreSmall s t × (MOST_LETTERS < length (joint_letters u s t))
IsExceeded u s t Moves = AreSmall s t × (length (joint_letters u s t) ≤ MOST_LETTERS) × ((MOST_MOVES < longest s) ⊎ (MOST_MOVES < longest t))
IsExceeded u s t OutOfMemory = Unit {0}

-- The error names the first limit that a tree by itself exceeds, in the order of nodes, letters and items. Running out of
-- memory says nothing about it.
abbrev pub IsExceededBy : Universe → Tree → SameError → Type 0
IsExceededBy u t Size = MOST_NODES < size t
IsExceededBy u t Letters = (size t ≤ MOST_NODES) × (MOST_LETTERS < length (classes (all_sets t) (code_count u)))
IsExceededBy u t Moves = (size t ≤ MOST_NODES) × (length (classes (all_sets t) (code_count u)) ≤ MOST_LETTERS) × (MOST_MOVES < longest t)
IsExceededBy u t OutOfMemory = Unit {0}

-- The error of a comparison of two trees, if building one of their automata failed with the given error: `Letters` for too
-- many letters, `Moves` for too long an item list, and `OutOfMemory` if memory ran out.
abbrev pub same_error : PrioError → SameError
same_error LettersError = Letters
same_error MovesError = Moves
same_error NoMemory = OutOfMemory
