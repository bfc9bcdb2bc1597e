-- Which limit two matched trees exceed. The matched tree of a pattern is a tree that spans a whole text if and only if the
-- pattern matches the text in its mode. The limits are on the nodes of each tree, on the common letters, which are the classes
-- of codes that the sets of both trees don't tell apart, and on the lengths of item lists, which are the lists of what a
-- matcher can try next at one point of a tree.
use Rattle.rl_ranges.specs.declared.universe.Universe.{Universe}
use Rattle.rl_syntax.specs.Tree.{Tree}
use Rattle.rl_equiv.specs.declared.error.SameError.{SameError}
use Rattle.rl_equiv.specs.declared.error.SameError.TheVariants.{Size, Letters, Moves, OutOfMemory}
use Rattle.rl_equiv.specs.Limits.{IsExceeded}
use Rattle.rl_compare.specs.declared.error.CompareError.{CompareError}
use Rattle.rl_compare.specs.declared.error.CompareError.TheVariants as compared

-- The error of a comparison of two patterns, if the comparison of their matched trees failed with the given error: the error
-- with the same name.
abbrev pub compare_error : SameError → CompareError
compare_error Size = compared.Size
compare_error Letters = compared.Letters
compare_error Moves = compared.Moves
compare_error OutOfMemory = compared.OutOfMemory

-- The error names the first limit that the matched trees exceed, in the order of nodes, common letters and items. Running out
-- of memory says nothing about them.
abbrev pub IsCompareExceeded : Universe → Tree → Tree → CompareError → Type 0
IsCompareExceeded u s t compared.Size = IsExceeded u s t Size
IsCompareExceeded u s t compared.Letters = IsExceeded u s t Letters
IsCompareExceeded u s t compared.Moves = IsExceeded u s t Moves
IsCompareExceeded u s t compared.OutOfMemory = IsExceeded u s t OutOfMemory
