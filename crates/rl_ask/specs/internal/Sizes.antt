-- Trees that are too large to be compared.
use Rattle.std.specs.Prelude.{◌<◌, ⊤}
use Rattle.rl_syntax.specs.Tree.{Tree, size}
use Rattle.rl_syntax.specs.declared.limits.TheConstants.{MOST_NODES}
use Rattle.rl_compare.specs.declared.error.CompareError.{CompareError}
use Rattle.rl_compare.specs.declared.error.CompareError.TheVariants as error

-- The error is that of nodes (`Size`), and the tree has more than `MOST_NODES` of them; this is the only limit that is checked
-- for one tree by itself. No other error fits, except that nothing is claimed if memory runs out.
abbrev pub ExceedsSize : Tree → CompareError → Type 0
ExceedsSize t error.Size = MOST_NODES < size t
ExceedsSize t error.Letters = ⊥
ExceedsSize t error.Moves = ⊥
ExceedsSize t error.OutOfMemory = ⊤
