-- Errors of a walk over sets, translated into errors of a search for live pairs. The search keeps its sets of states in the
-- walk.
use Rattle.rl_sets.specs.declared.error.SetsError.{SetsError}
use Rattle.rl_sets.specs.declared.error.SetsError.TheVariants.{Sets as TooManySets, OutOfMemory as NoRoom}
use Rattle.rl_pairs.specs.declared.error.PairsError.{PairsError}
use Rattle.rl_pairs.specs.declared.error.PairsError.TheVariants.{Sets, OutOfMemory}

-- The error that a search for live pairs returns if its walk over sets returns the given one: `Sets` if the walk has too many
-- sets, and `OutOfMemory` if memory runs out.
abbrev pub sets_error : SetsError → PairsError
sets_error TooManySets = Sets
sets_error NoRoom = OutOfMemory
