-- For the contracts of private functions: the meaning of the errors of a search for live pairs. A pair is a state of the
-- automaton with a set: the states that were tried before it. A rest is a list of letters followed by the end letter; a set
-- refuses it if none of its members accepts it. A live pair is the first pair, or a pair whose set refuses some rest and to
-- which a live pair has a move. A counted set is the set of a pair to which a live pair has a move, or the image of a counted
-- set that doesn't have the accepting state.
use Rattle.std.specs.Prelude.{ℕ}
use Rattle.rl_prio.specs.Automaton.{Automaton}
use Rattle.rl_pairs.specs.declared.error.PairsError.{PairsError}
use Rattle.rl_pairs.specs.declared.error.PairsError.TheVariants.{Sets, Pairs, OutOfMemory}
use Rattle.rl_pairs.specs.LivePairs.{LivePair}
use Rattle.rl_pairs.specs.Counted.{CountedSet, MoreThan}
use Rattle.rl_syntax.specs.declared.limits.TheConstants.{MOST_COUNTED_SETS}

-- The limit that the error names is exceeded: there are more than `MOST_COUNTED_SETS` counted sets, or more than `limit` live
-- pairs. Nothing is required if memory ran out.
abbrev pub IsRightError : Automaton → ℕ → PairsError → Type 0
IsRightError a limit Sets = MoreThan MOST_COUNTED_SETS (CountedSet a)
IsRightError a limit Pairs = MoreThan limit (LivePair a)
IsRightError a limit OutOfMemory = Unit {0}
