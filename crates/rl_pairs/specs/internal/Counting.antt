-- For the contracts of private functions: walks over counted sets. A walk is a list of different sets of states, numbered from
-- 0, with a limit on how many sets it may have. A pair is a state of the automaton with a set: the states that were tried
-- before it. A rest is a list of letters followed by the end letter; a set refuses it if none of its members accepts it. A
-- live pair is the first pair, or a pair whose set refuses some rest and to which a live pair has a move. A counted set is the
-- set of a pair to which a live pair has a move, or an image of a counted set that doesn't have the accepting state. The image
-- of a set on a letter is the set of the states to which its members move on it, without the dead state.
use Rattle.std.specs.Prelude.{◌≡◌, ℕ, ◌<◌, ◌≤◌, ◌⊎◌, List, [], length}
use Rattle.rl_prio.specs.Automaton.{Automaton, letters_count, accepting_state}
use Rattle.rl_graph.specs.Paths.{Has}
use Rattle.rl_sets.specs.Live.{image}
use Rattle.rl_sets.specs.Walk.{Walk, set_at, IsMadeFor}
use Rattle.rl_pairs.specs.Counted.{CountedSet}
use Rattle.rl_syntax.specs.declared.limits.TheConstants.{MOST_COUNTED_SETS}

-- The set is counted, or it is the empty set of the first pair.
abbrev pub IsCounted : Automaton → List ℕ → Type 0
IsCounted a set = (set ≡ []) ⊎ CountedSet a set

-- The walk belongs to the automaton, has only counted sets and the empty set, which comes first, and its limit is
-- `MOST_COUNTED_SETS`.
pub record IsCounting (a : Automaton) (w : Walk) : Type 0 where
  pub made : IsMadeFor w a
  pub limit : w.limit ≡ MOST_COUNTED_SETS
  pub some : 0 < length w.sets
  pub empty : set_at w 0 ≡ []
  pub counted : (n : ℕ) → n < length w.sets → IsCounted a (set_at w n)

-- The walk `new` has at least as many sets as `old`, and the sets of `old` have the same numbers in it.
pub record Keeps (old new : Walk) : Type 0 where
  pub longer : length old.sets ≤ length new.sets
  pub same : (n : ℕ) → n < length old.sets → set_at new n ≡ set_at old n

-- The walk `new` is a walk over counted sets (`IsCounting`) and has the sets of the walk `old` with the same numbers
-- (`Keeps`).
pub record IsOnward (a : Automaton) (old new : Walk) : Type 0 where
  pub counting : IsCounting a new
  pub keeps : Keeps old new

-- `n` is the number of the set in the walk, counted from 0.
pub record IsNumberOf (w : Walk) (set : List ℕ) (n : ℕ) : Type 0 where
  pub within : n < length w.sets
  pub is : set_at w n ≡ set

-- The walk has the set, under some number.
abbrev pub HasNumber : Walk → List ℕ → Type 0
HasNumber w set = (n : ℕ) × IsNumberOf w set n

-- The walk has the image of the set with the number `n` on the letter, unless that set has the accepting state. If it has,
-- nothing is required.
abbrev pub HasImage : Automaton → Walk → ℕ → ℕ → Type 0
HasImage a w n letter = (Has (accepting_state a) (set_at w n) → ⊥) → HasNumber w (image a (set_at w n) letter)

-- The walk has the images of its first `count` sets on all letters and the end letter, and of the next set on the first
-- `letters` letters. Sets with the accepting state are left out.
pub record IsClosed (a : Automaton) (w : Walk) (count letters : ℕ) : Type 0 where
  pub whole : (n letter : ℕ) → n < count → letter ≤ letters_count a → HasImage a w n letter
  pub part : (letter : ℕ) → letter < letters → HasImage a w count letter
