-- For the functions that judge a trial by looking at its pairs in the order in which they are found. A pair is two sets of
-- states, given by its key, the numbers of its two sets in a walk, which is a list of different sets, numbered from 0. A set
-- is trimmed by leaving out the states that aren't kept; `keep` says which places of the tree are kept.
use Rattle.std.specs.Prelude.{◌≡◌, ℕ, ◌<◌, Bool, true, false, ◌&&◌, ◌==◌, slice_index_or, List, [], ◌∷◌, ◌++◌, length, map, if◌then◌else◌}
use Rattle.std.specs.List.{list_any}
use Rattle.rl_prio.specs.Automaton.{Automaton}
use Rattle.rl_sets.specs.Walk.{Walk, IsMadeFor}
use Rattle.rl_equiv.specs.declared.pair.SetPair.{SetPair}
use Rattle.rl_trim.specs.declared.key.Key.{Key}
use Rattle.rl_trim.specs.declared.order.Arrived.{Arrived}
use Rattle.rl_trim.specs.internal.Quick.{key_at, pair_of, IsInside, HasPair, root, AreTrims}

-- Whether two keys have the same two numbers.
abbrev pub key_is : Key → Key → Bool
key_is x y = x.first == y.first && x.second == y.second

-- The list of keys with `key` appended, unless it is already there.
abbrev pub with_key : List Key → Key → List Key
with_key keys key = if list_any (key_is key) keys then keys else keys ++ key ∷ []

-- The pairs of sets of the walk whose keys are listed, in the same order.
abbrev pub pairs_in : Walk → List Key → List SetPair
pairs_in w keys = map (pair_of w) keys

-- Holds if the walk belongs to the automaton, and all keys are pairs of sets of the walk.
pub record AreKeys (a : Automaton) (w : Walk) (keys : List Key) : Type 0 where
  pub made : IsMadeFor w a
  pub inside : (i : ℕ) → i < length keys → IsInside w (key_at keys i)

-- Holds if, for each entry that is true in the row `r.whole`, the walk has the set with the entry's index as its number, and
-- the pair of this set and this set trimmed was found; and if each number in `r.trims` is the number of a trimmed set.
pub record AreArrived (keep : List Bool) (w : Walk) (keys : List Key) (r : Arrived) : Type 0 where
  pub inside : (k : ℕ) → slice_index_or r.whole k false ≡ true → k < length w.sets
  pub found : (k : ℕ) → slice_index_or r.whole k false ≡ true → HasPair w keys (root keep w k)
  pub trims : AreTrims keep w r.trims
