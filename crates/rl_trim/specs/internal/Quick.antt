-- For the functions that find pairs of sets. Sets have numbers in a walk that grows, which is a list of different sets,
-- numbered from 0, and a key is a pair given by the numbers of its two sets. The place of a key is its index in a list of
-- keys, from 0. A set is trimmed by leaving out the states that aren't kept; `keep` has a flag for each place of the tree,
-- which says whether it is kept. The next pair of a pair on a letter is the image of its first set and the image of its second
-- set, trimmed. A pair shows a difference if the end letter leads exactly one of its two sets to the accepting state. A quick
-- trial finds pairs in any order.
use Rattle.std.specs.Prelude.{◌≡◌, ℕ, ◌<◌, ◌≤◌, ◌⊎◌, Bool, true, false, not, List, length, slice_index_or, None, Some}
use Rattle.rl_prio.specs.Automaton.{Automaton, letters_count}
use Rattle.rl_sets.specs.Walk.{Walk, set_at, IsMadeFor}
use Rattle.rl_equiv.specs.declared.pair.SetPair.{SetPair}
use Rattle.rl_trim.specs.declared.branch.Trims.{Trims}
use Rattle.rl_trim.specs.declared.key.Key.{Key}
use Rattle.rl_trim.specs.Reached.{IsClosedTo}
use Rattle.rl_trim.specs.Twins.{is_kept}
use Rattle.rl_trim.specs.internal.Trims.{trimmed, trim_on, trim_differs}

-- Holds if the walk `new` belongs to the automaton and has all sets of the walk `old`, with the same numbers.
pub record IsGrown (a : Automaton) (old new : Walk) : Type 0 where
  pub made : IsMadeFor new a
  pub longer : length old.sets ≤ length new.sets
  pub same : (k : ℕ) → k < length old.sets → set_at new k ≡ set_at old k

-- Holds if the walk `new` belongs to the automaton, has all sets of the walk `old` with the same numbers, and has `set` with
-- the number `n`.
pub record IsNumbered (a : Automaton) (old new : Walk) (set : List ℕ) (n : ℕ) : Type 0 where
  pub grown : IsGrown a old new
  pub inside : n < length new.sets
  pub is : set_at new n ≡ set

-- Holds if the row has a bit for each of the `states` states, which is set if and only if the state isn't kept.
pub record AreGone (keep : List Bool) (states : ℕ) (row : List Bool) : Type 0 where
  pub wide : length row ≡ states
  pub exact : (q : ℕ) → q < states → slice_index_or row q false ≡ not (is_kept keep q)

-- Holds if the walk has sets with the numbers `k` and `n`, and the second one is the first one trimmed.
pub record IsTrim (keep : List Bool) (w : Walk) (k n : ℕ) : Type 0 where
  pub set_in : k < length w.sets
  pub inside : n < length w.sets
  pub is : set_at w n ≡ trimmed keep (set_at w k)

-- Holds if each number that `t` records for a set is the number of the trimmed set.
abbrev pub AreTrims : List Bool → Walk → Trims → Type 0
AreTrims keep w t = (k n : ℕ) → slice_index_or t.numbers.items k None ≡ Some n → IsTrim keep w k n

-- The key of the set with the number 0 and itself. It is used where a list has no key.
abbrev pub no_key : Key
no_key = record { first = 0; second = 0 }

-- The key at the place `i`, or `no_key` if there is none.
abbrev pub key_at : List Key → ℕ → Key
key_at keys i = slice_index_or keys i no_key

-- The pair of sets of the walk whose numbers the key gives.
abbrev pub pair_of : Walk → Key → SetPair
pair_of w key = record { first = set_at w key.first; second = set_at w key.second }

-- The pair of sets of the walk whose key is at the place `i`, or the pair of `no_key` if there is none.
abbrev pub pair_at : Walk → List Key → ℕ → SetPair
pair_at w keys i = pair_of w (key_at keys i)

-- Holds if both numbers of the key are numbers of sets of the walk.
pub record IsInside (w : Walk) (key : Key) : Type 0 where
  pub first_in : key.first < length w.sets
  pub second_in : key.second < length w.sets

-- Holds if the walk `new` belongs to the automaton, has all sets of the walk `old` with the same numbers, and `key` is the key
-- of the pair `p` in `new`.
pub record IsKeyOf (a : Automaton) (old new : Walk) (p : SetPair) (key : Key) : Type 0 where
  pub grown : IsGrown a old new
  pub inside : IsInside new key
  pub is : pair_of new key ≡ p

-- Holds if `more` begins with the keys of `keys`, every further key in it is `key`, and `key` is at some place in it.
pub record IsPut (keys more : List Key) (key : Key) : Type 0 where
  pub longer : length keys ≤ length more
  pub same : (i : ℕ) → i < length keys → key_at more i ≡ key_at keys i
  pub new : (i : ℕ) → length keys ≤ i → i < length more → key_at more i ≡ key
  pub place : ℕ
  pub inside : place < length more
  pub is : key_at more place ≡ key

-- Holds if the pair `p` was found: its key is in the list.
pub record HasPair (w : Walk) (keys : List Key) (p : SetPair) : Type 0 where
  pub place : ℕ
  pub inside : place < length keys
  pub is : pair_at w keys place ≡ p

-- The root pair of a set: the set with the number `k`, paired with this set trimmed.
abbrev pub root : List Bool → Walk → ℕ → SetPair
root keep w k = record { first = set_at w k; second = trimmed keep (set_at w k) }

-- Holds if `p` is the root pair of one of the first `count` sets.
pub record IsRoot (keep : List Bool) (w : Walk) (count : ℕ) (p : SetPair) : Type 0 where
  pub number : ℕ
  pub inside : number < count
  pub is : root keep w number ≡ p

-- Holds if `p` is the root pair of one of the first `count` sets, or was found.
abbrev pub IsThere : List Bool → Walk → ℕ → List Key → SetPair → Type 0
IsThere keep w count keys p = IsRoot keep w count p ⊎ HasPair w keys p

-- Holds if all keys are pairs of sets of the walk, and each of the first `done` sets holds only kept states or has a root pair
-- that was found.
pub record AreRooted (keep : List Bool) (w : Walk) (done : ℕ) (keys : List Key) : Type 0 where
  pub each : (i : ℕ) → i < length keys → IsInside w (key_at keys i)
  pub roots : (k : ℕ) → k < done → (trimmed keep (set_at w k) ≡ set_at w k) ⊎ HasPair w keys (root keep w k)

-- Holds if the first `count` sets of the walk include all sets reached from the start, all keys are pairs of sets of the walk,
-- and each of these first sets holds only kept states or has a root pair that was found.
pub record ArePairs (a : Automaton) (keep : List Bool) (w : Walk) (count : ℕ) (keys : List Key) : Type 0 where
  pub closed : IsClosedTo a w count count
  pub rooted : AreRooted keep w count keys

-- Holds if the walk has grown from `old` to `new`, keeping the numbers of its sets, and the list of keys from `keys` to
-- `more`, keeping their places.
pub record IsOnward (a : Automaton) (old new : Walk) (keys more : List Key) : Type 0 where
  pub grown : IsGrown a old new
  pub longer : length keys ≤ length more
  pub same : (i : ℕ) → i < length keys → key_at more i ≡ key_at keys i

-- Holds if the next pair of `p` on each letter below `letters` is the root pair of one of the first `count` sets, or was
-- found.
abbrev pub HasNexts : Automaton → List Bool → Walk → ℕ → List Key → SetPair → ℕ → Type 0
HasNexts a keep w count keys p letters = (letter : ℕ) → letter < letters → IsThere keep w count keys (trim_on a keep p letter)

-- Holds if the pair at the place `i` shows a difference, or each of its next pairs is the root pair of one of the first
-- `count` sets or was found.
abbrev pub IsDone : Automaton → List Bool → Walk → ℕ → List Key → ℕ → Type 0
IsDone a keep w count keys i = (trim_differs a (pair_at w keys i) ≡ true) ⊎ HasNexts a keep w count keys (pair_at w keys i) (letters_count a)

-- Holds if `IsDone` holds for the pairs at the first `places` places.
abbrev pub AreDone : Automaton → List Bool → Walk → ℕ → List Key → ℕ → Type 0
AreDone a keep w count keys places = (i : ℕ) → i < places → IsDone a keep w count keys i

-- Holds if none of the pairs at the first `places` places shows a difference.
abbrev pub NoneApart : Automaton → Walk → List Key → ℕ → Type 0
NoneApart a w keys places = (i : ℕ) → i < places → trim_differs a (pair_at w keys i) ≡ false
