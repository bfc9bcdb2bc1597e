-- For the contracts of private functions: the state of the search for a refused rest, which goes breadth first over the sets
-- that can be reached from one set by images. The image of a set on a letter is the set of the states to which its members
-- move on it, without the dead state. A rest is a list of letters followed by the end letter; a set refuses it if none of its
-- members accepts it, and it is live if it refuses some rest. The search lists the sets that it finds by their numbers in a
-- walk, which is a list of sets; the place of a set is its index in the search's list, from 0.
use Rattle.std.specs.Prelude.{◌≡◌, ℕ, ◌<◌, ◌≤◌, ◌⊎◌, true, false, nat_eq, List, [], ◌∷◌, ◌++◌, length, slice_index_or}
use Rattle.std.specs.List.{list_any}
use Rattle.rl_prio.specs.Automaton.{Automaton, letters_count, accepting_state}
use Rattle.rl_sets.specs.declared.rests.Way.{Way}
use Rattle.rl_sets.specs.declared.rests.RestSearch.{RestSearch}
use Rattle.rl_sets.specs.Live.{holds, image, IsLive}
use Rattle.rl_sets.specs.Rests.{Reached}
use Rattle.rl_sets.specs.Walk.{Walk, set_at}

-- The numbers, in the walk, of the sets found, in the order in which they were found, and how each was found: the place of a
-- set and the letter on which it is the image of that set.
pub record Found : Type 0 where
  pub numbers : List ℕ
  pub ways : List Way

-- What the program's search `s` has found: the two lists, without the data structures that hold them.
abbrev pub found_of : RestSearch → Found
found_of s = record { numbers = s.numbers.keys; ways = s.ways.items }

-- The entry in `ways` for the first set, which wasn't found as an image. Its values have no meaning.
abbrev pub root_way : Way
root_way = record { parent = 0; letter = 0 }

-- The search that has found only its first set, which has the number `set` in the walk.
abbrev pub root_of : ℕ → Found
root_of set = record { numbers = set ∷ []; ways = root_way ∷ [] }

-- The number, in the walk, of the set at the place `i`, or 0 if there is none.
abbrev pub number_at : Found → ℕ → ℕ
number_at f i = slice_index_or f.numbers i 0

-- How the set at the place `i` was found, or `root_way` if there is none.
abbrev pub way_at : Found → ℕ → Way
way_at f i = slice_index_or f.ways i root_way

-- The set at the place `i`, as the list of its members. If there is none, it is the set with the number 0.
abbrev pub found_set : Walk → Found → ℕ → List ℕ
found_set w f i = set_at w (number_at f i)

-- Holds if the set at the place `i` is the image, on the letter `way.letter`, of the set at the place `way.parent`, which is
-- before `i`. The letter isn't the end letter.
pub record IsStep (a : Automaton) (w : Walk) (f : Found) (i : ℕ) (way : Way) : Type 0 where
  pub earlier : way.parent < i
  pub small : way.letter < letters_count a
  pub image_is : found_set w f i ≡ image a (found_set w f way.parent) way.letter

-- The invariant of the search. It holds if there is a first set, each number is the number of a set in the walk and has an
-- entry in `ways`, all sets were found from the first one by images as `ways` says, and none of them has the accepting state.
pub record IsSearch (a : Automaton) (w : Walk) (f : Found) : Type 0 where
  pub some : 0 < length f.numbers
  pub paired : length f.ways ≡ length f.numbers
  pub within : (i : ℕ) → i < length f.numbers → number_at f i < length w.sets
  pub free : (i : ℕ) → i < length f.numbers → holds (found_set w f i) (accepting_state a) ≡ false
  pub reached : (i : ℕ) → i < length f.numbers → Reached a (found_set w f 0) (found_set w f i)
  pub steps : (i : ℕ) → 0 < i → i < length f.numbers → IsStep a w f i (way_at f i)

-- Holds if the search has found the set `set`, or this set refuses no rest.
abbrev pub IsCovered : Automaton → Walk → Found → List ℕ → Type 0
IsCovered a w f set = ((j : ℕ) × (j < length f.numbers) × (found_set w f j ≡ set)) ⊎ (IsLive a set → ⊥)

-- Holds if the search looks at the letter `l` of the set at the place `i` before it looks at the letter `c` of the set at the
-- place `k`.
abbrev pub IsPast : ℕ → ℕ → ℕ → ℕ → Type 0
IsPast k c i l = (i < k) ⊎ ((i ≡ k) × (l < c))

-- Holds if everything that the search looks at before the letter `c` of the set at the place `k` is settled: no set at a place
-- before `k` refuses the rest of only the end letter, and each earlier image has been found or refuses no rest.
pub record IsLookedAt (a : Automaton) (w : Walk) (f : Found) (k c : ℕ) : Type 0 where
  pub ended : (i : ℕ) → i < k → i < length f.numbers → holds (image a (found_set w f i) (letters_count a)) (accepting_state a) ≡ true
  pub covered : (i l : ℕ) → IsPast k c i l → i < length f.numbers → l < letters_count a → IsCovered a w f (image a (found_set w f i) l)

-- Holds if `new` is `old` with the number `n` and its entry `way` appended, and `old` doesn't have the number, or if `new` is
-- `old` and the number is already there.
abbrev pub IsAdded : ℕ → Way → Found → Found → Type 0
IsAdded n way old new =
    ((list_any (nat_eq n) old.numbers ≡ true) × (new ≡ old)) ⊎ ((list_any (nat_eq n) old.numbers ≡ false) × (new ≡ record { numbers = old.numbers ++ n ∷ []; ways = old.ways ++ way ∷ [] }))

-- Holds if the numbers in `old` are the first numbers in `new`. How the sets were found isn't compared.
pub record Extends (old new : Found) : Type 0 where
  pub longer : length old.numbers ≤ length new.numbers
  pub same : (i : ℕ) → i < length old.numbers → number_at new i ≡ number_at old i

-- Holds if `n` is the number in the walk of the image on `letter` of the set at the place `place`.
pub record IsImageAt (a : Automaton) (w : Walk) (f : Found) (place letter n : ℕ) : Type 0 where
  pub within : n < length w.sets
  pub is : set_at w n ≡ image a (found_set w f place) letter

-- Holds if the search `g` satisfies the invariant `IsSearch` over the walk `new`, and the numbers that the earlier search `f`
-- has found are its first numbers. The earlier walk `old` isn't looked at.
pub record GoesOn (a : Automaton) (old new : Walk) (f g : Found) : Type 0 where
  pub search : IsSearch a new g
  pub extends : Extends f g
