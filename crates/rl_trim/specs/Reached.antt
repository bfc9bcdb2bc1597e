-- The sets of states reached from the start of an automaton: the set of only the start, state 0, and all sets reached from it
-- by images on letters, without the end letter. The image of a set on a letter is the set of the states to which its members
-- move on it, without the dead state. Trials of different branches share these sets. A walk is a list of different sets; the
-- number of a set is its index in the walk, from 0, and its first `count` sets are those with the numbers below `count`.
use Rattle.std.specs.Prelude.{◌≡◌, ℕ, ◌<◌, ◌≤◌, Bool, true, false, List, [], ◌∷◌, length, slice_index_or, Option, None, Some, All}
use Rattle.rl_prio.specs.Automaton.{Automaton, letters_count}
use Rattle.rl_sets.specs.Live.{holds, image}
use Rattle.rl_sets.specs.Walk.{Walk, set_at, IsMadeFor}
use Rattle.rl_trim.specs.declared.store.Store.{Store}
use Rattle.rl_trim.specs.declared.store.Reached.{Reached}
use Rattle.rl_trim.specs.Known.{IsKnown}

-- Holds if the image on `letter` of the set with the number `k` is one of the first `count` sets.
pub record HasImage (a : Automaton) (w : Walk) (count k letter : ℕ) : Type 0 where
  pub number : ℕ
  pub inside : number < count
  pub is : set_at w number ≡ image a (set_at w k) letter

-- Holds if the walk belongs to the automaton and has at least `count` sets, its first set is the set of only the start, and
-- the images of its first `done` sets, on each letter, are among its first `count` sets.
pub record IsClosedTo (a : Automaton) (w : Walk) (done count : ℕ) : Type 0 where
  pub made : IsMadeFor w a
  pub some : 0 < count
  pub reached : done ≤ count
  pub few : count ≤ length w.sets
  pub start : set_at w 0 ≡ 0 ∷ []
  pub images : (k letter : ℕ) → k < done → letter < letters_count a → HasImage a w count k letter

-- Holds if the table has a true entry for the state `q` and the set with the number `k`, which says that the set may hold the
-- state.
abbrev pub IsNoted : List (List Bool) → ℕ → ℕ → Type 0
IsNoted table q k = slice_index_or (slice_index_or table q []) k false ≡ true

-- Holds if the table has for each state a row with an entry for each of the first `count` sets, and the entry is true if the
-- set holds the state. Other entries may be true too.
pub record AreHolders (a : Automaton) (w : Walk) (count : ℕ) (table : List (List Bool)) : Type 0 where
  pub high : length table ≡ a.states
  pub wide : All (λ row. length row ≡ count) table
  pub noted : (k q : ℕ) → k < count → q < a.states → holds (set_at w k) q ≡ true → IsNoted table q k

-- Holds if the first `r.count` sets of the walk include all sets reached from the start, and `r.holders` is a table of them as
-- in `AreHolders`. The list `r.ways` isn't looked at.
pub record AreReached (a : Automaton) (w : Walk) (r : Reached) : Type 0 where
  pub closed : IsClosedTo a w r.count r.count
  pub holders : AreHolders a w r.count r.holders

-- Holds if what is stored of the sets reached from the start is right. If they aren't known, the walk must belong to the
-- automaton, and its first set must be the set of only the start. If they are known, `AreReached` must hold.
abbrev pub IsStored : Automaton → Walk → Option Reached → Type 0
IsStored a w None = IsClosedTo a w 0 (length w.sets)
IsStored a w (Some r) = AreReached a w r

-- Holds if the store belongs to the automaton: its walk, the sets reached from the start, and what else is known of the
-- automaton are right for it.
pub record IsStore (a : Automaton) (s : Store) : Type 0 where
  pub sets : IsStored a s.walk s.reached
  pub known : IsKnown a s.known

-- Holds if there is no store, or it belongs to the automaton.
abbrev pub IsStoreIf : Automaton → Option Store → Type 0
IsStoreIf a None = Unit {0}
IsStoreIf a (Some s) = IsStore a s
