-- Walks over sets of states: lists of different sets. The number of a set is its index in the list, from 0. The image of a set
-- on a letter is the set of the states to which its members move on it. The split moves of an automaton are its moves as
-- tables of bits, from which images are found faster. A row is a list of bits, one for each state; it represents the set of
-- the states whose bits are set. A rest is a list of letters followed by the end letter; a route is the program's description
-- of a rest, and a life is what is known of the rests that a set refuses, which are the rests that none of its members
-- accepts.
use Rattle.std.specs.Prelude.{◌≡◌, ◌≢◌, ℕ, suc, ◌+◌, ◌*◌, ◌<◌, ◌≤◌, ◌⊎◌, Bool, false, List, [], ◌∷◌, ◌++◌, length, slice_get, slice_index_or, Option, None, Some, All, Contains}
use Rattle.rl_prio.specs.Automaton.{Automaton, letters_count, dead_state}
use Rattle.rl_sets.specs.Live.{holds, set_where, image}
use Rattle.rl_sets.specs.declared.life.Life.{Life}
use Rattle.rl_sets.specs.declared.life.Life.TheVariants.{Unknown}
use Rattle.rl_sets.specs.declared.life.Route.{Route}
use Rattle.rl_sets.specs.declared.life.Route.TheVariants.{End}
use Rattle.rl_sets.specs.Rests.{IsLife}
use Rattle.rl_sets.specs.declared.split.SplitMoves.{SplitMoves}
use Rattle.rl_sets.specs.declared.split.SetMoves.{SetMoves}
use Rattle.rl_sets.specs.Split.{IsSplit, AreMovesOf}

-- What a walk keeps besides its sets: the number of states, the split moves if they have been made, the numbers of the images
-- found so far, each at its `image_place`, the routes of refused rests, and what is known of each set's rests, by the number
-- of the set. The lists of images and lives may end early; what they don't have is unknown.
pub record Kept : Type 0 where
  pub states : ℕ
  pub split : Option SplitMoves
  pub images : List (Option ℕ)
  pub routes : List Route
  pub lives : List Life

-- A walk: its sets, each as the list of its members in increasing order, in the order of their numbers; the limit on how many
-- there may be; and what it keeps besides them.
pub record Walk : Type 0 where
  pub sets : List (List ℕ)
  pub limit : ℕ
  pub kept : Kept

-- The set with the number `n`, or the empty set if the walk has none with this number.
abbrev pub set_at : Walk → ℕ → List ℕ
set_at w n = slice_index_or w.sets n []

-- The index in `images` at which the walk keeps the number of the image on `letter` of the set with the number `n`. Each set
-- has one entry for each letter and a last one for the end letter.
abbrev pub image_place : Automaton → ℕ → ℕ → ℕ
image_place a n letter = n * suc (letters_count a) + letter

-- The set of the listed states, which may be in any order and listed more than once. Numbers that aren't states are left out.
abbrev pub set_of : Automaton → List ℕ → List ℕ
set_of a members = set_where a (holds members)

-- Holds if the list is a set of states of the automaton, in increasing order, each once, and without the dead state.
pub record IsSetOf (a : Automaton) (set : List ℕ) : Type 0 where
  pub rising : set ≡ set_of a set
  pub no_dead : holds set (dead_state a) ≡ false

-- Holds if the walk belongs to the automaton: its sets are different sets of the automaton's states without the dead state;
-- there are no more of them than the limit allows, which is at most 60000; the number of states, the split moves and the
-- numbers of images that it keeps are right for the automaton; its first route is `End`; what it has recorded of its sets is
-- true; and its lists of images and lives have no entries beyond those of its last set.
pub record IsMadeFor (w : Walk) (a : Automaton) : Type 0 where
  pub sets : (n : ℕ) → n < length w.sets → IsSetOf a (set_at w n)
  pub apart : (m n : ℕ) → m < n → n < length w.sets → set_at w m ≢ set_at w n
  pub few : length w.sets ≤ w.limit
  pub low : w.limit ≤ 60000
  pub states : w.kept.states ≡ a.states
  pub split : (s : SplitMoves) → w.kept.split ≡ Some s → IsSplit a s
  pub few_images : length w.kept.images ≤ length w.sets * suc (letters_count a)
  pub images : (n letter m : ℕ) → n < length w.sets → letter ≤ letters_count a → slice_index_or w.kept.images (image_place a n letter) None ≡ Some m → slice_get w.sets m ≡ Some (image a (set_at w n) letter)
  pub first_route : slice_get w.kept.routes 0 ≡ Some End
  pub few_lives : length w.kept.lives ≤ length w.sets
  pub lives : (n : ℕ) → n < length w.sets → IsLife a w.kept.routes (set_at w n) (slice_index_or w.kept.lives n Unknown)

-- Holds if the set is at the index `n` in `new`, and `new` is either `old`, or `old` with the set appended; in the second
-- case, `old` doesn't have the set.
pub record IsListed (old new : List (List ℕ)) (set : List ℕ) (n : ℕ) : Type 0 where
  pub stands : slice_get new n ≡ Some set
  pub grown : (new ≡ old) ⊎ ((Contains old set → ⊥) × (new ≡ old ++ set ∷ []))

-- Holds if the set isn't in the list `sets`, and this list has exactly `limit` sets.
pub record IsFull (sets : List (List ℕ)) (limit : ℕ) (set : List ℕ) : Type 0 where
  pub absent : Contains sets set → ⊥
  pub full : length sets ≡ limit

-- Holds if the rows of a walk are well formed: there are no more of them than the limit allows, which is at most 60000, they
-- all have one bit for each state, and no two of them are equal.
pub record AreRows (states limit : ℕ) (rows : List (List Bool)) : Type 0 where
  pub low : limit ≤ 60000
  pub few : length rows ≤ limit
  pub wide : All (λ row. length row ≡ states) rows
  pub apart : (m n : ℕ) → m < n → n < length rows → slice_index_or rows m [] ≢ slice_index_or rows n []

-- Holds if the moves of sets in `recent`, which a walk keeps, are right: if there are split moves, each item has the number of
-- one of the rows and the moves of the set that this row represents. If there are none, nothing is required.
abbrev pub AreKept : List (List Bool) → Option SplitMoves → List SetMoves → Type 0
AreKept rows split recent =
    (s : SplitMoves) → split ≡ Some s → All (λ m. (m.set < length rows) × AreMovesOf s (slice_index_or rows m.set []) m) recent

-- Holds if fields of the program's `SetWalk` are well formed: `keys`, the rows of its sets, and `moves`, the moves of the sets
-- that it looked at last, which belong to the split moves `split` if these have been made.
pub record AreFields (states limit : ℕ) (keys : List (List Bool)) (split : Option SplitMoves) (moves : List SetMoves) : Type 0 where
  pub rows : AreRows states limit keys
  pub recent : AreKept keys split moves
