-- For the contracts of private functions: the state of the search for live pairs. A pair is a state of the automaton with a
-- set: the states that were tried before it. A rest is a list of letters followed by the end letter; a set refuses it if none
-- of its members accepts it. A live pair is the first pair, or a pair whose set refuses some rest and to which a live pair has
-- a move. The search goes breadth first from the first pair, with the letters of each pair in increasing order and the end
-- letter last. It keeps the sets in a walk, which is a list of different sets, numbered from 0. A pair is found by its key,
-- which is its state and the number of its set in the walk; the number of a pair is its index in the list of keys, from 0.
use Rattle.std.specs.Prelude.{◌≡◌, ℕ, zero, suc, ◌-◌, ◌+◌, ◌*◌, ◌<◌, ◌≤◌, ◌⊎◌, nat_lt, if◌then◌else◌, List, [], ◌∷◌, ◌++◌, length, take, flat_map, slice_index_or}
use Rattle.rl_prio.specs.Automaton.{Automaton, letters_count}
use Rattle.rl_graph.specs.Paths.{Has, Each}
use Rattle.rl_sets.specs.Live.{joined, IsLive}
use Rattle.rl_sets.specs.Rests.{IsRefusedRest}
use Rattle.rl_sets.specs.Walk.{Walk, set_at}
use Rattle.rl_pairs.specs.declared.pair.Pair.{Pair}
use Rattle.rl_pairs.specs.declared.finder.Key.{Key}
use Rattle.rl_pairs.specs.declared.finder.Finder.{Finder}
use Rattle.rl_pairs.specs.LivePairs.{pairs_from, next_pairs, LivePair}
use Rattle.rl_pairs.specs.PairGraph.{KeptLive, AreFirstSeen, seen_after}
use Rattle.rl_pairs.specs.internal.Counting.{IsCounting, IsNumberOf, HasNumber, IsOnward, IsClosed}

-- The state of the search: the greatest number of pairs allowed, the keys of the pairs found, a lead and a rest for each of
-- them, and a row of targets for each pair and letter that was looked at, pair by pair and letter by letter.
pub record Found : Type 0 where
  pub limit : ℕ
  pub keys : List Key
  pub leads : List (List ℕ)
  pub rests : List (List ℕ)
  pub rows : List (List ℕ)

-- The state of the search that the program's value represents.
abbrev pub found_of : Finder → Found
found_of f = record { limit = f.limit; keys = f.keys.keys; leads = f.leads.items; rests = f.rests.items; rows = f.rows }

-- The state of the search with one more row at the end.
abbrev pub with_row : Found → List ℕ → Found
with_row f row = record { limit = f.limit; keys = f.keys; leads = f.leads; rests = f.rests; rows = f.rows ++ row ∷ [] }

-- The key of the first pair: the start state 0, and 0 as the number of the empty set, which is the first set of the walk.
abbrev pub first_key : Key
first_key = record { state = 0; set = 0 }

-- The key of the pair with the number `k`, or the key of the first pair if there is none.
abbrev pub key_at : Found → ℕ → Key
key_at f k = slice_index_or f.keys k first_key

-- The pair that a key describes: the state of the key, with the set that has the key's number in the walk. The set is empty if
-- the walk has no such number.
abbrev pub pair_of : Walk → Key → Pair
pair_of w key = record { state = key.state; set = set_at w key.set }

-- The pair with the number `k`, or the pair of `first_key` if there is none.
abbrev pub pair_at : Walk → Found → ℕ → Pair
pair_at w f k = pair_of w (key_at f k)

-- The lead of the pair with the number `k`, that is, a word that leads to it. It is empty if there is no such pair.
abbrev pub lead_at : Found → ℕ → List ℕ
lead_at f k = slice_index_or f.leads k []

-- The rest of the pair with the number `k`, that is, a rest that its set refuses. It is empty if there is no such pair.
abbrev pub rest_at : Found → ℕ → List ℕ
rest_at f k = slice_index_or f.rests k []

-- The number of rows of a pair: one for each letter and one for the end letter.
abbrev pub width : Automaton → ℕ
width a = suc (letters_count a)

-- The targets of the moves of the pair with the number `q` on a letter, if each pair has `wide` rows, one for each letter and
-- the end letter. There are none if there is no such row.
abbrev pub next_in : ℕ → List (List ℕ) → ℕ → ℕ → List ℕ
next_in wide rows q letter = if nat_lt letter wide then slice_index_or rows (q * wide + letter) [] else []

-- The targets of the moves of a pair on a letter, as the rows of the search give them. There are none if there is no such row.
abbrev pub next_of : Automaton → Found → ℕ → ℕ → List ℕ
next_of a f = next_in (width a) f.rows

-- The numbers in all rows, one row after another.
abbrev pub flat : List (List ℕ) → List ℕ
flat rows = flat_map (λ row. row) rows

-- The lead of the pair with the number `k` is the lead of a pair with a smaller number that has a move to it, followed by the
-- letter of that move.
abbrev pub IsLed : Automaton → Found → ℕ → Type 0
IsLed a f k = (i : ℕ) × (letter : ℕ) × (i < k) × Has k (next_of a f i letter) × (lead_at f k ≡ lead_at f i ++ letter ∷ [])

-- The invariant of the pairs found: they are different live pairs, at least one and at most `limit`, numbered in the order in
-- which they were first seen. Each has a word that leads to it and a rest that its set refuses.
pub record IsFound (a : Automaton) (w : Walk) (f : Found) : Type 0 where
  pub some : 0 < length f.keys
  pub few : length f.keys ≤ f.limit
  pub first : key_at f 0 ≡ first_key
  pub sets : (k : ℕ) → k < length f.keys → (key_at f k).set < length w.sets
  pub states : (k : ℕ) → k < length f.keys → (key_at f k).state < a.states
  pub apart : (j k : ℕ) → j < length f.keys → k < length f.keys → key_at f j ≡ key_at f k → j ≡ k
  pub live : (k : ℕ) → k < length f.keys → LivePair a (pair_at w f k)
  pub led : length f.leads ≡ length f.keys
  pub start : lead_at f 0 ≡ []
  pub leads : (k : ℕ) → 0 < k → k < length f.keys → IsLed a f k
  pub refused : length f.rests ≡ length f.keys
  pub rests : (k : ℕ) → k < length f.keys → IsRefusedRest a (pair_at w f k).set (rest_at f k)
  pub targets : Each (λ k. k < length f.keys) (flat f.rows)
  pub seen : AreFirstSeen 1 (flat f.rows)
  pub count : seen_after 1 (flat f.rows) ≡ length f.keys

-- The pairs found before keep their numbers, and the limit is the same.
pub record Stays (old new : Found) : Type 0 where
  pub limit : new.limit ≡ old.limit
  pub longer : length old.keys ≤ length new.keys
  pub same : (k : ℕ) → k < length old.keys → key_at new k ≡ key_at old k

-- The row has the numbers of those of the pairs whose sets are live, in order, and the walk has the sets of all these pairs.
pub record IsRowOf (a : Automaton) (w : Walk) (f : Found) (pairs : List Pair) (row : List ℕ) : Type 0 where
  pub kept : KeptLive a (pair_at w f) pairs row
  pub standing : Each (λ p. HasNumber w p.set) pairs

-- There are `count` rows. They are the moves of the first pairs, pair by pair and letter by letter, with the end letter last,
-- and each of these pairs was found before its moves were looked at.
pub record IsMoved (a : Automaton) (w : Walk) (f : Found) (count : ℕ) : Type 0 where
  pub long : length f.rows ≡ count
  pub moves : (q letter : ℕ) → letter ≤ letters_count a → q * width a + letter < count → IsRowOf a w f (next_pairs a (pair_at w f q) letter) (next_of a f q letter)
  pub order : (q : ℕ) → q * width a < count → q < seen_after 1 (flat (take (q * width a) f.rows))

-- The set joined with the given states, one after another: the set for the move that follows the moves to these states, if
-- `set` is the set for the first of these moves.
abbrev pub tried : Automaton → List ℕ → List ℕ → List ℕ
tried a set [] = set
tried a set (target ∷ targets) = tried a (joined a target set) targets

-- The set for the move with the index `k` in `targets`, from 0, given the set for the move before it. The set for the first
-- move is `set` itself.
abbrev pub set_for : Automaton → List ℕ → ℕ → List ℕ → List ℕ
set_for a targets zero set = set
set_for a targets (suc k) set = joined a (slice_index_or targets k 0) set

-- The state of the search while the moves of a pair on a letter to `targets` are looked at: `f` is the state before the first
-- of these moves, and `g` the state after the first `k`. `row` has the numbers of the live pairs among theirs. `first` is the
-- set for the first move, and `set` the number of the set for the last one, or for the first if `k` is 0.
pub record IsTrying (a : Automaton) (old w : Walk) (f g : Found) (first targets row : List ℕ) (k set : ℕ) : Type 0 where
  pub onward : IsOnward a old w
  pub found : IsFound a w (with_row g row)
  pub stays : Stays f g
  pub rows : g.rows ≡ f.rows
  pub row_of : IsRowOf a w g (pairs_from a first (take k targets)) row
  pub number : IsNumberOf w (tried a first (take (k - 1) targets)) set

-- The search has gone on from the state `f` to the state `g`, and its walk from `old` to `w`. `g` has `count` rows of moves.
pub record IsFurther (a : Automaton) (old w : Walk) (f g : Found) (count : ℕ) : Type 0 where
  pub onward : IsOnward a old w
  pub found : IsFound a w g
  pub stays : Stays f g
  pub moved : IsMoved a w g count

-- The search is complete: the moves of all pairs found were looked at, and the walk has the images of all its sets.
pub record IsWhole (a : Automaton) (w : Walk) (f : Found) (max_pairs : ℕ) : Type 0 where
  pub counting : IsCounting a w
  pub closed : IsClosed a w (length w.sets) 0
  pub found : IsFound a w f
  pub moved : IsMoved a w f (length f.keys * width a)
  pub limit : f.limit ≡ max_pairs

-- If the set of the pair is live, the row `new` is `old` with the pair's number at the end; otherwise the row is unchanged.
abbrev pub IsNoted : Automaton → Walk → Found → Pair → List ℕ → List ℕ → Type 0
IsNoted a w f p old new =
    ((IsLive a p.set → ⊥) × (new ≡ old)) ⊎ ((k : ℕ) × IsLive a p.set × (k < length f.keys) × (pair_at w f k ≡ p) × (new ≡ old ++ k ∷ []))
