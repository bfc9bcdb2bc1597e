-- How far the search for a difference has come. A set pair is two sets of states, one of each of two automata, to which the
-- same word leads; the letters of the word are those of both trees. It shows a difference if the end letter, which comes after
-- the last letter, leads exactly one of its sets to the accepting state. A walk is a list of different sets of states,
-- numbered from 0, with a limit; each of two walks numbers the sets of one automaton. The key of a set pair is the numbers of
-- its two sets, and its place is its index in the list of the set pairs found, from 0. The way of a set pair is the place of
-- the set pair from which it was found (`parent`), and the letter.
use Rattle.std.specs.Prelude.{◌≡◌, ◌≢◌, ℕ, suc, ◌<◌, ◌≤◌, ◌⊎◌, List, [], ◌∷◌, ◌++◌, length, map, slice_index_or, slice_get, Option, None, Some, All, Bool, true, false, not, ◌&&◌, nat_lt, if◌then◌else◌}
use Rattle.rl_prio.specs.Automaton.{Automaton, IsAutomaton, letters_count, accepting_state}
use Rattle.rl_sets.specs.Live.{image, refuses}
use Rattle.rl_sets.specs.Walk.{Walk, set_at, set_of, IsMadeFor, IsListed}
use Rattle.rl_equiv.specs.declared.pair.SetPair.{SetPair}
use Rattle.rl_equiv.specs.declared.searching.PairKey.{PairKey}
use Rattle.rl_equiv.specs.declared.searching.Way.{Way}
use Rattle.rl_equiv.specs.declared.searching.PairSearch.{PairSearch}
use Rattle.rl_equiv.specs.declared.sameness.Sameness.{Sameness}
use Rattle.rl_equiv.specs.declared.sameness.Sameness.TheVariants.{Equal, Apart, Passed}
use Rattle.std.proofs.Math.Bool.{beq}
use Rattle.rl_syntax.specs.declared.limits.TheConstants.{MOST_SET_PAIRS}
use Rattle.rl_equiv.specs.declared.searching.Ends.{Ends}
use Rattle.rl_equiv.specs.Sides.{IsSide}
use Rattle.rl_equiv.specs.SetPairs.{first_pair, SetPairs}
use Rattle.rl_equiv.specs.Numbering.{Reached, with_reached, reached_after}
use Rattle.rl_equiv.specs.internal.Machines.{pair_on, all_proper, pairs_of}

-- An automaton of a tree that is matched to the end of the text: no letter leads to the accepting state, and the end letter
-- leads from any set to no state or only to the accepting state, apart from the dead state.
pub record IsReader (a : Automaton) : Type 0 where
  pub whole : IsAutomaton a
  pub on_letters : (set : List ℕ) (letter : ℕ) → letter < letters_count a → all_proper a (image a set letter) ≡ true
  pub at_end : (set : List ℕ) → (image a set (letters_count a) ≡ set_of a []) ⊎ (image a set (letters_count a) ≡ set_of a (accepting_state a ∷ []))

-- Both automata are of trees that are matched to the end of the text (`IsReader`), and they have the same number of letters.
pub record AreReaders (a b : Automaton) : Type 0 where
  pub first_reads : IsReader a
  pub second_reads : IsReader b
  pub same_letters : letters_count a ≡ letters_count b

-- The walk `new` belongs to the automaton and has the limit of `old`. Its sets are those of `old`, or those with `set`
-- appended, and `n` is the number of `set` among them.
pub record Gets (a : Automaton) (old new : Walk) (set : List ℕ) (n : ℕ) : Type 0 where
  pub made : IsMadeFor new a
  pub limit_is : new.limit ≡ old.limit
  pub listed : IsListed old.sets new.sets set n

-- The state of a search: the greatest number of set pairs to look at, the walks over the sets of both automata, the keys of
-- the set pairs found, and for each of them how it was found.
pub record State : Type 0 where
  pub limit : ℕ
  pub first : Walk
  pub second : Walk
  pub keys : List PairKey
  pub ways : List Way

-- The state of the search that the program's value represents.
abbrev pub state_of : PairSearch → State
state_of s = record { limit = s.limit; first = s.first; second = s.second; keys = s.keys.keys; ways = s.ways.items }

-- The key that stands in for a missing one: the first set of each walk.
abbrev pub no_key : PairKey
no_key = record { first = 0; second = 0 }

-- The way that stands in for a missing one. The first set pair has it too.
abbrev pub no_way : Way
no_way = record { parent = 0; letter = 0 }

-- The key of the set pair at the place `k`, or `no_key` if there is none.
abbrev pub key_at : State → ℕ → PairKey
key_at s k = slice_index_or s.keys k no_key

-- The way in which the set pair at the place `k` was found, or `no_way` if there is none.
abbrev pub way_at : State → ℕ → Way
way_at s k = slice_index_or s.ways k no_way

-- The set pair with the given key: its sets, taken from the two walks.
abbrev pub pair_of : Walk → Walk → PairKey → SetPair
pair_of v w key = record { first = set_at v key.first; second = set_at w key.second }

-- The set pairs that were found, in the order of their keys. Each has the sets that its key names in the two walks.
abbrev pub pairs_in : State → List SetPair
pairs_in s = map (pair_of s.first s.second) s.keys

-- The set pair at the place `k`, or the one of `no_key` if there is none.
abbrev pub pair_at : State → ℕ → SetPair
pair_at s k = pair_of s.first s.second (key_at s k)

-- The given words, followed by one word for each way: the word at the place of its parent, with its letter at the end.
abbrev pub words_from : List (List ℕ) → List Way → List (List ℕ)
words_from words [] = words
words_from words (way ∷ ways) = words_from (words ++ (slice_index_or words way.parent [] ++ way.letter ∷ []) ∷ []) ways

-- The words of the ways, one for each. The first way belongs to the first set pair, whose word is empty.
abbrev pub words_of : List Way → List (List ℕ)
words_of [] = []
words_of (way ∷ ways) = words_from ([] ∷ []) ways

-- The word by which the set pair at the place `k` was found, or the empty word if there is none.
abbrev pub word_at : State → ℕ → List ℕ
word_at s k = slice_index_or (words_of s.ways) k []

-- The set pair at the place `k`, with the word by which it was found. If there is none, it is the one of `no_key`, with the
-- empty word.
abbrev pub reached_at : State → ℕ → Reached
reached_at s k = record { pair = pair_at s k; word = word_at s k }

-- The set pairs with the words in the same places, or with the empty word if there are too few.
abbrev pub reached_of : List SetPair → List (List ℕ) → List Reached
reached_of [] words = []
reached_of (p ∷ ps) [] = record { pair = p; word = [] } ∷ reached_of ps []
reached_of (p ∷ ps) (word ∷ words) = record { pair = p; word = word } ∷ reached_of ps words

-- The set pairs that were found, with the words by which they were found.
abbrev pub reached_in : State → List Reached
reached_in s = reached_of (pairs_in s) (words_of s.ways)

-- The next set pair of `r` on `letter`: the images of its sets, with its word followed by the letter.
abbrev pub reached_on : Automaton → Automaton → Reached → ℕ → Reached
reached_on a b r letter = record { pair = pair_on a b r.pair letter; word = r.word ++ letter ∷ [] }

-- The set pair at the place `k` is the next one, on the letter of `way`, of the set pair at the place `way.parent`, which is
-- before `k`.
pub record IsNext (a b : Automaton) (s : State) (k : ℕ) (way : Way) : Type 0 where
  pub earlier : way.parent < k
  pub small : way.letter < letters_count a
  pub is : pair_at s k ≡ pair_on a b (pair_at s way.parent) way.letter

-- The invariant of a search: its limit is from 1 to `MOST_SET_PAIRS`; it has found at least the first set pair and at most one
-- more than its limit; its keys name sets of its walks; and each set pair after the first is the next one of an earlier one.
pub record IsSearch (a b : Automaton) (s : State) : Type 0 where
  pub some_limit : 1 ≤ s.limit
  pub low_limit : s.limit ≤ MOST_SET_PAIRS
  pub first_side : IsSide a s.limit (length s.keys) s.first
  pub second_side : IsSide b s.limit (length s.keys) s.second
  pub first_in : (k : ℕ) → k < length s.keys → (key_at s k).first < length s.first.sets
  pub second_in : (k : ℕ) → k < length s.keys → (key_at s k).second < length s.second.sets
  pub some : 0 < length s.keys
  pub few : length s.keys ≤ suc s.limit
  pub paired : length s.ways ≡ length s.keys
  pub start : pair_at s 0 ≡ first_pair
  pub ways : (k : ℕ) → 0 < k → k < length s.keys → IsNext a b s k (way_at s k)

-- The search `new` goes on from `old`: it has the invariant of a search and the same limit, and the set pairs that were found
-- before, with their words, are still the first ones in it.
pub record IsOnward (a b : Automaton) (old new : State) : Type 0 where
  pub search : IsSearch a b new
  pub limit_is : new.limit ≡ old.limit
  pub more : List Reached
  pub grown : reached_in new ≡ reached_in old ++ more

-- The list with one more set pair at its end, or the list itself if it has this set pair already or has more than `limit`
-- items.
abbrev pub with_reached_within : ℕ → List Reached → Reached → List Reached
with_reached_within limit found r = if nat_lt limit (length found) then found else with_reached found r

-- The list `found` is the list `whole`, or it is the first part of it and has more than `limit` items.
abbrev pub AreCapped : {X : Type 0} → ℕ → List X → List X → Type 0
AreCapped {X = X} limit found whole = (found ≡ whole) ⊎ ((limit < length found) × ((more : List X) × (whole ≡ found ++ more)))

-- The ends of a set pair: which of its sets the end letter leads to the accepting state.
abbrev pub ends_of : SetPairs → SetPair → Ends
ends_of d p = record { first = d.ends_first p; second = d.ends_second p }

-- Whether the end letter leads exactly one of the two sets to the accepting state, which is a difference.
abbrev pub is_apart : Ends → Bool
is_apart e = not (beq e.first e.second)

-- The ends that stand in for missing ones: the end letter leads neither set to the accepting state.
abbrev pub no_ends : Ends
no_ends = record { first = false; second = false }

-- The ends of the set pair at the place `k`, or `no_ends` if there are none.
abbrev pub ends_in : List Ends → ℕ → Ends
ends_in seen k = slice_index_or seen k no_ends

-- The search has looked at its first set pairs, as many as the list `seen` has items, and these are their ends. What it has
-- found is what `reached_after` says for this number, or the first part of that, with more than `limit` set pairs.
pub record IsSeen (a b : Automaton) (limit : ℕ) (s : State) (seen : List Ends) : Type 0 where
  pub search : IsSearch a b s
  pub limit_is : s.limit ≡ limit
  pub in_limit : length seen ≤ limit
  pub in_found : length seen ≤ length s.keys
  pub capped : AreCapped limit (reached_in s) (reached_after (pairs_of a b) (length seen))
  pub are : (k : ℕ) → k < length seen → ends_in seen k ≡ ends_of (pairs_of a b) (pair_at s k)

-- The search has looked at `limit` set pairs, or at all that were found.
abbrev pub IsThrough : ℕ → State → List Ends → Type 0
IsThrough limit s seen = (limit ≤ length seen) ⊎ (length s.keys ≤ length seen)

-- None of the set pairs that were looked at shows a difference, except perhaps the last. If the last doesn't either, the
-- search has looked at `limit` set pairs, or at all that were found.
pub record IsSeenApart (limit : ℕ) (s : State) (seen : List Ends) : Type 0 where
  pub before : (k : ℕ) → suc k < length seen → is_apart (ends_in seen k) ≡ false
  pub last : IsThrough limit s seen ⊎ ((k : ℕ) → length seen ≡ suc k → is_apart (ends_in seen k) ≡ true)

-- The word is the one by which the set pair at the given place was found, as the ways give it: the letters of the ways on the
-- path from the first set pair, which is at the place 0 and has the empty word.
pub data Leads (ways : List Way) : ℕ → List ℕ → Type 0 where
  start : Leads ways 0 []
  onward : {k : ℕ} {way : Way} {word : List ℕ} → 0 < k → slice_get ways k ≡ Some way → Leads ways way.parent word → Leads ways k (word ++ way.letter ∷ [])

-- The sample code of a letter, or 0 if there is no such letter.
abbrev pub sample_of : Automaton → ℕ → ℕ
sample_of a letter = slice_index_or a.table.samples letter 0

-- The text spells a word by the samples of its letters. From the start, exactly one of the two automata refuses the word
-- followed by the end letter.
pub record IsApart (a b : Automaton) (text : List ℕ) : Type 0 where
  pub word : List ℕ
  pub small : All (λ letter. letter < letters_count a) word
  pub spelled : text ≡ map (sample_of a) word
  pub apart : refuses a (0 ∷ []) (word ++ letters_count a ∷ []) ≢ refuses b (0 ∷ []) (word ++ letters_count b ∷ [])

-- If the answer is `Apart`, its text tells the automata apart (`IsApart`). Nothing is required of the other answers.
abbrev pub TellsApart : Automaton → Automaton → Sameness → Type 0
TellsApart a b (Equal relation) = Unit {0}
TellsApart a b (Apart text) = IsApart a b text
TellsApart a b Passed = Unit {0}

-- The text spells the word of the first of the set pairs that were looked at whose ends are `x` and `y`. If there is no text,
-- none of them has these ends.
abbrev pub IsFirstText : Automaton → State → List Ends → Bool → Bool → Option (List ℕ) → Type 0
IsFirstText a s seen x y None = (k : ℕ) → k < length seen → (beq (ends_in seen k).first x && beq (ends_in seen k).second y) ≡ false
IsFirstText a s seen x y (Some text) =
    (place : ℕ) × (place < length seen) × ((k : ℕ) → k < place → (beq (ends_in seen k).first x && beq (ends_in seen k).second y) ≡ false)
    × ((beq (ends_in seen place).first x && beq (ends_in seen place).second y) ≡ true)
    × ((word : List ℕ) × Leads s.ways place word × (text ≡ map (sample_of a) word))
