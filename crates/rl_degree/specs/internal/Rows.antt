-- For the contracts of private functions: the search for the word of a split. It goes over triples of states that move
-- side by side on the same letters. The outer two are a pair of one part of the product of two copies of the graph of
-- inner moves, and the middle one is a state of the graph. The word must lead one pair, the goal pair, back to itself,
-- and the middle state `from` to the middle state `to`. The middle states that were met together beside a pair are kept
-- as a row of bits. A pair's place is its index among the pairs of its part. A step is a letter with the number of the
-- step that it follows; steps are numbered from 1, and 0 means the start.
use Rattle.std.specs.Prelude.{◌≡◌, ℕ, ◌+◌, ◌<◌, ◌≤◌, ◌⊎◌, ◌↔◌, Bool, true, false, not, List, [], ◌∷◌, ◌++◌, length, replicate, slice_index, slice_index_or, slice_set, if◌then◌else◌}
use Rattle.rl_lanes.specs.Rows.{list_or, list_and_not, IsSubset, HasOther}
use Rattle.rl_graph.specs.Paths.{total, one, Has, paths}
use Rattle.rl_graph.specs.Graph.{Graph, edges_of}
use Rattle.rl_graph.specs.Product.{pair_moves}
use Rattle.rl_kernel.specs.Members.{is_member}
use Rattle.rl_degree.specs.internal.Pairs.{lists_of, row_of}
use Rattle.rl_degree.specs.internal.Moves.{cell, with_cell}
use Rattle.rl_degree.specs.declared.pairs.PairTable.{PairTable}
use Rattle.rl_degree.specs.declared.rows.Step.{Step}
use Rattle.rl_degree.specs.declared.rows.Found.{Found}
use Rattle.rl_degree.specs.declared.rows.SplitSearch.{SplitSearch}

-- What a search goes over: the number of states of the graph, the moves of the middle state (`next`), the moves of a
-- pair in the product (`pairs`), the pairs of the part (`members`), and the place of each pair among them.
pub record Field : Type 0 where
  pub states : ℕ
  pub next : ℕ → ℕ → List ℕ
  pub pairs : ℕ → ℕ → List ℕ
  pub members : List ℕ
  pub places : List ℕ

-- The field of a search over the pairs of a part.
abbrev pub field_of : Graph → PairTable → ℕ → Field
field_of g t part =
    record {
      states = g.states;
      next = edges_of g;
      pairs = pair_moves (edges_of t.inner) t.inner.states;
      members = row_of (lists_of t.placed) part;
      places = (lists_of t.placed).places;
    }

-- The state of a search: whether it keeps its steps, the place of the goal pair, the middle states `from` and `to`, the
-- middle states that were seen beside the pair at each place, the steps, and the rows that were found and not followed
-- yet.
pub record SearchState : Type 0 where
  pub keeps : Bool
  pub place : ℕ
  pub from : ℕ
  pub to : ℕ
  pub seen : List (List Bool)
  pub steps : List Step
  pub queue : List Found

-- The state of the program's search.
abbrev pub search_state_of : SplitSearch → SearchState
search_state_of s =
    record {
      keeps = s.keeps;
      place = s.place;
      from = s.from;
      to = s.to;
      seen = s.seen.items;
      steps = s.steps.items;
      queue = s.queue.items;
    }

-- True if the row that was found has the middle state `m`.
abbrev pub has_middle : Found → ℕ → Bool
has_middle f m = slice_index_or f.middle m false

-- The pair beside which the row was found.
abbrev pub outer_of : Field → Found → ℕ
outer_of d f = slice_index d.members f.place

-- The moves, on the letter `l`, of the pair beside which the row was found.
abbrev pub outer_moves : Field → Found → ℕ → List ℕ
outer_moves d f l = d.pairs (outer_of d f) l

-- A row of `n` bits in which only the bit of the state `m` is true.
abbrev pub row_with : ℕ → ℕ → List Bool
row_with n m = slice_set (replicate n false) m true

-- The start of a search over a part with `pairs` pairs, for a word that leads the middle state `from` to the middle
-- state `to`. `keeps` says whether the search keeps its steps. Beside the goal pair, at `place`, the middle state
-- `from` was found and waits to be followed. The states of the row `hopeless` count as seen beside each pair.
abbrev pub start_state : Bool → List Bool → ℕ → ℕ → ℕ → ℕ → SearchState
start_state keeps hopeless pairs place from to =
    record {
      keeps = keeps;
      place = place;
      from = from;
      to = to;
      seen = with_cell (replicate pairs hopeless) place from;
      steps = [];
      queue = record { step = 0; place = place; middle = row_with (length hopeless) from } ∷ [];
    }

-- The list `words`, followed by one word for each step, in order. The word of a step `s` is the word with the index
-- `s.from` in the list so far, or the empty word if there is none, with the letter `s.letter` appended.
abbrev pub words_from : List (List ℕ) → List Step → List (List ℕ)
words_from words [] = words
words_from words (s ∷ steps) = words_from (words ++ (slice_index_or words s.from [] ++ s.letter ∷ []) ∷ []) steps

-- The word of the step with the number `k`: the word of the step that it follows, with its letter appended. Steps are
-- numbered from 1, and the number 0 stands for the start, whose word is empty.
abbrev pub word_at : List Step → ℕ → List ℕ
word_at steps k = slice_index_or (words_from ([] ∷ []) steps) k []

-- Holds if each step follows an earlier step or the start.
abbrev pub IsRooted : List Step → Type 0
IsRooted steps = (k : ℕ) (s : Step) → k < length steps → (slice_index_or steps k s).from ≤ k

-- Holds if the steps define the word of the step with the number `step`: there is such a step or it is 0, and each step
-- follows an earlier one or the start.
pub record HasWord (steps : List Step) (step : ℕ) : Type 0 where
  pub rooted : IsRooted steps
  pub step_in : step ≤ length steps

-- The steps with a new one appended, which follows the step `from` on `letter`. If the search keeps no steps, they are
-- unchanged.
abbrev pub steps_with : ℕ → ℕ → SearchState → List Step
steps_with from letter s = if s.keeps then s.steps ++ record { from = from; letter = letter } ∷ [] else s.steps

-- The number of the next step to be appended, or 0 if the search keeps no steps.
abbrev pub number_of_new : SearchState → ℕ
number_of_new s = if s.keeps then length s.steps + 1 else 0

-- The search after the row `image` was found beside the pair at `place`, on `letter` after the step `from`. All its
-- states count as seen there, and those that weren't seen before wait to be followed.
abbrev pub reached : ℕ → ℕ → ℕ → List Bool → SearchState → SearchState
reached from letter place image s =
    record s {
      seen = slice_set s.seen place (list_or (slice_index_or s.seen place []) image);
      steps = steps_with from letter s;
      queue = s.queue ++ record { step = number_of_new s; place = place; middle = list_and_not image (slice_index_or s.seen place []) } ∷ [];
    }

-- Holds if `new` is `old` after the row `image` was found beside the pair at `place`, on `letter` after the step
-- `from`. If all its states were seen there before, nothing has changed.
abbrev pub IsReached : ℕ → ℕ → ℕ → List Bool → SearchState → SearchState → Type 0
IsReached from letter place image old new =
    (IsSubset image (slice_index_or old.seen place []) × (new ≡ old)) ⊎ (HasOther image (slice_index_or old.seen place []) × (new ≡ reached from letter place image old))

-- The search with `f` put back at the front of its queue.
abbrev pub behind : Found → SearchState → SearchState
behind f s = record s { queue = f ∷ s.queue }

-- Holds if `f` is a row of middle states that some word reaches: the word leads the goal pair to the pair of `f`, and
-- the middle state `from` to each state of the row. If the search keeps its steps, this word is the word of the step
-- with the number `f.step`.
pub record IsFound (d : Field) (s : SearchState) (f : Found) : Type 0 where
  pub place_in : f.place < length d.members
  pub step_in : f.step ≤ length s.steps
  pub wide : length f.middle ≡ d.states
  pub word : List ℕ
  pub outer : 1 ≤ paths d.pairs (slice_index d.members s.place) (slice_index d.members f.place) word
  pub inner : (m : ℕ) → has_middle f m ≡ true → 1 ≤ paths d.next s.from m word
  pub kept : s.keeps ≡ true → word ≡ word_at s.steps f.step

-- Holds if a row in the queue has the middle state `m` beside the pair at the place `i`.
abbrev pub Waits : SearchState → ℕ → ℕ → Type 0
Waits s i m = (f : Found) × Has f s.queue × (f.place ≡ i) × (has_middle f m ≡ true)

-- Holds if, for the pair at the place `i`, the middle state `m` and the letter `l`: whenever the pair moves on `l` to a
-- pair of the part, and `m` moves on `l` to a state, this state was seen beside that pair.
abbrev pub AreMovesSeen : Field → SearchState → ℕ → ℕ → ℕ → Type 0
AreMovesSeen d s l i m =
    (y k : ℕ) → Has y (d.pairs (slice_index d.members i) l) → is_member d.members d.places y ≡ true → Has k (d.next m l) → cell s.seen (slice_index d.places y) k ≡ true

-- The invariant of a search. Every row in the queue is reached by some word. Every middle state that was seen beside a
-- pair waits in the queue, or the results of all its moves beside that pair were seen. If the goal, the middle state
-- `to` beside the goal pair, was seen, it waits in the queue.
pub record IsSearching (d : Field) (s : SearchState) : Type 0 where
  pub high : length s.seen ≡ length d.members
  pub wide : (i : ℕ) → i < length d.members → length (slice_index_or s.seen i []) ≡ d.states
  pub rooted : IsRooted s.steps
  pub found : (f : Found) → Has f s.queue → IsFound d s f
  pub start : cell s.seen s.place s.from ≡ true
  pub settled : (i m : ℕ) → cell s.seen i m ≡ true → Waits s i m ⊎ ((l : ℕ) → AreMovesSeen d s l i m)
  pub goal : cell s.seen s.place s.to ≡ true → Waits s s.place s.to

-- An upper bound on the number of rows still to be followed: the number of middle states not seen yet, summed over all
-- pairs, plus the length of the queue.
abbrev pub work_of : SearchState → ℕ
work_of s = total (λ row. total (λ b. one (not b)) row) s.seen + length s.queue

-- Holds if `new` is a later state than `old` of one search that is following the row `f`: what was seen is still seen,
-- the work has not grown, and the invariant holds with `f` put back into the queue.
pub record IsFurther (d : Field) (f : Found) (old new : SearchState) : Type 0 where
  pub keeps : new.keeps ≡ old.keeps
  pub place : new.place ≡ old.place
  pub from : new.from ≡ old.from
  pub to : new.to ≡ old.to
  pub searching : IsSearching d (behind f new)
  pub grows : (i m : ℕ) → cell old.seen i m ≡ true → cell new.seen i m ≡ true
  pub work : work_of new ≤ work_of old

-- Holds if `image` has exactly the states to which the middle states of `f` move on the letter `l`.
pub record IsImage (d : Field) (f : Found) (l : ℕ) (image : List Bool) : Type 0 where
  pub wide : length image ≡ d.states
  pub moves : (k : ℕ) → (slice_index_or image k false ≡ true) ↔ ((m : ℕ) × (has_middle f m ≡ true) × Has k (d.next m l))

-- Holds if all middle states of the row `image` were seen beside the pair `y`, or `y` isn't a pair of the part.
abbrev pub IsMet : Field → List Bool → SearchState → ℕ → Type 0
IsMet d image s y =
    is_member d.members d.places y ≡ true → (k : ℕ) → slice_index_or image k false ≡ true → cell s.seen (slice_index d.places y) k ≡ true

-- Holds if the row `f` was followed on the letter `l`: whenever its pair moves on `l` to a pair of the part, and one of
-- its middle states moves on `l` to a state, this state was seen beside that pair.
abbrev pub IsFollowedOn : Field → Found → ℕ → SearchState → Type 0
IsFollowedOn d f l s = (m : ℕ) → has_middle f m ≡ true → AreMovesSeen d s l f.place m

-- Holds if the row `f` was followed on all letters below `end`.
abbrev pub IsFollowedUpTo : Field → Found → ℕ → SearchState → Type 0
IsFollowedUpTo d f end s = (l : ℕ) → l < end → IsFollowedOn d f l s
