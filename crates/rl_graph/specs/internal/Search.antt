-- For the contracts of private functions: the search for parts (Gabow's path-based search, 2000). A state is unseen,
-- open (on the stack) or done (in a finished part). The stack has the open states in the order in which they were seen;
-- the depth of a state is its index there, from 0. The marks are the depths at which a group of the stack begins, in
-- ascending order, and the states of a group reach one another. A frame is an open state with the letter and the number
-- of its next move to look at.
use Rattle.std.specs.Prelude.{◌≡◌, ◌≢◌, ℕ, ◌+◌, ◌*◌, ◌<◌, ◌≤◌, ◌⊎◌, Bool, true, false, nat_le, nat_lt, ◌&&◌, if◌then◌else◌, List, [], ◌∷◌, ◌++◌, length, slice_get, slice_index, slice_index_or, slice_set, take, replicate, Some}
use Rattle.rl_graph.specs.declared.parts.SearchPlace.{SearchPlace}
use Rattle.rl_graph.specs.declared.parts.SearchPlace.TheVariants.{Unseen, Open, Done}
use Rattle.rl_graph.specs.declared.parts.Frame.{Frame}
use Rattle.rl_graph.specs.declared.parts.PartSearch.{PartSearch}
use Rattle.rl_graph.specs.Paths.{total, one, Has, Pairs, Reaches}

-- The state of a search: whether each state is unseen, open or done (`places`), the stack of open states, from the
-- bottom (`open_states`), the marks, the frames, and the number of finished parts (`parts`).
pub record SearchState : Type 0 where
  pub places : List SearchPlace
  pub open_states : List ℕ
  pub marks : List ℕ
  pub frames : List Frame
  pub parts : ℕ

-- The state of the program's search.
abbrev pub search_state_of : PartSearch → SearchState
search_state_of s =
    record {
      places = s.places.items;
      open_states = s.open_states.items;
      marks = s.marks.items;
      frames = s.frames.items;
      parts = s.parts;
    }

-- Says whether the state `q` is unseen, open (and at which depth) or done (and in which part). A state out of range is
-- unseen.
abbrev pub place_of : SearchState → ℕ → SearchPlace
place_of s q = slice_index_or s.places q Unseen

-- True if the state is unseen.
abbrev pub is_unseen : SearchPlace → Bool
is_unseen Unseen = true
is_unseen (Open k) = false
is_unseen (Done c) = false

-- The number of unseen states.
abbrev pub unseen : List SearchPlace → ℕ
unseen places = total (λ p. one (is_unseen p)) places

-- The number of the state's part, or 0 if the state isn't done.
abbrev pub part_in : SearchPlace → ℕ
part_in Unseen = 0
part_in (Open k) = 0
part_in (Done c) = c

-- Holds if no mark is greater than `p` and at most `k`. If `p` is less than `k`, the depths `p` and `k` are then in the
-- same group.
abbrev pub NoMark : List ℕ → ℕ → ℕ → Type 0
NoMark marks p k = (x : ℕ) → Has x marks → x ≤ k → x ≤ p

-- Holds if the state `m` is done, or is open in the group of the depth `k` or in a later group. This is what looking at
-- a move from the state at the depth `k` to `m` achieves.
abbrev pub Settled : SearchState → ℕ → ℕ → Type 0
Settled s k m = ((c : ℕ) × (place_of s m ≡ Done c)) ⊎ ((p : ℕ) × (place_of s m ≡ Open p) × NoMark s.marks p k)

-- Holds if the move with the number `i` on the letter `l` comes before the next move of the frame: the order is by
-- letter, then by number.
abbrev pub Before : ℕ → ℕ → Frame → Type 0
Before l i f = (l < f.letter) ⊎ ((l ≡ f.letter) × (i < f.number))

-- The invariant of the search over a graph of `n` states. An open state reaches all open states above it on the stack,
-- and the states of one group reach one another. Each group begins with the state of a frame. A move that was looked at
-- leads to a state that is done, or open in the same group or a later one; this goes for the moves before the next move
-- of each frame, and for all moves of an open state without a frame. A move from a state that is done leads to a state
-- that is done, in the same part or in one with a smaller number, and the states of one part reach one another.
pub record IsSearch (next : ℕ → ℕ → List ℕ) (n : ℕ) (s : SearchState) : Type 0 where
  pub size : length s.places ≡ n
  pub room : s.parts + (length s.open_states + unseen s.places) ≤ n
  pub listed : (i : ℕ) → i < length s.open_states → place_of s (slice_index s.open_states i) ≡ Open i
  pub opened : (q k : ℕ) → place_of s q ≡ Open k → (k < length s.open_states) × (slice_index s.open_states k ≡ q)
  pub forth : (q r j k : ℕ) → place_of s q ≡ Open j → place_of s r ≡ Open k → j ≤ k → Reaches next q r
  pub back : (q r j k : ℕ) → place_of s q ≡ Open j → place_of s r ≡ Open k → j ≤ k → NoMark s.marks j k → Reaches next r q
  pub marks_rise : Pairs (λ x y. x < y) s.marks
  pub frames_rise : Pairs (λ f g. f.depth < g.depth) s.frames
  pub first : 0 < length s.open_states → Has 0 s.marks
  pub marked : (k : ℕ) → Has k s.marks → (f : Frame) × Has f s.frames × (f.depth ≡ k)
  pub framed : (f : Frame) → Has f s.frames → place_of s f.state ≡ Open f.depth
  pub looked : (f : Frame) → Has f s.frames → (l i m : ℕ) → slice_get (next f.state l) i ≡ Some m → Before l i f → Settled s f.depth m
  pub over : (q k : ℕ) → place_of s q ≡ Open k → ((f : Frame) → Has f s.frames → f.depth ≢ k) → (l m : ℕ) → Has m (next q l) → Settled s k m
  pub numbered : (q c : ℕ) → place_of s q ≡ Done c → c < s.parts
  pub falls : (q c l m : ℕ) → place_of s q ≡ Done c → Has m (next q l) → (d : ℕ) × (place_of s m ≡ Done d) × (d ≤ c)
  pub one_part : (q r c : ℕ) → place_of s q ≡ Done c → place_of s r ≡ Done c → Reaches next q r

-- Holds if the stack has exactly the open states, each at its depth.
pub record IsListed (s : SearchState) : Type 0 where
  pub listed : (i : ℕ) → i < length s.open_states → place_of s (slice_index s.open_states i) ≡ Open i
  pub opened : (q k : ℕ) → place_of s q ≡ Open k → (k < length s.open_states) × (slice_index s.open_states k ≡ q)

-- Holds if each state below `n` is done.
abbrev pub IsAllDone : ℕ → SearchState → Type 0
IsAllDone n s = (q : ℕ) → q < n → (c : ℕ) × (place_of s q ≡ Done c)

-- Holds if the frame's state has no moves on the frame's letter or a greater one.
abbrev pub IsPast : (ℕ → ℕ → List ℕ) → Frame → Type 0
IsPast next f = (l : ℕ) → f.letter ≤ l → next f.state l ≡ []

-- The search with the frame `f` added on top.
abbrev pub with_top : SearchState → Frame → SearchState
with_top s f = record s { frames = s.frames ++ f ∷ [] }

-- Holds if `w` is an unseen state below `n`, and the frame's state has a move to it on the frame's letter.
pub record IsUnseenMove (next : ℕ → ℕ → List ℕ) (n : ℕ) (s : SearchState) (f : Frame) (w : ℕ) : Type 0 where
  pub within : w < n
  pub not_seen : place_of s w ≡ Unseen
  pub move : Has w (next f.state f.letter)

-- The start of a search over `n` states: all states are unseen.
abbrev pub start_of : ℕ → SearchState
start_of n = record { places = replicate n Unseen; open_states = []; marks = []; frames = []; parts = 0 }

-- The search after the state `w`, which was unseen, was made the next part, as its only state.
abbrev pub closed_alone : SearchState → ℕ → SearchState
closed_alone s w = record s { places = slice_set s.places w (Done s.parts); parts = s.parts + 1 }

-- Holds if each state that is unseen in `new` is unseen in `old` and isn't `w`.
abbrev pub IsVisited : ℕ → SearchState → SearchState → Type 0
IsVisited w old new = (q : ℕ) → place_of new q ≡ Unseen → (place_of old q ≡ Unseen) × (q ≢ w)

-- The frame of the state `w` at the depth `k` before any of its moves was looked at.
abbrev pub first_frame : ℕ → ℕ → Frame
first_frame w k = record { state = w; depth = k; letter = 0; number = 0 }

-- The search after the state `w`, which was unseen, was opened: it is on top of the stack, as a group of its own, and
-- has a frame.
abbrev pub opened : SearchState → ℕ → SearchState
opened s w =
    record {
      places = slice_set s.places w (Open (length s.open_states));
      open_states = s.open_states ++ w ∷ [];
      marks = s.marks ++ length s.open_states ∷ [];
      frames = s.frames ++ first_frame w (length s.open_states) ∷ [];
      parts = s.parts;
    }

-- Holds if `new` is the list of marks `old` after the marks greater than the depth `p` were removed from its end.
pub record IsCut (p : ℕ) (old new : List ℕ) : Type 0 where
  pub off : List ℕ
  pub split : old ≡ new ++ off
  pub above : (x : ℕ) → Has x off → p < x
  pub low : (ms : List ℕ) (x : ℕ) → new ≡ ms ++ x ∷ [] → x ≤ p

-- Holds if the frames and each state's place (unseen, open or done) are unchanged.
pub record IsKept (old new : SearchState) : Type 0 where
  pub places : new.places ≡ old.places
  pub frames : new.frames ≡ old.frames

-- The work that is left: 2 for each unseen state, which will be opened once and finished once, and 1 for each frame,
-- whose state will be finished once.
abbrev pub work_of : SearchState → ℕ
work_of s = 2 * unseen s.places + length s.frames

-- Holds if each state that is unseen in `new` is unseen in `old`.
abbrev pub StaysSeen : SearchState → SearchState → Type 0
StaysSeen old new = (q : ℕ) → place_of new q ≡ Unseen → place_of old q ≡ Unseen

-- Holds if `new` and the result are right after the state `m` was met as the target of a move. The result is true if
-- and only if `m` is unseen. If `m` is open, the groups above its group are joined to it, so the marks greater than its
-- depth are gone. Otherwise nothing has changed.
abbrev pub IsMet : ℕ → SearchState → SearchState → Bool → Type 0
IsMet m old new true = (place_of old m ≡ Unseen) × (new ≡ old)
IsMet m old new false =
    ((c : ℕ) × (place_of old m ≡ Done c) × (new ≡ old)) ⊎ ((p : ℕ) × (place_of old m ≡ Open p) × IsCut p old.marks new.marks × (new ≡ record old { marks = new.marks }))

-- The place of a state after the open states at the depth `from` and above were made the part `c`.
abbrev pub closed_place : ℕ → ℕ → SearchPlace → SearchPlace
closed_place from c Unseen = Unseen
closed_place from c (Open j) = if nat_le from j then Done c else Open j
closed_place from c (Done d) = Done d

-- The place of a state after the open states at the depths from `from` up to, but not including, `to` were made the
-- part `c`.
abbrev pub closed_below : ℕ → ℕ → ℕ → SearchPlace → SearchPlace
closed_below from to c Unseen = Unseen
closed_below from to c (Open j) = if nat_le from j && nat_lt j to then Done c else Open j
closed_below from to c (Done d) = Done d

-- Holds if `new` is `old` after the open states at the depth `from` and above were made the next part and removed from
-- the stack. The marks and the frames are unchanged.
pub record IsClosed (from : ℕ) (old new : SearchState) : Type 0 where
  pub size : length new.places ≡ length old.places
  pub places : (q : ℕ) → place_of new q ≡ closed_place from old.parts (place_of old q)
  pub open_states : new.open_states ≡ take from old.open_states
  pub marks : new.marks ≡ old.marks
  pub frames : new.frames ≡ old.frames
  pub parts : new.parts ≡ old.parts + 1

-- Holds if `new` is `old` after the state at the depth `k` was finished. If the last group begins at `k`, its mark is
-- removed and its states are made the next part. Otherwise nothing has changed.
abbrev pub IsFinished : ℕ → SearchState → SearchState → Type 0
IsFinished k old new =
    ((ms : List ℕ) × (old.marks ≡ ms ++ k ∷ []) × IsClosed k (record old { marks = ms }) new) ⊎ (((ms : List ℕ) → old.marks ≢ ms ++ k ∷ []) × (new ≡ old))
