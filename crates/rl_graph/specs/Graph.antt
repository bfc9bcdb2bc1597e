-- The mathematical model of a multigraph. Its states and letters are numbered from 0. A move leads from a state to a
-- target, which is a state, on a letter. Several moves, called parallel, may have the same state, letter and target.
use Rattle.std.specs.Prelude.{◌≡◌, ◌≢◌, ℕ, ◌+◌, ◌*◌, ◌^◌, ◌<◌, ◌⊎◌, ◌&&◌, nat_lt, if◌then◌else◌, List, [], ◌∷◌, ◌++◌, length, slice_index_or}
use Rattle.rl_graph.specs.Paths.{Has}

-- A multigraph: the number of its states, the number of its letters, and a row for each state and letter, which lists
-- the targets of the moves of that state on that letter. The row of the state `q` and the letter `l` has the index
-- `q * letters + l`.
pub record Graph : Type 0 where
  pub states : ℕ
  pub letters : ℕ
  pub rows : List (List ℕ)

-- The targets of the moves of a state on a letter, in the order in which they were added. A state or a letter out of
-- range has no moves.
abbrev pub edges_of : Graph → ℕ → ℕ → List ℕ
edges_of g q l =
    if nat_lt q g.states && nat_lt l g.letters then slice_index_or g.rows (q * g.letters + l) [] else []

-- Holds if the program can store the multigraph: there are fewer than 2^32 states and fewer than 2^32 letters, each
-- state and letter has a row, all targets are states, and each state has fewer than 2^32 moves on a letter, so that a
-- move's number fits a `u32`.
pub record IsWhole (g : Graph) : Type 0 where
  pub few_states : g.states < 2 ^ 32
  pub few_letters : g.letters < 2 ^ 32
  pub size : length g.rows ≡ g.states * g.letters
  pub targets : (q l m : ℕ) → Has m (edges_of g q l) → m < g.states
  pub short : (q l : ℕ) → length (edges_of g q l) < 2 ^ 32

-- Holds if the multigraph has `states` states, `letters` letters and no moves.
pub record IsBare (g : Graph) (states letters : ℕ) : Type 0 where
  pub all_states : g.states ≡ states
  pub all_letters : g.letters ≡ letters
  pub no_move : (q l : ℕ) → edges_of g q l ≡ []

-- Holds if `new` is `old` with one more move on `letter`, from the state `from` to the state `to`. It is the last move
-- of its state and letter.
pub record IsAdded (old new : Graph) (from letter to : ℕ) : Type 0 where
  pub same_states : new.states ≡ old.states
  pub same_letters : new.letters ≡ old.letters
  pub here : edges_of new from letter ≡ edges_of old from letter ++ to ∷ []
  pub elsewhere : (q l : ℕ) → (q ≢ from) ⊎ (l ≢ letter) → edges_of new q l ≡ edges_of old q l
