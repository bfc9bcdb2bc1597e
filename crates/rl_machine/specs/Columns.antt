-- Columns. A column of a list of letters has one cell for each state of an automaton. The cell of a state says how many steps
-- the walk from that state on the letters takes, up to and including the first hit or in all if there is no hit, and whether
-- there is a hit. The walk tries the moves of a state on the next letter in order; each try is one step, a step to the
-- accepting state is a hit, and after any other step the walk from its target on the remaining letters follows. The cost of a
-- walk is one more than this number of steps from the start. The end letter is read at the end of a text.
use Rattle.std.specs.Prelude.{◌≡◌, ℕ, ◌<◌, List, [], ◌∷◌, ◌++◌, length, slice_index_or}
use Rattle.rl_prio.specs.Automaton.{Automaton, letters_count}
use Rattle.rl_prio.specs.Walk.{walk, walk_cost, walk_matched, word_at}
use Rattle.rl_machine.specs.declared.steps.Counted.{Counted}
use Rattle.rl_machine.specs.Counts.{Shows, Counts}

-- Holds if `cells` is the column of the list of letters: it has one cell for each state, in the order of their numbers, and
-- each cell shows the number of steps of the walk from its state on the letters, up to and including the first hit or of all
-- if there is no hit, and says whether there is a hit. From 2^128 steps on, a cell says only that there are so many.
pub record StandAt (a : Automaton) (cells : List Counted) (letters : List ℕ) : Type 0 where
  pub size : length cells ≡ a.states
  pub cell : (q : ℕ) (other : Counted) → q < a.states → Shows (slice_index_or cells q other) (walk a q letters)

-- Holds if `cells` is the column of the list of letters followed by the end letter.
abbrev pub StandFor : Automaton → List Counted → List ℕ → Type 0
StandFor a cells letters = StandAt a cells (letters ++ letters_count a ∷ [])

-- Holds if `into` has one cell for each state, and its cells of the states below `n` are those of the column of `letter`
-- followed by any letters of which `cells` is the column.
pub record StandBelow (a : Automaton) (cells into : List Counted) (letter n : ℕ) : Type 0 where
  pub size : length into ≡ a.states
  pub cell : (letters : List ℕ) → StandAt a cells letters → (q : ℕ) (other : Counted) → q < n → Shows (slice_index_or into q other) (walk a q (letter ∷ letters))

-- Holds if `c` has the cost of the walk on the letters followed by the end letter, and says whether that walk has a hit.
pub record ShowsWalk (c : Counted) (a : Automaton) (letters : List ℕ) : Type 0 where
  pub steps : Counts c.steps (walk_cost a (letters ++ letters_count a ∷ []))
  pub matches : c.matched ≡ walk_matched a (letters ++ letters_count a ∷ [])

-- Holds if `c` has the cost of the walk on the text, and says whether that walk has a hit.
pub record ShowsText (c : Counted) (a : Automaton) (text : List ℕ) : Type 0 where
  pub steps : Counts c.steps (walk_cost a (word_at a text))
  pub matches : c.matched ≡ walk_matched a (word_at a text)
