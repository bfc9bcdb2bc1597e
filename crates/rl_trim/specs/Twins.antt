-- States that a trial leaves out, and kept states that stand in for them. The list `keep` has a flag for each place of the tree,
-- which says whether it is kept; the place `p` has the state `p + 1`. A branch that is left out may have an equal branch beside
-- it: each state of the branch is then replaced by the state of the equal branch at the same position, and each kept state by
-- itself. A function `f` gives the replacement of each state.
use Rattle.std.specs.Prelude.{◌≡◌, ◌≢◌, ℕ, zero, suc, ◌<◌, ◌≤◌, Bool, true, List, slice_index_or}
use Rattle.rl_prio.specs.Automaton.{Automaton, IsAutomaton, letters_count, accepting_state, dead_state, moves_at}
use Rattle.rl_sets.specs.Live.{holds}

-- Whether a state is kept. Every state is, except the states of places whose flag is false.
abbrev pub is_kept : List Bool → ℕ → Bool
is_kept keep zero = true
is_kept keep (suc p) = slice_index_or keep p true

-- Holds if, for each state `t` to which `q` moves on the letter, the replacement of `q` moves to the replacement of `t` on the
-- letter.
abbrev pub Follows : Automaton → (ℕ → ℕ) → ℕ → ℕ → Type 0
Follows a f q letter = (t : ℕ) → holds (moves_at a q letter) t ≡ true → holds (moves_at a (f q) letter) (f t) ≡ true

-- Holds if the replacement of the state `q` stands in for it: it is kept, isn't the dead state unless `q` is, and moves on
-- each letter and the end letter to the replacement of each target of `q`.
pub record StandsIn (a : Automaton) (keep : List Bool) (f : ℕ → ℕ) (q : ℕ) : Type 0 where
  pub kept : is_kept keep (f q) ≡ true
  pub alive : q ≢ dead_state a → f q ≢ dead_state a
  pub follows : (letter : ℕ) → letter ≤ letters_count a → Follows a f q letter

-- Holds if the replacement of each state stands in for it, each kept state is its own replacement, and the accepting state is
-- kept.
pub record AreTwins (a : Automaton) (keep : List Bool) (f : ℕ → ℕ) : Type 0 where
  pub same : (q : ℕ) → is_kept keep q ≡ true → f q ≡ q
  pub accepting : is_kept keep (accepting_state a) ≡ true
  pub each : (q : ℕ) → q < a.states → StandsIn a keep f q

-- Holds if the automaton is well formed, and some function `stands_in` gives replacements as in `AreTwins`.
pub record HasTwin (a : Automaton) (keep : List Bool) : Type 0 where
  pub whole : IsAutomaton a
  pub stands_in : ℕ → ℕ
  pub are : AreTwins a keep stands_in
