-- For trials of branches that have an equal branch beside them, as in `Twins`. Other branches may have been left out before,
-- each with an equal branch beside it. The list `before` says which places were kept before, and `keep` which are kept now. A
-- function `f` gives the replacement of each state that was kept before.
use Rattle.std.specs.Prelude.{◌≡◌, ◌≢◌, ℕ, ◌+◌, ◌%◌, ◌^◌, ◌<◌, ◌≤◌, Bool, true, List, if◌then◌else◌}
use Rattle.rl_prio.specs.Automaton.{Automaton, letters_count, accepting_state, dead_state, moves_at}
use Rattle.rl_sets.specs.Live.{holds}
use Rattle.rl_trim.specs.Twins.{is_kept}

-- The replacement of the state `q`: `q` itself if it is kept, otherwise the state `q + distance`, counted modulo 2^32 so that
-- it may also lie before `q`.
abbrev pub stand_in : List Bool → ℕ → ℕ → ℕ
stand_in keep distance q = if is_kept keep q then q else (q + distance) % 2 ^ 32

-- Holds if, for each state `t` that was kept before and to which `q` moves on the letter, the replacement of `q` moves to the
-- replacement of `t` on the letter.
abbrev pub FollowsAfter : Automaton → List Bool → (ℕ → ℕ) → ℕ → ℕ → Type 0
FollowsAfter a before f q letter = (t : ℕ) → is_kept before t ≡ true → holds (moves_at a q letter) t ≡ true → holds (moves_at a (f q) letter) (f t) ≡ true

-- Holds if the replacement of the state `q` stands in for it among the states that were kept before: it is kept, isn't the
-- dead state unless `q` is, and moves on each letter and the end letter to the replacement of each target of `q` that was kept
-- before.
pub record StandsInAfter (a : Automaton) (before keep : List Bool) (f : ℕ → ℕ) (q : ℕ) : Type 0 where
  pub kept : is_kept keep (f q) ≡ true
  pub alive : q ≢ dead_state a → f q ≢ dead_state a
  pub follows : (letter : ℕ) → letter ≤ letters_count a → FollowsAfter a before f q letter

-- Holds if the state `q` was kept before if it is kept, and its replacement stands in for it if it was kept before.
pub record IsReplaced (a : Automaton) (before keep : List Bool) (f : ℕ → ℕ) (q : ℕ) : Type 0 where
  pub fewer : is_kept keep q ≡ true → is_kept before q ≡ true
  pub stands : is_kept before q ≡ true → StandsInAfter a before keep f q

-- Holds if each state is replaced as in `IsReplaced`, each kept state is its own replacement, and the accepting state is kept.
pub record AreTwinsAfter (a : Automaton) (before keep : List Bool) (f : ℕ → ℕ) : Type 0 where
  pub same : (q : ℕ) → is_kept keep q ≡ true → f q ≡ q
  pub accepting : is_kept keep (accepting_state a) ≡ true
  pub each : (q : ℕ) → q < a.states → IsReplaced a before keep f q
