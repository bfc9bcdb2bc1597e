-- For the contracts of private functions: the search for all states that are reached from the starts. `next` gives the
-- moves of a graph with `n` states, and the list has the states found so far, at most `limit` of them.
use Rattle.std.specs.Prelude.{[], ◌≡◌, ◌≢◌, ℕ, ◌<◌, ◌≤◌, ◌⊎◌, List, ◌∷◌, ◌++◌, length, slice_index}
use Rattle.rl_graph.specs.Paths.{Has, Each, Pairs}
use Rattle.rl_numbers.specs.Reached.{IsReached, AreMore}

-- Holds if `new` is `old` with the state `q` appended, or if `old` has `q` already and `new` is `old`.
abbrev pub IsPut : ℕ → List ℕ → List ℕ → Type 0
IsPut q old new = (Has q old × (new ≡ old)) ⊎ ((Has q old → ⊥) × (new ≡ old ++ q ∷ []))

-- Holds if the list has at most `limit` states, each once, and all of them are below `n` and reached from the starts.
pub record IsFinding (next : ℕ → ℕ → List ℕ) (n : ℕ) (starts : List ℕ) (limit : ℕ) (keys : List ℕ) : Type 0 where
  pub once : Pairs (λ x y. x ≢ y) keys
  pub sound : Each (IsReached next starts) keys
  pub inside : Each (λ q. q < n) keys
  pub few : length keys ≤ limit

-- Holds if `new` begins with all of `old`.
abbrev pub Grows : List ℕ → List ℕ → Type 0
Grows old new = (more : List ℕ) × (new ≡ old ++ more)

-- Holds if the list has all targets of the moves of its first `place` states.
abbrev pub IsClosedUpTo : (ℕ → ℕ → List ℕ) → ℕ → List ℕ → Type 0
IsClosedUpTo next place keys = (i l t : ℕ) → i < place → i < length keys → Has t (next (slice_index keys i) l) → Has t keys

-- Holds if `new` begins with all of `old`, has every state for which `IsTarget` holds, and has at most `limit` states,
-- each once, all of them below `n` and reached from the starts.
pub record IsSpread (next : ℕ → ℕ → List ℕ) (n : ℕ) (starts : List ℕ) (limit : ℕ) (IsTarget : ℕ → Type 0) (old new : List ℕ) : Type 0 where
  pub finding : IsFinding next n starts limit new
  pub grows : Grows old new
  pub put : (t : ℕ) → IsTarget t → Has t new

-- Holds if the step from the list `old` to `new` is right for any starts from which all states of `old` and the state
-- `from` are reached: `new` begins with `old`, has every state for which `IsTarget` holds, and has at most `limit`
-- states, each once and reached from the starts.
abbrev pub Spreads : (ℕ → ℕ → List ℕ) → ℕ → ℕ → ℕ → (ℕ → Type 0) → List ℕ → List ℕ → Type 0
Spreads next n limit from IsTarget old new =
    (starts : List ℕ) → IsFinding next n starts limit old → IsReached next starts from → IsSpread next n starts limit IsTarget old new

-- Holds if, from any starts from which all states of `old` and the state `from` are reached, more than `limit` states
-- are reached.
abbrev pub Overflows : (ℕ → ℕ → List ℕ) → ℕ → ℕ → ℕ → List ℕ → Type 0
Overflows next n limit from old =
    (starts : List ℕ) → IsFinding next n starts limit old → IsReached next starts from → AreMore limit (IsReached next starts)

-- Holds if `t` is a target of a move of the state `from` on a letter below `end`.
abbrev pub IsTargetUpTo : (ℕ → ℕ → List ℕ) → ℕ → ℕ → ℕ → Type 0
IsTargetUpTo next from end t = (l : ℕ) × (l < end) × Has t (next from l)

-- Holds if `t` is a target of a move of the state `from`.
abbrev pub IsTarget : (ℕ → ℕ → List ℕ) → ℕ → ℕ → Type 0
IsTarget next from t = (l : ℕ) × Has t (next from l)
