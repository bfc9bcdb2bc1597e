-- Refused rests, and the sets that are searched for them. A rest is a list of letters followed by the end letter; a set of
-- states refuses it if none of its members accepts it, and a set is live if it refuses some rest. The image of a set on a
-- letter is the set of the states to which its members move on it. A route is the program's description of a rest: either
-- `End`, for the rest of only the end letter, or `On letter next`, for `letter` followed by the rest of the earlier route with
-- the number `next`. The number of a route is its index in the list of routes, from 0. A life is what the program has recorded
-- of the rests that a set refuses.
use Rattle.std.specs.Prelude.{◌≡◌, ◌≢◌, ℕ, suc, ◌<◌, ◌≤◌, ◌⊎◌, true, false, List, [], ◌∷◌, ◌++◌, length, slice_get, Some, All, Contains}
use Rattle.std.specs.List.{AllPairs}
use Rattle.rl_prio.specs.Automaton.{Automaton, letters_count, accepting_state}
use Rattle.rl_sets.specs.declared.life.Life.{Life}
use Rattle.rl_sets.specs.declared.life.Life.TheVariants.{Unknown, Live, Dead}
use Rattle.rl_sets.specs.declared.life.Route.{Route}
use Rattle.rl_sets.specs.declared.life.Route.TheVariants.{End, On}
use Rattle.rl_sets.specs.Live.{holds, image, refuses, IsRest, IsLive}

-- Holds if a set can be reached from the set `from` by taking images zero or more times, on any letters and the end letter.
-- Images are taken only of sets without the accepting state; so if `from` has it, only `from` is reached.
pub data Reached (a : Automaton) (from : List ℕ) : List ℕ → Type 0 where
  here : Reached a from from
  further : {set : List ℕ} (letter : ℕ) → Reached a from set → holds set (accepting_state a) ≡ false → letter ≤ letters_count a → Reached a from (image a set letter)

-- Holds if `new` is `old` with zero or more sets at the end, all of which can be reached from the set `from` by images.
pub record IsGrown (a : Automaton) (from : List ℕ) (old new : List (List ℕ)) : Type 0 where
  pub added : List (List ℕ)
  pub more : new ≡ old ++ added
  pub reached : All (Reached a from) added

-- Holds if there are `limit + 1` different sets each of which is in `listed` or can be reached from the set `from` by images.
pub record IsOver (a : Automaton) (from : List ℕ) (listed : List (List ℕ)) (limit : ℕ) : Type 0 where
  pub sets : List (List ℕ)
  pub many : length sets ≡ suc limit
  pub apart : AllPairs ◌≢◌ sets
  pub each : All (λ s. Contains listed s ⊎ Reached a from s) sets

-- Holds if the word is a rest that the set refuses.
abbrev pub IsRefusedRest : Automaton → List ℕ → List ℕ → Type 0
IsRefusedRest a set word = IsRest a word × (refuses a set word ≡ true)

-- Holds if the list `routes` has a route with the given number, and it describes the given word; `end` is the end letter.
pub data Routed (end : ℕ) (routes : List Route) : ℕ → List ℕ → Type 0 where
  last : {r : ℕ} → slice_get routes r ≡ Some End → Routed end routes r (end ∷ [])
  more : {r next : ℕ} {word : List ℕ} (letter : ℕ) → slice_get routes r ≡ Some (On letter next) → next < r → Routed end routes next word → Routed end routes r (letter ∷ word)

-- Holds if the route with the number `r` describes a rest that the set refuses.
abbrev pub HasRoute : Automaton → List Route → List ℕ → ℕ → Type 0
HasRoute a routes set r = (word : List ℕ) × Routed (letters_count a) routes r word × IsRest a word × (refuses a set word ≡ true)

-- Holds if the life recorded for the set is true: `Unknown` says nothing, `Live r` says that the set refuses the rest that the
-- route with the number `r` describes, and `Dead` says that the set refuses no rest.
abbrev pub IsLife : Automaton → List Route → List ℕ → Life → Type 0
IsLife a routes set Unknown = Unit {0}
IsLife a routes set (Live r) = HasRoute a routes set r
IsLife a routes set Dead = IsLive a set → ⊥
