-- Sets of states, and the rests that they refuse. A set of states is the list of its members in increasing order. The letters
-- of an automaton are numbered from 0; the end letter, which ends each text, has the next number, `letters_count a`. A rest is
-- a list of letters followed by the end letter. A set refuses a rest if none of its members accepts it, and it is live if it
-- refuses some rest. The accepting state is the state at which a match is complete, and the dead state has no moves.
use Rattle.std.specs.Prelude.{◌≡◌, ℕ, zero, suc, ◌<◌, ◌⊎◌, Bool, true, false, not, ◌||◌, ◌&&◌, ◌==◌, List, [], ◌∷◌, ◌++◌, filter, slice_index_or, if◌then◌else◌}
use Rattle.std.specs.List.{list_any}
use Rattle.rl_prio.specs.Automaton.{Automaton, letters_count, accepting_state, dead_state, moves_at}

-- Whether the state `q` accepts a list of letters. The accepting state accepts every list, even the empty one. Any other state
-- accepts a list if a move on its first letter leads to a state that accepts the remaining letters, so it doesn't accept the
-- empty list.
abbrev pub accepts : Automaton → ℕ → List ℕ → Bool
accepts a q [] = q == accepting_state a
accepts a q (letter ∷ rest) = q == accepting_state a || list_any (λ t. accepts a t rest) (moves_at a q letter)

-- The numbers from 0 to `n - 1`, in increasing order.
abbrev pub below : ℕ → List ℕ
below zero = []
below (suc n) = below n ++ n ∷ []

-- The set of the automaton's states for which the test `p` is true.
abbrev pub set_where : Automaton → (ℕ → Bool) → List ℕ
set_where a p = filter p (below a.states)

-- Whether the number `q` is a member of the list `set`.
abbrev pub holds : List ℕ → ℕ → Bool
holds set q = list_any (λ x. x == q) set

-- The image of `set` on `letter`, which is a letter or the end letter: the set of the states to which at least one member
-- moves on it, without the dead state.
unfoldable pub image : Automaton → List ℕ → ℕ → List ℕ
image a set letter = set_where a (λ t. not (t == dead_state a) && list_any (λ q. holds (moves_at a q letter) t) set)

-- The set of the automaton's states that are members of `set` or equal to `t`. If `t` is the dead state, the value is `set`
-- itself.
unfoldable pub joined : Automaton → ℕ → List ℕ → List ℕ
joined a t set = if t == dead_state a then set else set_where a (λ x. x == t || holds set x)

-- The list `set` without the members whose bits are set in the row `states`: the bit with the index `q` says whether the state
-- `q` is left out. Members beyond the end of the row stay.
unfoldable pub left_out : List Bool → List ℕ → List ℕ
left_out states set = filter (λ q. not (slice_index_or states q false)) set

-- Whether the set refuses the list of letters `word`, that is, none of its members accepts it. The empty set refuses every
-- list.
unfoldable pub refuses : Automaton → List ℕ → List ℕ → Bool
refuses a set word = not (list_any (λ q. accepts a q word) set)

-- Holds if the list is a rest: zero or more letters, followed by the end letter. The empty list isn't a rest.
abbrev pub IsRest : Automaton → List ℕ → Type 0
IsRest a [] = ⊥
IsRest a (letter ∷ word) = ((letter ≡ letters_count a) × (word ≡ [])) ⊎ ((letter < letters_count a) × IsRest a word)

-- Holds if the set is live: it refuses some rest.
abbrev pub IsLive : Automaton → List ℕ → Type 0
IsLive a set = (word : List ℕ) × IsRest a word × (refuses a set word ≡ true)
