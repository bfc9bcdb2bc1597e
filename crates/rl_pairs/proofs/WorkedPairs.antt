-- The live pairs of `(a|a)*` as fullmatch, by computation. The letters are the codes other than `a`, and `a`. The states are the
-- start, the two places, the accepting and the dead state; from each of the first three the moves are the same.
use Rattle.std.proofs.Common.{◌≡◌, ℕ, List, [], ◌∷◌, true, false, refl}
use Rattle.rl_prio.specs.Automaton.{Automaton, moves_at}
use Rattle.rl_prio.specs.Walk.{walk_cost}
use Rattle.rl_sets.specs.Live.{image, joined, refuses}
use Rattle.rl_pairs.specs.declared.pair.Pair.{Pair}
use Rattle.rl_pairs.specs.LivePairs.{first_pair, next_pairs}

unfoldable pub doubled : Automaton
doubled =
    record {
      table = record { codes = 256; stretches = (0, 0) ∷ ((97, 1) ∷ ((98, 0) ∷ [])); samples = 32 ∷ (97 ∷ []) };
      states = 5;
      rows = (4 ∷ (4 ∷ (4 ∷ []))) ∷ ((1 ∷ (2 ∷ (4 ∷ []))) ∷ ((4 ∷ (4 ∷ (3 ∷ []))) ∷ ((4 ∷ (4 ∷ (4 ∷ []))) ∷ ((1 ∷ (2 ∷ (4 ∷ []))) ∷ ((4 ∷ (4 ∷ (3 ∷ []))) ∷ ((4 ∷ (4 ∷ (4 ∷ []))) ∷ ((1 ∷ (2 ∷ (4 ∷ []))) ∷ ((4 ∷ (4 ∷ (3 ∷ []))) ∷ ([] ∷ ([] ∷ ([] ∷ ([] ∷ ([] ∷ ([] ∷ []))))))))))))));
    }

abbrev pub pair : ℕ → List ℕ → Pair
pair state set = record { state = state; set = set }

-- From the first pair by `a`: the pairs 2, 3 and 4.
from_start : next_pairs doubled first_pair 1 ≡ pair 1 [] ∷ (pair 2 (1 ∷ []) ∷ (pair 4 (1 ∷ (2 ∷ [])) ∷ []))
unfolding doubled image joined moves_at
from_start = refl

-- By another letter: the pair 1, three times.
from_start_dead : next_pairs doubled first_pair 0 ≡ pair 4 [] ∷ (pair 4 [] ∷ (pair 4 [] ∷ []))
unfolding doubled image joined moves_at
from_start_dead = refl

-- By the end letter: the pair 1 twice, and the pair 5.
from_start_end : next_pairs doubled first_pair 2 ≡ pair 4 [] ∷ (pair 4 [] ∷ (pair 3 [] ∷ []))
unfolding doubled image joined moves_at
from_start_end = refl

-- From the pair 3 by `a`: the pairs 6, 7 and 4; 6 is the first place with the set of both places.
from_third : next_pairs doubled (pair 2 (1 ∷ [])) 1 ≡ pair 1 (1 ∷ (2 ∷ [])) ∷ (pair 2 (1 ∷ (2 ∷ [])) ∷ (pair 4 (1 ∷ (2 ∷ [])) ∷ []))
unfolding doubled image joined moves_at
from_third = refl

-- By the end letter: a set that holds the accepting state, which no live pair has.
from_third_end : next_pairs doubled (pair 2 (1 ∷ [])) 2 ≡ pair 4 (3 ∷ []) ∷ (pair 4 (3 ∷ []) ∷ (pair 3 (3 ∷ []) ∷ []))
unfolding doubled image joined moves_at
from_third_end = refl

-- Both places refuse a letter other than `a` and the end, and neither refuses the end at once.
both_refuse : refuses doubled (1 ∷ (2 ∷ [])) (0 ∷ (2 ∷ [])) ≡ true
unfolding doubled refuses moves_at
both_refuse = refl

both_accept : refuses doubled (1 ∷ (2 ∷ [])) (2 ∷ []) ≡ false
unfolding doubled refuses moves_at
both_accept = refl

-- The cost of `aax`.
cost_of_aax : walk_cost doubled (1 ∷ (1 ∷ (0 ∷ (2 ∷ [])))) ≡ 22
unfolding doubled moves_at
cost_of_aax = refl
