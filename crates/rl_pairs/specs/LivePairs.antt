-- Live pairs. A pair is a state of an automaton with a set, the states that were tried before it on the same text without
-- success. A move of a pair leads to the pair of its target and a new set: the image of the old set joined with the targets of
-- the earlier moves. A rest is a list of letters followed by the end letter; a set refuses it if none of its members accepts
-- it. Only pairs whose set refuses some rest are kept: the matcher never reaches any other pair, since a state of its set
-- leads to a match first, whatever text follows.
use Rattle.std.specs.Prelude.{ℕ, ◌≤◌, Bool, List, [], ◌∷◌}
use Rattle.rl_prio.specs.Automaton.{Automaton, letters_count, moves_at}
use Rattle.rl_sets.specs.Live.{image, joined, refuses, IsLive}
use Rattle.rl_graph.specs.Paths.{Has}
use Rattle.rl_pairs.specs.declared.pair.Pair.{Pair}

-- The pair at which a match starts: the start state 0 with the empty set, since nothing was tried before it.
abbrev pub first_pair : Pair
first_pair = record { state = 0; set = [] }

-- The pairs of the moves to the given states, which are tried in this order. The set of the first pair is `set`. The set of
-- each later one also has the states before it in the list, without the dead state. There are none for the empty list.
abbrev pub pairs_from : Automaton → List ℕ → List ℕ → List Pair
pairs_from a set [] = []
pairs_from a set (target ∷ targets) = record { state = target; set = set } ∷ pairs_from a (joined a target set) targets

-- The pairs of the moves of the pair `p` on a letter or the end letter, in the order in which they are tried, whether they are
-- live or not.
abbrev pub next_pairs : Automaton → Pair → ℕ → List Pair
next_pairs a p letter = pairs_from a (image a p.set letter) (moves_at a p.state letter)

-- The pair is live: it is the first pair, or its set refuses some rest (`IsLive`) and a live pair has a move to it, on a
-- letter or on the end letter.
pub data LivePair (a : Automaton) : Pair → Type 0 where
  first : LivePair a first_pair
  move : {p q : Pair} → (letter : ℕ) → LivePair a p → letter ≤ letters_count a → Has q (next_pairs a p letter) → IsLive a q.set → LivePair a q

-- Whether the set of the pair with the number `k` refuses the list of letters `word`, that is, none of its states accepts it;
-- `at` gives the pair with a number.
abbrev pub refused : Automaton → (ℕ → Pair) → ℕ → List ℕ → Bool
refused a at k word = refuses a (at k).set word
