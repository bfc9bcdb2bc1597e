-- For the functions that read automata: the set pairs of two automata with the same letters. A set pair is two sets of states,
-- one of each of two automata, to which the same word leads; the letters of the word are those of both trees. It shows a
-- difference if the end letter, which comes after the last letter, leads exactly one of its sets to the accepting state.
use Rattle.std.specs.Prelude.{◌≡◌, ℕ, ◌≤◌, Bool, ◌&&◌, List, map}
use Rattle.rl_ranges.specs.declared.letters.TheConstants.{MOST_LETTERS}
use Rattle.rl_prio.specs.Automaton.{Automaton, letters_count, accepting_state}
use Rattle.rl_sets.specs.Live.{below, holds, image}
use Rattle.rl_equiv.specs.declared.pair.SetPair.{SetPair}
use Rattle.rl_equiv.specs.SetPairs.{rises, SetPairs}

-- The next set pair of `p` on `letter`: the images of both sets on it, each of which is the set of the states to which the
-- members move, without the dead state.
abbrev pub pair_on : Automaton → Automaton → SetPair → ℕ → SetPair
pair_on a b p letter = record { first = image a p.first letter; second = image b p.second letter }

-- Whether the end letter leads a member of the set to the accepting state.
abbrev pub ends : Automaton → List ℕ → Bool
ends a set = holds (image a set (letters_count a)) (accepting_state a)

-- Whether the set is a strictly increasing list of the start and states of places, that is, of states before the accepting
-- one.
abbrev pub all_proper : Automaton → List ℕ → Bool
all_proper a set = rises 0 (accepting_state a) set

-- The set pairs of two automata, given by what a comparison asks of them. The letters are those of the first automaton.
unfoldable pub pairs_of : Automaton → Automaton → SetPairs
pairs_of a b = record {
  nexts = λ p. map (pair_on a b p) (below (letters_count a));
  ends_first = λ p. ends a p.first;
  ends_second = λ p. ends b p.second;
  proper = λ p. all_proper a p.first && all_proper b p.second;
}

-- The automata have the same number of letters, and at most `MOST_LETTERS`.
pub record ShareLetters (a b : Automaton) : Type 0 where
  pub same_letters : letters_count a ≡ letters_count b
  pub few_letters : letters_count a ≤ MOST_LETTERS
