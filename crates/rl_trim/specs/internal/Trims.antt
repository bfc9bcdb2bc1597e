-- For trials on one automaton, the automaton of the whole tree: pairs of sets of its states. The first set is one that the
-- whole tree reaches, and the second one that the tree without some branches reaches, with states of the whole tree. The list
-- `keep` says which places are kept; states of other places are left out of second sets.
use Rattle.std.specs.Prelude.{◌≡◌, ℕ, ◌<◌, Bool, true, not, List, [], ◌∷◌, map, filter, All}
use Rattle.std.proofs.Math.Bool.{beq}
use Rattle.rl_prio.specs.Automaton.{Automaton, letters_count, accepting_state}
use Rattle.rl_sets.specs.Live.{below, holds, image}
use Rattle.rl_equiv.specs.declared.pair.SetPair.{SetPair}
use Rattle.rl_equiv.specs.SetPairs.{first_pair, SetPairs}
use Rattle.rl_trim.specs.Twins.{is_kept}

-- The set without the states that aren't kept.
abbrev pub trimmed : List Bool → List ℕ → List ℕ
trimmed keep set = filter (is_kept keep) set

-- The next pair of the pair `p` on a letter: the image of its first set, and the image of its second set without the states
-- that aren't kept.
abbrev pub trim_on : Automaton → List Bool → SetPair → ℕ → SetPair
trim_on a keep p letter = record { first = image a p.first letter; second = trimmed keep (image a p.second letter) }

-- The next pairs of the pair `p`, one for each letter in order, without the end letter.
abbrev pub trim_nexts : Automaton → List Bool → SetPair → List SetPair
trim_nexts a keep p = map (trim_on a keep p) (below (letters_count a))

-- The pair to which the letters of a word lead from the pair `p`, one after another; for the empty word, `p` itself.
abbrev pub trim_run : Automaton → List Bool → SetPair → List ℕ → SetPair
trim_run a keep p [] = p
trim_run a keep p (letter ∷ word) = trim_run a keep (trim_on a keep p letter) word

-- Whether some member of the set moves to the accepting state on the end letter.
abbrev pub set_ends : Automaton → List ℕ → Bool
set_ends a set = holds (image a set (letters_count a)) (accepting_state a)

-- Whether the pair shows a difference: the end letter leads exactly one of its two sets to the accepting state.
abbrev pub trim_differs : Automaton → SetPair → Bool
trim_differs a p = not (beq (set_ends a p.first) (set_ends a p.second))

-- Holds if the word has only letters of the automaton, without the end letter, and leads from the pair of the two starts to a
-- pair that shows a difference.
pub record LeadsApart (a : Automaton) (keep : List Bool) (word : List ℕ) : Type 0 where
  pub small : All (λ letter. letter < letters_count a) word
  pub apart : trim_differs a (trim_run a keep first_pair word) ≡ true

-- The set pairs of a trial: the next pairs of each, and whether the end letter leads its first and its second set to the
-- accepting state. Every pair counts as proper, that is, as a pair of well-formed sets.
unfoldable pub trim_pairs : Automaton → List Bool → SetPairs
trim_pairs a keep = record {
  nexts = λ p. trim_nexts a keep p;
  ends_first = λ p. set_ends a p.first;
  ends_second = λ p. set_ends a p.second;
  proper = λ p. true;
}
