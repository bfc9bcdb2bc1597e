-- What trials have found out about an automaton, other than its sets: the targets of its states, which states move to the
-- accepting state on the end letter, on which letters a state has other moves than on the letter before, the result of the
-- trial that leaves nothing out, which compares the automaton with itself, and branches that have equal branches beside them.
-- A trial leaves the states of a branch out of the automaton, and compares what both accept. A trial of a branch with an equal
-- branch beside it has the same result as the one that leaves nothing out. A set pair is two sets of states to which the same
-- word leads; the image of a set on a letter is
-- the set of the states to which its members move on it, without the dead state.
use Rattle.std.specs.Prelude.{ℕ, true, List, map, IfSome}
use Rattle.rl_prio.specs.Automaton.{Automaton, letters_count, accepting_state}
use Rattle.rl_sets.specs.Live.{below, holds, image}
use Rattle.rl_equiv.specs.declared.pair.SetPair.{SetPair}
use Rattle.rl_equiv.specs.SetPairs.{SetPairs}
use Rattle.rl_trim.specs.declared.store.Known.{Known}
use Rattle.rl_trim.specs.Judged.{IsFound}
use Rattle.rl_trim.specs.Targets.{AreTargets}
use Rattle.rl_trim.specs.Endings.{AreEnding}
use Rattle.rl_trim.specs.Changes.{AreChangesIf}
use Rattle.rl_trim.specs.Twins.{HasTwin}

-- The next pair of the pair `p` on a letter: the images of its two sets.
abbrev pub whole_on : Automaton → SetPair → ℕ → SetPair
whole_on a p letter = record { first = image a p.first letter; second = image a p.second letter }

-- The next pairs of the pair `p`, one for each letter in order, without the end letter.
abbrev pub whole_nexts : Automaton → SetPair → List SetPair
whole_nexts a p = map (whole_on a p) (below (letters_count a))

-- The set pairs of an automaton and itself: the next pairs of each, and whether the end letter leads its first and its second
-- set to the accepting state. Every pair counts as proper, that is, as a pair of well-formed sets.
unfoldable pub whole_pairs : Automaton → SetPairs
whole_pairs a = record {
  nexts = λ p. whole_nexts a p;
  ends_first = λ p. holds (image a p.first (letters_count a)) (accepting_state a);
  ends_second = λ p. holds (image a p.second (letters_count a)) (accepting_state a);
  proper = λ p. true;
}

-- Holds if what is known is right for the automaton: the lists of targets, if they are known, are complete; the flags that say
-- which states move to the accepting state on the end letter, if they are known, are right; the changes of the states, if they
-- are known, are right; the result of the trial that leaves nothing out, if it is known, is right for the limit kept with it;
-- and each state of the branches that are known to have equal branches beside them has a kept state that stands in for it.
pub record IsKnown (a : Automaton) (k : Known) : Type 0 where
  pub targets : IfSome k.targets (λ t. AreTargets a a.states t.lists.items)
  pub ending : IfSome k.ending (AreEnding a a.states)
  pub changes : AreChangesIf a k.changes
  pub whole : IfSome k.whole (λ w. IsFound (whole_pairs a) w.limit w.found)
  pub twinned : IfSome k.twinned (λ flags. HasTwin a flags.items)
