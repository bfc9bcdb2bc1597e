-- An automaton stands for a tree and an ending if its letters, states and moves are the ones that the tree and the ending
-- define. A letter is a class of codes, and the end letter, which has the number after the last letter, is read at the end of
-- a text. An ending says whether a match may end anywhere or only at the end of a text.
use Rattle.std.specs.Prelude.{◌≡◌, ℕ, ◌<◌, ◌≤◌, Bool, List}
use Rattle.rl_ranges.specs.Letters.{IsLetters}
use Rattle.rl_syntax.specs.declared.re.Ending.{Ending}
use Rattle.rl_syntax.specs.Tree.{Tree}
use Rattle.rl_prio.specs.Letters.{all_sets}
use Rattle.rl_prio.specs.States.{state_count, moves_over}
use Rattle.rl_prio.specs.Automaton.{Automaton, letters_count, moves_at}

-- Holds if the automaton stands for the tree and the ending over the letters that the given sets distinguish: its letters are
-- the classes of codes such that each set holds all codes of a class or none, and its states and moves are the ones that the
-- tree and the ending define for these letters.
pub record StandsOver (a : Automaton) (t : Tree) (ending : Ending) (sets : List (ℕ → Bool)) : Type 0 where
  pub same_letters : IsLetters a.table sets a.table.codes
  pub same_states : a.states ≡ state_count t a.table.codes
  pub same_moves : (q letter : ℕ) → q < a.states → letter ≤ letters_count a → moves_at a q letter ≡ moves_over sets t ending a.table.codes q letter

-- Holds if the automaton stands for the tree and the ending over the letters that the tree's own sets, and those that its
-- guards use, distinguish.
abbrev pub StandsFor : Automaton → Tree → Ending → Type 0
StandsFor a t ending = StandsOver a t ending (all_sets t)
