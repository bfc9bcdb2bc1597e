-- A base: a tree that is compared with one other tree after another. The sets of the others tell no more codes apart, so the
-- letters of both are those of the base's tree by itself. Two codes are told apart by a set that has only one of them.
use Rattle.std.specs.Prelude.{◌≡◌, ℕ, true}
use Rattle.rl_ranges.specs.declared.universe.Universe.{Universe}
use Rattle.rl_ranges.specs.Letters.{alike}
use Rattle.rl_ranges.specs.Text.{code_count}
use Rattle.rl_syntax.specs.declared.re.Ending.TheVariants.{AtEnd}
use Rattle.rl_syntax.specs.declared.re.Re.{Re}
use Rattle.rl_syntax.specs.Tree.{Tree}
use Rattle.rl_prio.specs.Automaton.{Automaton, IsAutomaton}
use Rattle.rl_prio.specs.Letters.{all_sets}
use Rattle.rl_prio.specs.StandsFor.{StandsFor}
use Rattle.rl_equiv.specs.Limits.{IsWithin}

-- A base: the tree with which others are compared, and the universe of the texts.
pub record Base : Type 0 where
  pub tree : Re
  pub universe : Universe

-- The sets of the second tree `t`, and those that its guards use, tell no more codes apart: two codes that are alike for all
-- such sets of the first tree `s` are alike for those of `t`.
abbrev pub DistinguishesNoMore : Tree → Tree → Type 0
DistinguishesNoMore s t = (c d : ℕ) → alike (all_sets s) c d ≡ true → alike (all_sets t) c d ≡ true

-- The automaton stands for the tree, matched to the end of the text, over the letters of the tree's own sets, and the tree
-- exceeds no limit.
pub record IsBase (u : Universe) (t : Tree) (a : Automaton) : Type 0 where
  pub within : IsWithin u t
  pub stands : StandsFor a t AtEnd
  pub codes : a.table.codes ≡ code_count u
  pub whole : IsAutomaton a
