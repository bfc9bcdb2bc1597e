-- Automata of two trees over the same letters: the classes of codes that the sets of both trees, and those that their guards
-- use, don't tell apart.
use Rattle.std.specs.Prelude.{◌≡◌}
use Rattle.rl_ranges.specs.declared.universe.Universe.{Universe}
use Rattle.rl_ranges.specs.Text.{code_count}
use Rattle.rl_syntax.specs.declared.re.Ending.TheVariants.{AtEnd}
use Rattle.rl_syntax.specs.Tree.{Tree}
use Rattle.rl_prio.specs.Automaton.{Automaton, IsAutomaton}
use Rattle.rl_prio.specs.StandsFor.{StandsOver}
use Rattle.rl_equiv.specs.SetPairs.{joint_sets}

-- The automata `a` and `b` stand for the trees `s` and `t`, each matched to the end of the text, over the letters that the
-- sets of both trees tell apart.
pub record StandTogether (u : Universe) (s t : Tree) (a b : Automaton) : Type 0 where
  pub first_stands : StandsOver a s AtEnd (joint_sets s t)
  pub second_stands : StandsOver b t AtEnd (joint_sets s t)
  pub first_codes : a.table.codes ≡ code_count u
  pub second_codes : b.table.codes ≡ code_count u
  pub first_whole : IsAutomaton a
  pub second_whole : IsAutomaton b
