-- Explanations: what is promised of an answer that says how the cost of a pattern grows and why: how the pumps of the verdict's
-- family, which are the texts that it repeats, are read. Readings are defined in `specs/Readings.antt` of `rl_why`.
use Rattle.std.specs.Prelude.{ℕ}
use Rattle.rl_syntax.specs.Pattern.{pattern_tree, universe_of}
use Rattle.rl_syntax.specs.declared.pattern.Pattern.{Pattern}
use Rattle.rl_syntax.specs.declared.re.Mode.{Mode}
use Rattle.rl_pairs.specs.RightVerdict.{RightVerdict}
use Rattle.rl_growth.specs.Texts.{HasTexts}
use Rattle.rl_why.specs.Readings.{IsReadingOf, nodes_of, question_about}
use Rattle.rl_why.specs.declared.explaining.Explained.{Explained}
use Rattle.rl_ask.specs.declared.answer.Answer.{Answer}
use Rattle.rl_ask.specs.declared.answer.Answer.TheVariants as answer

-- Holds if the verdict on the pattern is right, its family has only codes of the pattern's universe, and the reading is one of
-- its family, in the pattern's tree.
pub record IsExplanation (mode : Mode) (pairs : ℕ) (p : Pattern) (e : Explained) : Type 0 where
  pub right : RightVerdict (question_about p mode pairs) e.verdict
  pub texts : HasTexts (universe_of p) e.verdict
  pub reading : IsReadingOf (pattern_tree p mode) (nodes_of p mode) e.verdict e.reading

-- Holds if the answer is an explanation of the cost of the pattern.
abbrev pub IsExplained : Mode → ℕ → Pattern → Answer → Type 0
IsExplained mode pairs p (answer.Ways explained) = IsExplanation mode pairs p explained
IsExplained mode pairs p _ = ⊥
