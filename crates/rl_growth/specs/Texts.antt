-- The texts of a verdict: the heads and pumps of its family, which are the texts before, between and after the repeated texts,
-- and the repeated texts.
use Rattle.std.specs.Prelude.{All}
use Rattle.rl_ranges.specs.declared.universe.Universe.{Universe}
use Rattle.rl_ranges.specs.Text.{IsText}
use Rattle.rl_syntax.specs.declared.verdict.Verdict.{Verdict}
use Rattle.rl_syntax.specs.declared.verdict.Verdict.TheVariants.{Degree, Expo, Undecided}

-- The heads and pumps of the verdict's family are texts of the universe. An undecided verdict has no family, so nothing is
-- required of it.
abbrev pub HasTexts : Universe → Verdict → Type 0
HasTexts universe (Degree d f) = All (IsText universe) f.heads × All (IsText universe) f.pumps
HasTexts universe (Expo f) = All (IsText universe) f.heads × All (IsText universe) f.pumps
HasTexts universe (Undecided limit) = Unit {0}
