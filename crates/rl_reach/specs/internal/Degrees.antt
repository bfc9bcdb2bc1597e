-- How large the degree of a verdict may be, which only private contracts need.
use Rattle.std.specs.Prelude.{ℕ, ◌≤◌}
use Rattle.rl_syntax.specs.declared.verdict.Verdict.{Verdict}
use Rattle.rl_syntax.specs.declared.verdict.Verdict.TheVariants.{Degree, Expo, Undecided}

-- The degree of the verdict is at most `most`. Nothing is required of a verdict that isn't a degree.
abbrev pub IsDegreeWithin : ℕ → Verdict → Type 0
IsDegreeWithin most (Degree d f) = d ≤ most
IsDegreeWithin most (Expo f) = Unit {0}
IsDegreeWithin most (Undecided limit) = Unit {0}
