-- Conditions on verdicts and suggestions. Each step of an analysis ensures them for the next step. A suggestion says what can
-- be left out of a pattern: it has the simpler pattern, if there is one, and mentions parts of the old one. A span is a part
-- of a pattern, from one code point up to another. A universe is the type of texts, `str` or `bytes`.
use Rattle.std.specs.Prelude.{◌≡◌, ◌≤◌, ℕ, Bool, true, false, List, All, IfSome, Err}
use Rattle.rl_ranges.specs.declared.universe.Universe.{Universe}
use Rattle.rl_ranges.specs.Text.{IsText}
use Rattle.rl_syntax.specs.declared.span.Span.{Span}
use Rattle.rl_syntax.specs.declared.re.Mode.TheVariants.{Fullmatch}
use Rattle.rl_syntax.specs.declared.pattern.Pattern.{Pattern}
use Rattle.rl_syntax.specs.Pattern.{pattern_tree, universe_of}
use Rattle.rl_syntax.specs.declared.verdict.Limit.{Limit}
use Rattle.rl_syntax.specs.declared.verdict.Limit.TheVariants.{Size, Letters, Moves, Sets, Pairs}
use Rattle.rl_syntax.specs.declared.verdict.Suggestion.{Suggestion}
use Rattle.rl_syntax.specs.declared.verdict.Verdict.{Verdict}
use Rattle.rl_syntax.specs.declared.verdict.Verdict.TheVariants.{Degree, Expo, Undecided}
use Rattle.rl_pattern.specs.declared.flags.Flags.{Flags}
use Rattle.rl_pattern.specs.declared.parsing.PatError.{PatError}
use Rattle.rl_pattern.specs.declared.parsing.PatError.TheVariants as parsing
use Rattle.rl_pattern.specs.Parsed.{IsParsed}
use Rattle.rl_rewrite.specs.Verdicts.{IsFirstExceeded}
use Rattle.rl_report.specs.declared.report.Outcome.{Outcome}
use Rattle.rl_report.specs.Findings.{verdict_of, suggestion_of}
use Rattle.rl_report.specs.Verdicts.{IsVerdictOf}

-- The suggested text, if there is one, is a text of the universe.
abbrev pub IsSuggestionOf : Universe → Suggestion → Type 0
IsSuggestionOf u s = IfSome s.text (IsText u)

-- The texts in the outcome's verdict and suggestion are texts of the universe.
pub record IsOfUniverse (u : Universe) (o : Outcome) : Type 0 where
  pub verdict : IfSome (verdict_of o) (IsVerdictOf u)
  pub suggestion : IfSome (suggestion_of o) (IsSuggestionOf u)

-- The span lies within `count` code points.
abbrev pub LiesIn : ℕ → Span → Type 0
LiesIn count span = (span.from ≤ span.upto) × (span.upto ≤ count)

-- The branches that the suggestion drops, and those that it keeps because a test exceeded its limit, lie within `count` code
-- points. Nothing is said about removed quantifiers.
pub record PartsLieIn (count : ℕ) (s : Suggestion) : Type 0 where
  pub dropped : All (LiesIn count) s.dropped
  pub passed : All (LiesIn count) s.passed

-- The reader of patterns doesn't refuse the text, as a pattern of the universe under the flags, for any reason except that
-- memory runs out.
abbrev pub IsReadable : Flags → Universe → List ℕ → Type 0
IsReadable flags u text = (e : PatError) → IsParsed flags u text (Err e) → e ≡ parsing.OutOfMemory

-- The suggested text, if there is one, isn't refused by the reader of patterns (`IsReadable`).
abbrev pub HasReadable : Flags → Universe → Suggestion → Type 0
HasReadable flags u s = IfSome s.text (IsReadable flags u)

-- The pattern as `fullmatch` matches it exceeds no limit.
abbrev pub IsSmallWhole : Pattern → Type 0
IsSmallWhole p = (l : Limit) → IsFirstExceeded (universe_of p) (pattern_tree p Fullmatch) l → ⊥

-- Whether this verdict comes with a suggestion: every verdict does, except `undecided` by size, letters or moves.
abbrev pub has_suggestion : Verdict → Bool
has_suggestion (Undecided Size) = false
has_suggestion (Undecided Letters) = false
has_suggestion (Undecided Moves) = false
has_suggestion (Undecided Sets) = true
has_suggestion (Undecided Pairs) = true
has_suggestion (Degree d family) = true
has_suggestion (Expo family) = true
