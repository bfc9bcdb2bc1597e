-- The names in a report: of kinds, limits and causes. An entry is one result of a report: for a call of `re` whose pattern is
-- a literal, for a source that can't be cut into tokens, or for a path without a source. Its outcome is a verdict, the cause
-- of a refusal, or what is wrong with the path. A verdict says how the cost of matching a pattern grows with the length of the
-- text: with a degree, exponentially, or `undecided`, because a limit was exceeded. A live pair, whose number one of the
-- limits bounds, is a state of the pattern's automaton with the set of states that were tried before it.
use Rattle.std.specs.Prelude.{ℕ, List, Option, Some, None, codes}
use Rattle.rl_pattern.specs.declared.parsing.PatError.{PatError}
use Rattle.rl_pattern.specs.declared.parsing.PatError.TheVariants as pattern_error
use Rattle.rl_pylex.specs.declared.fault.LexError.{LexError}
use Rattle.rl_pylex.specs.declared.fault.LexError.TheVariants as lex_error
use Rattle.rl_pystr.specs.declared.fault.StrError.{StrError}
use Rattle.rl_pystr.specs.declared.fault.StrError.TheVariants as str_error
use Rattle.rl_syntax.specs.declared.feature.Feature.{Feature}
use Rattle.rl_syntax.specs.declared.feature.Feature.TheVariants as feature
use Rattle.rl_ranges.specs.declared.letters.TheConstants.{MOST_LETTERS}
use Rattle.rl_syntax.specs.declared.limits.TheConstants.{MOST_COUNTED_SETS, MOST_MOVES, MOST_NODES}
use Rattle.rl_syntax.specs.declared.verdict.Limit.{Limit}
use Rattle.rl_syntax.specs.declared.verdict.Limit.TheVariants as limit
use Rattle.rl_syntax.specs.declared.verdict.Verdict.{Verdict}
use Rattle.rl_syntax.specs.declared.verdict.Verdict.TheVariants.{Degree, Expo, Undecided}
use Rattle.rl_report.specs.declared.report.Outcome.{Outcome}
use Rattle.rl_report.specs.declared.report.Outcome.TheVariants as outcome

-- A text of the report, as the list of its bytes.
abbrev pub Text : Type 0
Text = List ℕ

-- The name, as reports show it, of a feature because of which a pattern isn't judged.
abbrev pub feature_name : Feature → Text
feature_name feature.Locale = codes "locale"
feature_name feature.FlagClash = codes "flag-clash"
feature_name feature.DuplicateName = codes "duplicate-name"
feature_name feature.CodeTooLarge = codes "code-too-large"
feature_name feature.ReversedRange = codes "reversed-range"
feature_name feature.RepeatTooLarge = codes "repeat-too-large"
feature_name feature.RepeatOrder = codes "repeat-order"
feature_name feature.Possessive = codes "possessive"
feature_name feature.Backreference = codes "backreference"
feature_name feature.Lookaround = codes "lookaround"
feature_name feature.Conditional = codes "conditional"
feature_name feature.Atomic = codes "atomic"
feature_name feature.NamedEscape = codes "named-escape"
feature_name feature.InnerAnchor = codes "inner-anchor"

-- The name of a limit, as reports show it.
abbrev pub limit_name : Limit → Text
limit_name limit.Size = codes "size"
limit_name limit.Letters = codes "letters"
limit_name limit.Moves = codes "moves"
limit_name limit.Sets = codes "sets"
limit_name limit.Pairs = codes "pairs"

-- The greatest number that a limit allows: of nodes of the tree (`Size`), of letters, which are classes of characters that the
-- pattern doesn't distinguish (`Letters`), of moves from one state on one letter (`Moves`), of counted sets (`Sets`), or of
-- live pairs (`Pairs`), for which it is the setting `max_pairs`.
abbrev pub limit_number : ℕ → Limit → ℕ
limit_number max_pairs limit.Size = MOST_NODES
limit_number max_pairs limit.Letters = MOST_LETTERS
limit_number max_pairs limit.Moves = MOST_MOVES
limit_number max_pairs limit.Sets = MOST_COUNTED_SETS
limit_number max_pairs limit.Pairs = max_pairs

-- The name of the fault that keeps a source from being cut into tokens. Running out of memory has a name, but no report shows
-- it.
abbrev pub lexing_cause : LexError → Text
lexing_cause (lex_error.NotUtf8 n) = codes "not-utf8"
lexing_cause (lex_error.Coding p) = codes "coding"
lexing_cause (lex_error.Unterminated p) = codes "unterminated"
lexing_cause lex_error.FileTooLong = codes "file-too-long"
lexing_cause (lex_error.StrayCode p) = codes "stray-code"
lexing_cause lex_error.OutOfMemory = codes "out-of-memory"

-- The name of the reason why a call's string literals have no value. Running out of memory has a name, but no report shows it.
abbrev pub literal_cause : StrError → Text
literal_cause str_error.FString = codes "f-string"
literal_cause str_error.Mixed = codes "mixed"
literal_cause (str_error.BadEscape p) = codes "bad-escape"
literal_cause (str_error.NamedEscape p) = codes "named-escape"
literal_cause (str_error.NotAscii p) = codes "not-ascii"
literal_cause str_error.OutOfMemory = codes "out-of-memory"

-- The name of the reason why a pattern can't be judged: `syntax`, `too-deep`, `too-long`, or the name of the feature that
-- isn't judged. Running out of memory has a name, but no report shows it.
abbrev pub pattern_cause : PatError → Text
pattern_cause (pattern_error.Syntax n) = codes "syntax"
pattern_cause (pattern_error.TooDeep p) = codes "too-deep"
pattern_cause pattern_error.TooLong = codes "too-long"
pattern_cause (pattern_error.Outside p what) = feature_name what
pattern_cause pattern_error.OutOfMemory = codes "out-of-memory"

-- The name of the cause of a refusal, or none for any other outcome: a verdict, or a path without a source.
abbrev pub cause_name : Outcome → Option Text
cause_name (outcome.Source e) = Some (lexing_cause e)
cause_name outcome.NotWhole = Some (codes "not-whole")
cause_name (outcome.Literal e) = Some (literal_cause e)
cause_name outcome.FlagsUnknown = Some (codes "flags-unknown")
cause_name (outcome.Pattern e) = Some (pattern_cause e)
cause_name _ = None

-- The name of a verdict's kind: `degree`, `exponential` or `undecided`.
abbrev pub verdict_kind : Verdict → Text
verdict_kind (Degree d family) = codes "degree"
verdict_kind (Expo family) = codes "exponential"
verdict_kind (Undecided l) = codes "undecided"

-- The name of an outcome's kind: `degree`, `exponential` or `undecided` if it has a verdict; `unreadable`, `too-deep-folder`
-- or `not-plain` for a path without a source; otherwise `refused`.
abbrev pub kind_name : Outcome → Text
kind_name outcome.Unreadable = codes "unreadable"
kind_name outcome.TooDeepFolder = codes "too-deep-folder"
kind_name outcome.NotPlain = codes "not-plain"
kind_name (outcome.Judged verdict suggestion becomes) = verdict_kind verdict
kind_name _ = codes "refused"
