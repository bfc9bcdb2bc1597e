-- The parts of a judged outcome, and the kinds of entries that a report counts: findings, refusals and undecided verdicts. An
-- entry is one result of a report: for a call of `re` whose pattern is a literal, for a source that can't be cut into tokens,
-- or for a path without a source. Its outcome is a verdict, the cause of a refusal, or what is wrong with the path. A verdict
-- says how the cost of matching a pattern grows with the length of the text: with a degree, exponentially, or `undecided`,
-- because a limit was exceeded. A live pair, whose number one of the limits bounds, is a state of the pattern's automaton with
-- the set of states that were tried before it. A suggestion says what can be left out of a pattern: it has the simpler
-- pattern, if there is one, and mentions parts (branches and quantifiers) of the old one. A mark is such a part, with its line
-- and column.
use Rattle.std.specs.Prelude.{ℕ, Bool, true, false, not, is_some, nat_lt, Option, Some, None}
use Rattle.std.specs.Option.{option_map_or}
use Rattle.rl_syntax.specs.declared.verdict.Suggestion.{Suggestion}
use Rattle.rl_syntax.specs.declared.verdict.Verdict.{Verdict}
use Rattle.rl_syntax.specs.declared.verdict.Verdict.TheVariants.{Degree, Expo, Undecided}
use Rattle.rl_report.specs.declared.report.Entry.{Entry}
use Rattle.rl_report.specs.declared.report.Outcome.{Outcome}
use Rattle.rl_report.specs.declared.report.Outcome.TheVariants as outcome

-- The verdict of an outcome, or none if the outcome has no verdict, because the pattern or the path wasn't judged.
abbrev pub verdict_of : Outcome → Option Verdict
verdict_of (outcome.Judged verdict suggestion becomes) = Some verdict
verdict_of o = None

-- The suggestion that comes with the verdict of an outcome, or none if the outcome has no verdict or its verdict comes without
-- one.
abbrev pub suggestion_of : Outcome → Option Suggestion
suggestion_of (outcome.Judged verdict suggestion becomes) = suggestion
suggestion_of o = None

-- The verdict on the pattern that the outcome suggests, or none if the outcome has no verdict or if its verdict comes without
-- one: no pattern is suggested, or the report has version 1.
abbrev pub becomes_of : Outcome → Option Verdict
becomes_of (outcome.Judged verdict suggestion becomes) = becomes
becomes_of o = None

-- Whether a verdict is a finding: it is exponential, or its degree is above `max_degree`.
abbrev pub is_found : ℕ → Verdict → Bool
is_found max_degree (Degree d family) = nat_lt max_degree d
is_found max_degree (Expo family) = true
is_found max_degree (Undecided limit) = false

-- Whether a verdict is `undecided`, because a limit was exceeded.
abbrev pub is_undecided_verdict : Verdict → Bool
is_undecided_verdict (Undecided limit) = true
is_undecided_verdict _ = false

-- Whether an entry is a finding: its verdict is exponential, or its degree is above `max_degree`. An entry without a verdict
-- isn't one. The verdict on a suggested pattern doesn't count.
unfoldable pub is_finding : ℕ → Entry → Bool
is_finding max_degree e = option_map_or (is_found max_degree) (verdict_of e.outcome) false

-- Whether an entry has no verdict: it is refused, or its path is unreadable, too deep or not plain.
unfoldable pub is_refused : Entry → Bool
is_refused e = not (is_some (verdict_of e.outcome))

-- Whether an entry has a verdict and this is `undecided`, because a limit was exceeded.
unfoldable pub is_undecided : Entry → Bool
is_undecided e = option_map_or is_undecided_verdict (verdict_of e.outcome) false
