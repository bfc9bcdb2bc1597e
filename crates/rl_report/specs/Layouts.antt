-- The layouts of a report as text. `max_degree` is the highest degree that isn't a finding, `max_pairs` the limit of live
-- pairs, and `report` the version of the report, 1 or 2. An entry is one result of a report: for a call of `re` whose pattern
-- is a literal, for a source that can't be cut into tokens, or for a path without a source. Its outcome is a verdict, the
-- cause of a refusal, or what is wrong with the path. A verdict says how the cost of matching a pattern grows with the length
-- of the text: with a degree, exponentially, or `undecided`, because a limit was exceeded. A live pair, whose number one of
-- the limits bounds, is a state of the pattern's automaton with the set of states that were tried before it. A family is the
-- parts of texts that show the verdict: heads and pumps that alternate, first a head, then each pump with the next head. The
-- pumps are repeated. A suggestion says what can be left out of a pattern: it has the simpler pattern, if there is one, and
-- mentions parts (branches and quantifiers) of the old one. A mark is such a part, with its line and column. The universe of
-- an entry says whether its texts are of type `str` or `bytes`.
use Rattle.std.specs.Prelude.{ℕ, ◌==◌, List, [], ◌++◌, Option, option_and_then, codes, length, IfSome, if◌then◌else◌}
use Rattle.std.specs.Fmt.{decimal}
use Rattle.std.specs.List.{count_by, flat_map}
use Rattle.std.specs.Option.{option_map_or}
use Rattle.rl_ranges.specs.declared.universe.Universe.{Universe}
use Rattle.rl_ranges.specs.Text.{IsText}
use Rattle.rl_sites.specs.declared.call.Call.{Call}
use Rattle.rl_sites.specs.Names.{call_word}
use Rattle.rl_syntax.specs.declared.verdict.Suggestion.{Suggestion}
use Rattle.rl_syntax.specs.declared.verdict.Verdict.{Verdict}
use Rattle.rl_report.specs.declared.places.Place.{Place}
use Rattle.rl_report.specs.declared.report.Entry.{Entry}
use Rattle.rl_report.specs.declared.report.Mark.{Mark}
use Rattle.rl_report.specs.declared.report.Marks.{Marks}
use Rattle.rl_report.specs.declared.report.Outcome.{Outcome}
use Rattle.rl_report.specs.Names.{Text, cause_name, kind_name}
use Rattle.rl_report.specs.Findings.{verdict_of, suggestion_of, becomes_of, is_finding, is_refused, is_undecided}
use Rattle.rl_report.specs.Verdicts.{verdict_text, quoted_text, family_of, family_text_line, IsVerdictOf}

-- A place as `LINE:COLUMN`.
abbrev pub place_text : Place → Text
place_text p = decimal p.line ++ (codes ":" ++ decimal p.column)

-- ---- the head line

-- `:LINE:COLUMN`, which follows the path of an entry, or nothing if the entry has no place.
abbrev pub at_text : Option Place → Text
at_text at = option_map_or (λ p. codes ":" ++ place_text p) at []

-- The call, a colon and a space, or nothing if the entry has no call.
abbrev pub call_text : Option Call → Text
call_text call = option_map_or (λ c. call_word c ++ codes ": ") call []

-- ` at LINE:COLUMN` for the fault of a literal or a pattern, or nothing if there is no place.
abbrev pub fault_text : Option Place → Text
fault_text fault = option_map_or (λ p. codes " at " ++ place_text p) fault []

-- The text of the outcome `o` without a verdict: `refused CAUSE at LINE:COLUMN` if there is a cause, without ` at LINE:COLUMN`
-- if the fault has no place. If there is no cause, the kind of the outcome, such as `unreadable`.
abbrev pub refusal_text : Outcome → Option Text → Option Place → Text
refusal_text o cause fault = option_map_or (λ cause. codes "refused " ++ (cause ++ fault_text fault)) cause (kind_name o)

-- The outcome of an entry, whose verdict is given: the text of the verdict, or that of an outcome without a verdict if there
-- is none.
abbrev pub outcome_text : ℕ → Entry → Option Verdict → Text
outcome_text max_pairs e verdict =
    option_map_or (verdict_text max_pairs) verdict (refusal_text e.outcome (cause_name e.outcome) e.fault)

-- The head line, `PATH:LINE:COLUMN: CALL: OUTCOME`. Parts that an entry doesn't have are left out.
abbrev pub head_line : ℕ → Entry → Text
head_line max_pairs e =
    e.path ++ (at_text e.at ++ (codes ": " ++ (call_text e.call ++ (outcome_text max_pairs e (verdict_of e.outcome) ++ codes "\n"))))

-- ---- the detail lines

-- A space and the text of a mark, or nothing if the report doesn't show the text.
abbrev pub mark_text : Option Text → Text
mark_text text = option_map_or (λ text. codes " " ++ text) text []

-- The line of a mark: ` WORD LINE:COLUMN TEXT`, without ` TEXT` if the report doesn't show the text. `word` says what the
-- suggestion does with the part.
abbrev pub mark_line : Text → Mark → Text
mark_line word m = codes "  " ++ (word ++ (codes " " ++ (place_text m.at ++ (mark_text m.text ++ codes "\n"))))

-- The lines of all marks: first the dropped branches as `drop`, then the removed quantifiers as `merge`, then the branches
-- that stay because their test exceeded its limit as `passed`. Nothing if there are no marks.
abbrev pub mark_lines : Marks → Text
mark_lines marks =
    flat_map (mark_line (codes "drop")) marks.dropped ++ (flat_map (mark_line (codes "merge")) marks.merged
    ++ flat_map (mark_line (codes "passed")) marks.passed)

-- The line of the verdict on the suggested pattern, `  becomes VERDICT`, if there is one and the report has version 2;
-- otherwise nothing.
abbrev pub becomes_line : ℕ → ℕ → Option Verdict → Text
becomes_line max_pairs report becomes =
    option_map_or (λ v. if report == 2 then codes "  becomes " ++ (verdict_text max_pairs v ++ codes "\n") else []) becomes []

-- The line of the suggested pattern, ` suggest LITERAL`, and then the line of the verdict on it, if there is one and the
-- report has version 2. Nothing if no pattern is suggested.
abbrev pub suggest_lines : ℕ → ℕ → Universe → Option (List ℕ) → Option Verdict → Text
suggest_lines max_pairs report universe text becomes =
    option_map_or (λ t. codes "  suggest " ++ (quoted_text universe t ++ (codes "\n" ++ becomes_line max_pairs report becomes))) text []

-- The lines of a suggestion: a line for each of its marks; the line of the suggested pattern, if there is one; and the line of
-- the verdict `becomes` on this pattern, if there is one and the report has version 2. Nothing if there is no suggestion.
abbrev pub suggestion_lines : ℕ → ℕ → Universe → Marks → Option Suggestion → Option Verdict → Text
suggestion_lines max_pairs report universe marks suggestion becomes =
    option_map_or (λ s. mark_lines marks ++ suggest_lines max_pairs report universe s.text becomes) suggestion []

-- The line of the verdict's family, or nothing if there is no verdict or the verdict is undecided.
abbrev pub family_lines : Universe → Option Verdict → Text
family_lines universe verdict = option_map_or (family_text_line universe) (option_and_then family_of verdict) []

-- The detail lines of an entry: the line of its family and the lines of its suggestion, if it has them.
abbrev pub detail_lines : ℕ → ℕ → Entry → Text
detail_lines max_pairs report e =
    family_lines e.universe (verdict_of e.outcome)
    ++ suggestion_lines max_pairs report e.universe e.marks (suggestion_of e.outcome) (becomes_of e.outcome)

-- ---- the last line

-- `, N hidden` for the number of entries that the baseline hides, or nothing if no baseline was used.
abbrev pub hidden_text : Option ℕ → Text
hidden_text hidden = option_map_or (λ n. codes ", " ++ (decimal n ++ codes " hidden")) hidden []

-- The numbers of entries, of findings, of entries without a verdict, and of undecided verdicts, such as `3 entries, 1
-- findings, 0 refused, 1 undecided`.
abbrev pub counts_text : ℕ → List Entry → Text
counts_text max_degree entries =
    decimal (length entries) ++ (codes " entries, " ++ (decimal (count_by (is_finding max_degree) entries)
    ++ (codes " findings, " ++ (decimal (count_by is_refused entries) ++ (codes " refused, "
    ++ (decimal (count_by is_undecided entries) ++ codes " undecided"))))))

-- The last line of the report: the numbers of its entries by kind, then `, N hidden` if a baseline was used (N may be 0), and
-- a line feed.
abbrev pub last_line : ℕ → Option ℕ → List Entry → Text
last_line max_degree hidden entries = counts_text max_degree entries ++ (hidden_text hidden ++ codes "\n")

-- ---- the reports

-- The head line and the detail lines of an entry.
abbrev pub entry_lines : ℕ → ℕ → Entry → Text
entry_lines max_pairs report e = head_line max_pairs e ++ detail_lines max_pairs report e

-- The brief report: the head lines and the last line.
abbrev pub brief_report : ℕ → ℕ → Option ℕ → List Entry → Text
brief_report max_degree max_pairs hidden entries =
    flat_map (head_line max_pairs) entries ++ last_line max_degree hidden entries

-- The text report: the head line and detail lines of each entry, and the last line.
abbrev pub text_report : ℕ → ℕ → ℕ → Option ℕ → List Entry → Text
text_report max_degree max_pairs report hidden entries =
    flat_map (entry_lines max_pairs report) entries ++ last_line max_degree hidden entries

-- ---- the universe of an entry

-- Holds if the family of the entry's verdict and the suggested pattern, where the entry has them, consist of texts of its
-- universe. The verdict on the suggested pattern isn't looked at.
abbrev pub IsOfItsUniverse : Entry → Type 0
IsOfItsUniverse e =
    IfSome (verdict_of e.outcome) (IsVerdictOf e.universe)
    × IfSome (suggestion_of e.outcome) (λ s. IfSome s.text (IsText e.universe))
