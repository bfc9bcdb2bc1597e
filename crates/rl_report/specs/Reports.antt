-- A report in each format. An entry is one result of a report: for a call of `re` whose pattern is a literal, for a source
-- that can't be cut into tokens, or for a path without a source. Its outcome is a verdict, the cause of a refusal, or what is
-- wrong with the path. A verdict says how the cost of matching a pattern grows with the length of the text: with a degree,
-- exponentially, or `undecided`, because a limit was exceeded. A live pair, whose number one of the limits bounds, is a state
-- of the pattern's automaton with the set of states that were tried before it.
use Rattle.std.specs.Prelude.{ℕ, List, Option}
use Rattle.rl_report.specs.declared.layouts.Format.{Format}
use Rattle.rl_report.specs.declared.layouts.Format.TheVariants.{Text as in_text, Brief, Json}
use Rattle.rl_report.specs.declared.report.Entry.{Entry}
use Rattle.rl_report.specs.Names.{Text}
use Rattle.rl_report.specs.Layouts.{brief_report, text_report}
use Rattle.rl_report.specs.Document.{json_report}

-- The report on `entries` in the given format. The numbers are `max_degree`, above which a degree is a finding, the limit of
-- live pairs `max_pairs`, and the version `report`. `hidden` is the number of entries that a baseline hides, or `None` if no
-- baseline was used. The brief format is the same in both versions, and JSON doesn't show `hidden`.
abbrev pub report_text : Format → ℕ → ℕ → ℕ → Option ℕ → List Entry → Text
report_text in_text max_degree max_pairs report hidden entries = text_report max_degree max_pairs report hidden entries
report_text Brief max_degree max_pairs report hidden entries = brief_report max_degree max_pairs hidden entries
report_text Json max_degree max_pairs report hidden entries = json_report max_degree max_pairs report entries
