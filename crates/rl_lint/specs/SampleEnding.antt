-- How `sample` ends. It depends on the settings, the seed and the count, from which a Python source is generated. An entry is
-- one result of a report: for a call of `re`, for a source that can't be cut into tokens, or for a path without a source. An
-- ending says what the run does: it refuses with a message, it reports an unreadable file with a message, or it writes a text.
use Rattle.std.specs.Prelude.{◌≡◌, ℕ, false, List, None, codes}
use Rattle.std.specs.List.{list_any}
use Rattle.rl_sample.specs.Generator.{source_of}
use Rattle.rl_report.specs.declared.report.Entry.{Entry}
use Rattle.rl_report.specs.Findings.{is_finding}
use Rattle.rl_report.specs.Layouts.{last_line}
use Rattle.rl_judge.specs.RightEntries.{AreRight}
use Rattle.rl_judge.specs.declared.settings.Settings.{Settings}
use Rattle.rl_lint.specs.Endings.{Ending, writes}

-- There are entries that are right for the source generated from `seed` and `count`, as a file named `sample.py`, under the
-- settings `s`. `ending` is to write the last line of the text report on them. The run has a finding if one of the entries is
-- a finding, and it has no failed call.
pub record IsSampleEnding (s : Settings) (seed count : ℕ) (ending : Ending) : Type 0 where
  pub entries : List Entry
  pub right : AreRight (codes "sample.py") (source_of seed count) s entries
  pub ends : ending ≡ writes (last_line s.max_degree None entries) (list_any (is_finding s.max_degree) entries) false
