-- How `check` ends. It depends on the settings, on the baseline, and on the walk over the paths. An entry is one result of a
-- report: for a call of `re`, for a source that can't be cut into tokens, or for a path without a source. A baseline is an
-- earlier report in JSON. The key of an entry is what a baseline recognizes it by: its path, call and result. The tree of
-- files is the file system that the run reads. A moment is this tree at one point in time: what it reveals about itself (its
-- map of paths and the trail of the calls made on it, if it reveals them) and the number of its calls that failed. A visit is
-- a step of the walk: to a source with its bytes, or to a path without one. An ending says what the run does: it refuses with
-- a message, it reports an unreadable file with a message, or it writes a text.
use Rattle.std.specs.Prelude.{◌≡◌, ℕ, List, [], Option, Some, None, codes}
use Rattle.std.specs.List.{list_any}
use Rattle.rl_walk.specs.declared.visits.Visit.{Visit}
use Rattle.rl_walk.specs.Visits.{Moment, Walked, has_unreadable}
use Rattle.rl_report.specs.declared.report.Entry.{Entry}
use Rattle.rl_report.specs.Findings.{is_finding}
use Rattle.rl_report.specs.Reports.{report_text}
use Rattle.rl_sarif.specs.Baseline.{IsBaseline}
use Rattle.rl_sarif.specs.Keys.{EntryKey}
use Rattle.rl_sarif.specs.Sarif.{sarif_text}
use Rattle.rl_judge.specs.declared.settings.Layout.{Layout}
use Rattle.rl_judge.specs.declared.settings.Layout.TheVariants.{Report, Sarif}
use Rattle.rl_judge.specs.declared.settings.Settings.{Settings}
use Rattle.rl_judge.specs.RightReport.{AreRightFor}
use Rattle.rl_lint.specs.Endings.{Ending, writes}
use Rattle.rl_lint.specs.Files.{ReadsThen, first_bytes}
use Rattle.rl_lint.specs.Filter.{hidden_count, visible_entries}
use Rattle.rl_report.specs.Names.{Text}

-- The report on `entries` in the given layout, under the settings `s`. `hidden` is the number of entries that a baseline
-- hides, or `None` if no baseline is used; only the last line of the text and brief formats shows it.
abbrev pub report_in : Layout → Settings → Option ℕ → List Entry → Text
report_in (Report format) s hidden entries = report_text format s.max_degree s.max_pairs s.report hidden entries
report_in Sarif s hidden entries = sarif_text s.max_degree s.max_pairs entries

-- The run writes a report on the visits under the settings `s`. There are entries that are right for the visits, and `ending`
-- is to write the report on those that the baseline doesn't hide, or on all of them if `baseline` is `None`. The run has a
-- finding if one of the reported entries is a finding, and a failed call if one of the visits is to an unreadable path.
pub record WritesReport (s : Settings) (baseline : Option (List EntryKey)) (visits : List Visit) (ending : Ending) : Type 0 where
  pub entries : List Entry
  pub right : AreRightFor s visits entries
  pub ends : ending ≡ writes (report_in s.format s (hidden_count baseline entries) (visible_entries baseline entries)) (list_any (is_finding s.max_degree) (visible_entries baseline entries)) (has_unreadable visits)

-- Between the moments `old` and `new` the tree is walked from `paths`, and `ending` is to write the report on exactly the
-- visits of this walk. `None` in place of the keys means that there is no baseline.
abbrev pub ReportsWalk : Settings → List Text → Option (List EntryKey) → Moment → Moment → Ending → Type 0
ReportsWalk s paths baseline old new ending = Walked old new paths (λ visits. visits ≡ []) (λ visits. WritesReport s baseline visits ending)

-- How `check` ends: without a baseline, by the report on the walk. If a baseline is named, it is read before the walk; the run
-- ends there if it is unreadable or refused, and otherwise by the report on the entries that it doesn't know.
abbrev pub IsCheckEnding : Settings → List Text → Option Text → Moment → Moment → Ending → Type 0
IsCheckEnding s paths None old new ending = ReportsWalk s paths None old new ending
IsCheckEnding s paths (Some file) old new ending =
    ReadsThen (codes "baseline") first_bytes IsBaseline (λ keys. ReportsWalk s paths (Some keys)) file old new ending
