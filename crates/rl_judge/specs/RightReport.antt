-- The entries that are right for the visits of a walk over files and folders. A visit is to a source with its bytes, or to a
-- path without one, which is unreadable, a folder that is nested too deeply, or neither a file nor a folder. An entry is one
-- result of a report: for a call of `re` whose pattern is a literal, for a source that can't be cut into tokens, or for a path
-- without a source. The universe of an entry says whether its texts are of type `str` or `bytes`.
use Rattle.std.specs.Prelude.{◌≡◌, Bool, List, [], ◌∷◌, ◌++◌, All, None}
use Rattle.rl_report.specs.declared.report.Entry.{Entry}
use Rattle.rl_report.specs.declared.report.Outcome.TheVariants as outcome
use Rattle.rl_report.specs.Layouts.{IsOfItsUniverse}
use Rattle.rl_walk.specs.declared.visits.Visit.{Visit}
use Rattle.rl_walk.specs.declared.visits.Visit.TheVariants.{Source, Unreadable, TooDeep, NotPlain}
use Rattle.rl_walk.specs.Visits.{has_unreadable}
use Rattle.rl_judge.specs.declared.settings.Settings.{Settings}
use Rattle.rl_judge.specs.RightEntries.{path_entry, AreRight}

-- The entries are right for the visit: right for the path and the bytes of a source, or the one entry that says why there is
-- no source.
abbrev pub IsRightFor : Settings → Visit → List Entry → Type 0
IsRightFor s (Source path content) entries = AreRight path content s entries
IsRightFor s (Unreadable path) entries = entries ≡ path_entry path None outcome.Unreadable ∷ []
IsRightFor s (TooDeep path) entries = entries ≡ path_entry path None outcome.TooDeepFolder ∷ []
IsRightFor s (NotPlain path) entries = entries ≡ path_entry path None outcome.NotPlain ∷ []

-- The entries are right for the visits under the settings `s`: they are the right entries for the first visit, followed by
-- those for the second, and so on. Only the empty list is right for no visits.
pub data AreRightFor (s : Settings) : List Visit → List Entry → Type 0 where
  none : AreRightFor s [] []
  more : {visits : List Visit} {entries : List Entry} (visit : Visit) (later : List Entry)
      → AreRightFor s visits entries → IsRightFor s visit later → AreRightFor s (visits ++ visit ∷ []) (entries ++ later)

-- What a checker keeps: its settings, the entries of the visits so far, and whether one of the visited paths was unreadable.
pub record Checked : Type 0 where
  pub settings : Settings
  pub entries : List Entry
  pub has_unread : Bool

-- What the checker keeps is right for these visits: its entries are right for them, the texts in each entry are texts of its
-- universe, and `has_unread` says whether one of the visits is to an unreadable path.
pub record HasChecked (c : Checked) (visits : List Visit) : Type 0 where
  pub right : AreRightFor c.settings visits c.entries
  pub universe : All IsOfItsUniverse c.entries
  pub unread : c.has_unread ≡ has_unreadable visits
