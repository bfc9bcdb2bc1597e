-- For private contracts: the result of reading a file that the words name.
use Rattle.std.specs.Prelude.{◌≡◌, ⊤, List, Option, Some, None}
use Rattle.rl_walk.specs.Visits.{Moment}
use Rattle.rl_sarif.specs.Baseline.{IsBaseline}
use Rattle.rl_sarif.specs.Keys.{EntryKey}
use Rattle.rl_judge.specs.RightEntries.{IsValid}
use Rattle.rl_judge.specs.declared.settings.Settings.{Settings}
use Rattle.rl_lint.specs.Files.{Portion, ReadsFile}
use Rattle.rl_report.specs.Names.{Text}
use Rattle.rl_lint.specs.declared.files.FileRead.{FileRead}
use Rattle.rl_lint.specs.declared.files.FileRead.TheVariants.{Unreadable, Refused, Taken}

-- The result `found` of reading is right for the bytes: it is `Unreadable` if there are none (`None`). Otherwise it is a value
-- that they give, as `Gives` defines it, or `Refused` if they give no value.
abbrev pub IsGiven : {A : Type 0} → (Text → A → Type 0) → Option Text → FileRead A → Type 0
IsGiven Gives None found = found ≡ Unreadable
IsGiven Gives (Some bytes) Unreadable = ⊥
IsGiven {A} Gives (Some bytes) Refused = (x : A) → ¬ Gives bytes x
IsGiven Gives (Some bytes) (Taken x) = Gives bytes x

-- Between the moments `old` and `new` the file at the path was read with one call of the tree, and `found` is the result.
-- `portion` says how much of it was asked for, and `Gives` which values bytes give.
pub record IsFileRead {A : Type 0} (Gives : Text → A → Type 0) (portion : Portion) (path : Text) (old new : Moment) (found : FileRead A) : Type 0 where
  pub read : Option Text
  pub reads : ReadsFile portion path read old new
  pub gives : IsGiven Gives read found

-- If settings were read, they are valid: the limit of live pairs is from 1 to 1,000, and the report version is 1 or 2.
abbrev pub AreFit : FileRead Settings → Type 0
AreFit Unreadable = ⊤
AreFit Refused = ⊤
AreFit (Taken s) = IsValid s

-- If a file is named, it is read, and `found` is the result. Otherwise the tree isn't asked, and the result is `default`.
abbrev pub IsNamedRead : {A : Type 0} → (Text → A → Type 0) → Portion → A → Option Text → Moment → Moment → FileRead A → Type 0
IsNamedRead Gives portion default None old new found = (new ≡ old) × (found ≡ Taken default)
IsNamedRead Gives portion default (Some path) old new found = IsFileRead Gives portion path old new found

-- The bytes of a named baseline give these keys. They never give no keys at all, which is the value for no baseline.
abbrev pub GivesKeys : Text → Option (List EntryKey) → Type 0
GivesKeys bytes None = ⊥
GivesKeys bytes (Some keys) = IsBaseline bytes keys
