-- How a run of `check` ends, given the walk over its paths.
use Rattle.std.proofs.Common.{◌≡◌, ◌++◌, ℕ, Bool, List, [], Option, Some, None, codes, Result, Ok, Err, IfOk, Bor, map, ap, subst, sym, ◌∙◌}
use Rattle.std.specs.List.{list_any}
use Rattle.std.specs.Prelude.{option_map}
use Rattle.rl_report.specs.Findings.{is_finding}
use Rattle.rl_report.specs.declared.report.Entry.{Entry}
use Rattle.rl_sarif.specs.Baseline.{IsBaseline}
use Rattle.rl_sarif.specs.Keys.{EntryKey}
use Rattle.rl_walk.specs.declared.visits.Visit.{Visit}
use Rattle.rl_walk.specs.Visits.{Moment, Walked}
use Rattle.rl_judge.specs.RightReport.{AreRightFor, Checked, HasChecked}
use Rattle.rl_judge.specs.declared.settings.Settings.{Settings}
use Rattle.rl_words.specs.Call.{asked, chosen}
use Rattle.rl_words.specs.declared.words.Action.{Action}
use Rattle.rl_words.specs.declared.words.Action.TheVariants.{Check}
use Rattle.rl_words.specs.declared.words.Options.{Options}
use Rattle.rl_lint.specs.CheckEnding.{IsCheckEnding, ReportsWalk, report_in}
use Rattle.rl_lint.specs.Endings.{Ending, refuses, unreadable, writes}
use Rattle.rl_lint.specs.internal.Plans.{ending_of}
use Rattle.rl_lint.specs.Files.{ReadsFile, file_refused, file_taken, file_unreadable, first_bytes}
use Rattle.rl_lint.specs.declared.files.FileRead.{FileRead}
use Rattle.rl_lint.specs.declared.files.FileRead.TheVariants.{Unreadable, Refused, Taken}
use Rattle.rl_lint.specs.internal.Reads.{GivesKeys, IsGiven, IsNamedRead}
use Rattle.rl_lint.specs.Filter.{hidden_count, visible_entries}
use Rattle.rl_lint.specs.RunEnding.{IsActionEnding}
use Rattle.rl_report.specs.Names.{Text}
use Rattle.rl_lint.specs.declared.plan.Plan.{Plan}

-- A walk with a visitor that hasn't received any visit before.
pub walked-first : (old new : Moment) (paths : List Text) (before now : List Visit → Type 0) → before [] → Walked old new paths before now
    → Walked old new paths (λ visits. visits ≡ []) now
walked-first old new paths before now none w = record {
  calls = w.calls;
  visits = w.visits;
  trail = w.trail;
  right = w.right;
  told = λ earlier is. w.told earlier (subst before (sym is) none);
  failures = w.failures;
  cause = w.cause;
}

pub reports-walk : (s : Settings) (baseline : Option (List EntryKey)) (paths : List Text) (old new : Moment) (c : Checked) (visible : List Entry) (hidden : Option ℕ) (text : Text) (finding : Bool)
    → Walked old new paths (λ visits. visits ≡ []) (HasChecked c) → c.settings ≡ s → visible ≡ visible_entries baseline c.entries
    → hidden ≡ hidden_count baseline c.entries → text ≡ report_in s.format s hidden visible → finding ≡ list_any (is_finding s.max_degree) visible
    → ReportsWalk s paths baseline old new (writes text finding c.has_unread)
reports-walk s baseline paths old new c visible hidden text finding w same is so_many laid found = record {
  calls = w.calls;
  visits = w.visits;
  trail = w.trail;
  right = w.right;
  told = λ earlier none.
      let checked = w.told earlier none in
      let shown = visible_entries baseline c.entries in
      let report = report_in s.format s (hidden_count baseline c.entries) shown in
      let same_text : text ≡ report = laid ∙ ap (λ h. report_in s.format s h visible) so_many ∙ ap (report_in s.format s (hidden_count baseline c.entries)) is in
      record {
        entries = c.entries;
        right = subst (λ x. AreRightFor x (earlier ++ w.visits) c.entries) same checked.right;
        ends = ap (λ t. writes t finding c.has_unread) same_text ∙ ap (λ b. writes report b c.has_unread) (found ∙ ap (list_any (is_finding s.max_degree)) is)
            ∙ ap (writes report (list_any (is_finding s.max_degree) shown)) checked.unread;
      };
  failures = w.failures;
  cause = w.cause;
}

-- ---- by what the baseline gives

pub no-keys : (bytes : Text) → ((keys : List EntryKey) → ¬ IsBaseline bytes keys) → (found : Option (List EntryKey)) → ¬ GivesKeys bytes found
no-keys bytes none None = λ gives. absurd gives
no-keys bytes none (Some keys) = none keys

module _ (s : Settings) (paths : List Text) where
  pub check-unreadable : (named : Option Text) (old new : Moment) (found : FileRead (Option (List EntryKey))) → IsNamedRead GivesKeys first_bytes None named old new found
      → found ≡ Unreadable → IsCheckEnding s paths named old new (unreadable (codes "relint: baseline unreadable\n"))
  check-unreadable None old new found read is = let never : Taken None ≡ Unreadable = sym read.1 ∙ is in cc
  check-unreadable (Some file) old new found read is = by_read read.read read.reads (subst (IsGiven GivesKeys read.read) is read.gives)
    where
      by_read : (bytes : Option Text) → ReadsFile first_bytes file bytes old new → IsGiven GivesKeys bytes Unreadable
          → IsCheckEnding s paths (Some file) old new (unreadable (codes "relint: baseline unreadable\n"))
      by_read None reads gives = file_unreadable reads
      by_read (Some bytes) reads gives = absurd gives

  pub check-refused : (named : Option Text) (old new : Moment) (found : FileRead (Option (List EntryKey))) → IsNamedRead GivesKeys first_bytes None named old new found
      → found ≡ Refused → IsCheckEnding s paths named old new (refuses (codes "relint: baseline refused\n"))
  check-refused None old new found read is = let never : Taken None ≡ Refused = sym read.1 ∙ is in cc
  check-refused (Some file) old new found read is = by_read read.read read.reads (subst (IsGiven GivesKeys read.read) is read.gives)
    where
      by_read : (bytes : Option Text) → ReadsFile first_bytes file bytes old new → IsGiven GivesKeys bytes Refused
          → IsCheckEnding s paths (Some file) old new (refuses (codes "relint: baseline refused\n"))
      by_read None reads gives = let never : Refused ≡ Unreadable = gives in cc
      by_read (Some bytes) reads gives = file_refused reads (λ keys is. gives (Some keys) is)

  pub check-taken : (named : Option Text) (old mid new : Moment) (found : FileRead (Option (List EntryKey))) (keys : Option (List EntryKey)) (ending : Ending)
      → IsNamedRead GivesKeys first_bytes None named old mid found → found ≡ Taken keys → ReportsWalk s paths keys mid new ending → IsCheckEnding s paths named old new ending
  check-taken None old mid new found keys ending read is reports =
      let taken : Taken keys ≡ Taken None = sym is ∙ read.1 in
      let none : keys ≡ None = cc in
      subst (λ m. ReportsWalk s paths None m new ending) read.0 (subst (λ k. ReportsWalk s paths k mid new ending) none reports)
  check-taken (Some file) old mid new found keys ending read is reports =
      by_read read.read keys read.reads (subst (IsGiven GivesKeys read.read) is read.gives) reports
    where
      by_read : (bytes : Option Text) (k : Option (List EntryKey)) → ReadsFile first_bytes file bytes old mid → IsGiven GivesKeys bytes (Taken k) → ReportsWalk s paths k mid new ending
          → IsCheckEnding s paths (Some file) old new ending
      by_read None k reads gives w = let never : Taken k ≡ Unreadable = gives in cc
      by_read (Some bytes) None reads gives w = absurd gives
      by_read (Some bytes) (Some ks) reads gives w = file_taken reads gives w

pub check-ends : {E : Type 0} (result : Result Plan E) (s : Settings) (options : Options) (action : Action) (paths given : List (Bor Text)) (old new : Moment)
    → action ≡ Check paths → given ≡ paths
    → IfOk result (λ plan. IsCheckEnding s (map (λ p. p.now) given) (option_map (λ p. p.now) options.baseline) old new (ending_of plan))
    → IfOk result (λ plan. IsActionEnding s (chosen options) (asked action) old new (ending_of plan))
check-ends (Ok plan) s options action paths given old new is same ends =
    let here = subst (λ ps. IsCheckEnding s (map (λ p. p.now) ps) (option_map (λ p. p.now) options.baseline) old new (ending_of plan)) same ends in
    subst (λ a. IsActionEnding s (chosen options) (asked a) old new (ending_of plan)) (sym is) here
check-ends (Err error) s options action paths given old new is same ends = tt
