use Rattle.std.proofs.Common.{◌≡◌, ◌≢◌, ◌∙◌, ℕ, List, [], ◌∷◌, Option, Result, Ok, Err, IfOk, ap, option_map}
use Rattle.rl_pylex.specs.declared.fault.LexError.{LexError}
use Rattle.rl_pylex.specs.declared.fault.LexError.TheVariants as lexing
use Rattle.rl_pylex.specs.Source.{IsFault}
use Rattle.rl_report.specs.declared.places.Place.{Place}
use Rattle.rl_report.specs.declared.report.Entry.{Entry}
use Rattle.rl_report.specs.declared.report.Outcome.TheVariants as outcome
use Rattle.rl_report.specs.Places.{place_of}
use Rattle.rl_judge.specs.declared.settings.Settings.{Settings}
use Rattle.rl_judge.specs.Faults.{source_fault}
use Rattle.rl_judge.specs.RightEntries.{AreRight, has_fault, path_entry}
use Rattle.rl_judge.proofs.entries.fault_entries.Goals as goal

faulty : {E : Type 0} (path source : List ℕ) (s : Settings) (r : Result (List Entry) E) (e : LexError) (at : Option Place) → IsFault source e → e ≢ lexing.OutOfMemory
    → at ≡ option_map (place_of source) (source_fault e) → IfOk r (λ entries. entries ≡ path_entry path at (outcome.Source e) ∷ []) → IfOk r (AreRight path source s)
faulty path source s (Ok entries) e at first some same one =
    has_fault first some (one ∙ ap (λ place. path_entry path place (outcome.Source e) ∷ []) same)
faulty path source s (Err failed) e at first some same one = tt

pub returns-in_default-clause-right : goal.returns-in_default-clause-right
returns-in_default-clause-right c = λ s.
    let source = c.args.source.now in
    faulty c.args.path.now source s c.path_entries.result c.args.fault c.fault_place-at.result c.requires c.in_default.not-OutOfMemory
    (c.fault_place-at.ensures ∙ ap (option_map (place_of source)) c.source_fault.ensures) c.path_entries.ensures.entry
