-- The endings of `cost`, `prove` and `compare`, and the ending of a call by what its settings file gives.
use Rattle.std.proofs.Common.{◌≡◌, ◌∙◌, Bool, true, false, option_map, Bor, Option, Result, Ok, Err, IfOk, codes, Some, None, subst, sym, refl}
use Rattle.std.specs.Prelude.{◌||◌, is_some}
use Rattle.std.specs.Str.{chars}
use Rattle.rl_syntax.specs.declared.re.Mode.{Mode}
use Rattle.rl_syntax.specs.declared.re.Mode.TheVariants.{Fullmatch}
use Rattle.rl_walk.specs.Visits.{Moment}
use Rattle.rl_judge.specs.declared.settings.Settings.{Settings}
use Rattle.rl_words.specs.Call.{Call, asked, chosen, call_of}
use Rattle.rl_words.specs.declared.words.Action.{Action}
use Rattle.rl_words.specs.declared.words.Action.TheVariants.{Compare, Cost, Prove}
use Rattle.rl_words.specs.declared.words.Options.{Options}
use Rattle.rl_words.specs.declared.words.Words.{Words}
use Rattle.rl_lint.specs.CompareEnding.{CompareEnds}
use Rattle.rl_lint.specs.CostEnding.{cost_ending}
use Rattle.rl_lint.specs.Endings.{Ending, refuses, unreadable}
use Rattle.rl_lint.specs.Files.{whole_bytes}
use Rattle.rl_lint.specs.Options.{GivesSettings, default_settings, mode_given, with_values}
use Rattle.rl_lint.specs.Patterns.{ParsesThen, text_question}
use Rattle.rl_lint.specs.ProveEnding.{ProveEnds}
use Rattle.rl_lint.specs.RunEnding.{IsActionEnding, IsCallEnding, IsRunEnding, asks_itself, asks_tree}
use Rattle.rl_report.specs.Names.{Text}
use Rattle.rl_lint.specs.declared.plan.Plan.{Plan}
use Rattle.rl_lint.specs.declared.files.FileRead.{FileRead}
use Rattle.rl_lint.specs.declared.files.FileRead.TheVariants.{Unreadable, Refused, Taken}
use Rattle.rl_lint.specs.internal.Plans.{ending_of}
use Rattle.rl_lint.specs.internal.Reads.{IsNamedRead}
use Rattle.rl_lint.proofs.FileLemmas.{reads-refused, reads-taken, reads-unreadable}

pub cost-ends : {E : Type 0} (result : Result Plan E) (s : Settings) (options : Options) (action : Action) (pattern text : Bor Text) (mode : Mode) (m : Moment)
    → action ≡ Cost pattern text → mode ≡ mode_given options.values.mode Fullmatch
    → IfOk result (λ plan. ParsesThen (chars pattern.now) mode (λ t at end. end ≡ cost_ending (chars text.now) t at) (ending_of plan))
    → IfOk result (λ plan. IsActionEnding s (chosen options) (asked action) m m (ending_of plan))
cost-ends (Ok plan) s options action pattern text mode m is same ends =
    let here = subst (λ x. ParsesThen (chars pattern.now) x (λ t at end. end ≡ cost_ending (chars text.now) t at) (ending_of plan)) same ends in
    subst (λ a. IsActionEnding s (chosen options) (asked a) m m (ending_of plan)) (sym is) (refl, here)
cost-ends (Err error) s options action pattern text mode m is same ends = tt

pub prove-ends : {E : Type 0} (result : Result Plan E) (s : Settings) (options : Options) (action : Action) (pattern : Bor Text) (mode : Mode) (m : Moment)
    → action ≡ Prove pattern → mode ≡ mode_given options.values.mode Fullmatch
    → IfOk result (λ plan. ParsesThen (chars pattern.now) mode (λ t at. ProveEnds (text_question s.max_pairs t at)) (ending_of plan))
    → IfOk result (λ plan. IsActionEnding s (chosen options) (asked action) m m (ending_of plan))
prove-ends (Ok plan) s options action pattern mode m is same ends =
    let here = subst (λ x. ParsesThen (chars pattern.now) x (λ t at. ProveEnds (text_question s.max_pairs t at)) (ending_of plan)) same ends in
    subst (λ a. IsActionEnding s (chosen options) (asked a) m m (ending_of plan)) (sym is) (refl, here)
prove-ends (Err error) s options action pattern mode m is same ends = tt

pub compare-ends : {E : Type 0} (result : Result Plan E) (s : Settings) (options : Options) (action : Action) (first second : Bor Text) (mode : Mode) (m : Moment)
    → action ≡ Compare first second → mode ≡ mode_given options.values.mode Fullmatch
    → IfOk result (λ plan. ParsesThen (chars first.now) mode (λ t at. ParsesThen (chars second.now) mode (CompareEnds t at)) (ending_of plan))
    → IfOk result (λ plan. IsActionEnding s (chosen options) (asked action) m m (ending_of plan))
compare-ends (Ok plan) s options action first second mode m is same ends =
    let here = subst (λ x. ParsesThen (chars first.now) x (λ t at. ParsesThen (chars second.now) x (CompareEnds t at)) (ending_of plan)) same ends in
    subst (λ a. IsActionEnding s (chosen options) (asked a) m m (ending_of plan)) (sym is) (refl, here)
compare-ends (Err error) s options action first second mode m is same ends = tt

-- ---- by what the settings file gives

-- The ending that follows once the settings are known.
abbrev After : Call → Settings → Moment → Moment → Ending → Type 0
After call start = IsActionEnding (with_values call.options.values start) call.options call.action

module _ (call : Call) where
  pub call-unreadable : (named : Option Text) (old new : Moment) (found : FileRead Settings) → IsNamedRead GivesSettings whole_bytes default_settings named old new found
      → found ≡ Unreadable → IsCallEnding call named old new (unreadable (codes "relint: settings unreadable\n"))
  call-unreadable None old new found read is = let never : Taken default_settings ≡ Unreadable = sym read.1 ∙ is in cc
  call-unreadable (Some file) old new found read is = reads-unreadable (codes "settings") whole_bytes GivesSettings (After call) file old new found read is

  pub call-refused : (named : Option Text) (old new : Moment) (found : FileRead Settings) → IsNamedRead GivesSettings whole_bytes default_settings named old new found
      → found ≡ Refused → IsCallEnding call named old new (refuses (codes "relint: settings refused\n"))
  call-refused None old new found read is = let never : Taken default_settings ≡ Refused = sym read.1 ∙ is in cc
  call-refused (Some file) old new found read is = reads-refused (codes "settings") whole_bytes GivesSettings (After call) file old new found read is

  pub call-taken : {E : Type 0} (result : Result Plan E) (named : Option Text) (old mid new : Moment) (found : FileRead Settings) (start : Settings)
      → IsNamedRead GivesSettings whole_bytes default_settings named old mid found → found ≡ Taken start → IfOk result (λ plan. After call start mid new (ending_of plan))
      → IfOk result (λ plan. IsCallEnding call named old new (ending_of plan))
  call-taken (Ok plan) None old mid new found start read is ends =
      let taken : Taken start ≡ Taken default_settings = sym is ∙ read.1 in
      let same : start ≡ default_settings = cc in
      subst (λ m. After call default_settings m new (ending_of plan)) read.0 (subst (λ x. After call x mid new (ending_of plan)) same ends)
  call-taken (Err error) None old mid new found start read is ends = tt
  call-taken result (Some file) old mid new found start read is ends =
      reads-taken (codes "settings") whole_bytes GivesSettings (After call) file old result mid new found start read is ends

pub run-taken : {E : Type 0} (result : Result Plan E) (words : Words) (old mid new : Moment) (found : FileRead Settings) (start s : Settings)
    → IsNamedRead GivesSettings whole_bytes default_settings (option_map (λ p. p.now) words.options.settings) old mid found → found ≡ Taken start
    → s ≡ with_values words.options.values start
    → IfOk result (λ plan. IsActionEnding s (chosen words.options) (asked words.action) mid new (ending_of plan))
    → IfOk result (λ plan. IsRunEnding (Some (call_of words)) old new (ending_of plan))
run-taken result words old mid new found start s read is same ends =
    call-taken (call_of words) result (option_map (λ p. p.now) words.options.settings) old mid new found start read is
    (subst (λ x. IfOk result (λ plan. IsActionEnding x (chosen words.options) (asked words.action) mid new (ending_of plan))) same ends)

pub run-given : {E : Type 0} (result : Result Plan E) (given : Option Call) (call : Call) (old new : Moment) → given ≡ Some call
    → IfOk result (λ plan. IsRunEnding (Some call) old new (ending_of plan)) → IfOk result (λ plan. IsRunEnding given old new (ending_of plan))
run-given result given call old new is ends = subst (λ o. IfOk result (λ plan. IsRunEnding o old new (ending_of plan))) (sym is) ends

-- ---- words that don't ask the tree

pub asks-none : (words : Words) → asks_tree (Some (call_of words)) ≡ false → (asks_itself (asked words.action) ≡ false) × (words.options.settings ≡ None)
asks-none words asks = by_path (asks_itself (asked words.action)) words.options.settings asks
  where
    by_path : (itself : Bool) (path : Option (Bor Text)) → (itself || is_some (option_map (λ p. p.now) path)) ≡ false → (itself ≡ false) × (path ≡ None)
    by_path false None none = (refl, refl)
    by_path false (Some path) none = let never : true ≡ false = none in cc
    by_path true path none = let never : true ≡ false = none in cc
