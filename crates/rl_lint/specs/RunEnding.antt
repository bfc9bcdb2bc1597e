-- How a run ends, before the status is known. It depends on the words and on the answers of the tree. The tree of files is the
-- file system that the run reads. A moment is this tree at one point in time: what it reveals about itself (its map of paths
-- and the trail of the calls made on it, if it reveals them) and the number of its calls that failed. An ending says what the
-- run does: it refuses with a message, it reports an unreadable file with a message, or it writes a text. The settings in
-- force are the defaults, replaced by the values of the settings file, and these by the values of options.
use Rattle.std.specs.Prelude.{◌≡◌, ◌||◌, Bool, true, false, Option, Some, None, codes, is_some}
use Rattle.std.specs.Str.{chars}
use Rattle.rl_syntax.specs.declared.re.Mode.TheVariants.{Fullmatch}
use Rattle.rl_walk.specs.Visits.{Moment}
use Rattle.rl_judge.specs.declared.settings.Settings.{Settings}
use Rattle.rl_words.specs.Call.{Asked, Call, Chosen, check, class, cost, sample, prove, verify, compare}
use Rattle.rl_words.specs.Usage.{usage_text}
use Rattle.rl_lint.specs.CheckEnding.{IsCheckEnding}
use Rattle.rl_lint.specs.ClassEnding.{ClassEnds}
use Rattle.rl_lint.specs.CompareEnding.{CompareEnds}
use Rattle.rl_lint.specs.CostEnding.{cost_ending}
use Rattle.rl_lint.specs.Endings.{Ending, refuses}
use Rattle.rl_lint.specs.Files.{ReadsThen, whole_bytes}
use Rattle.rl_lint.specs.Options.{GivesSettings, default_settings, mode_given, with_values}
use Rattle.rl_lint.specs.Patterns.{ParsesThen, text_question}
use Rattle.rl_lint.specs.ProveEnding.{ProveEnds}
use Rattle.rl_lint.specs.SampleEnding.{IsSampleEnding}
use Rattle.rl_report.specs.Names.{Text}
use Rattle.rl_lint.specs.VerifyEnding.{IsVerifyEnding}

-- How an action with its arguments ends under the settings `s`, with the options of its call. `check` reads its baseline, if
-- one is named, and walks the tree of files; `verify` reads its file; every other action leaves this tree as it was
-- (`new ≡ old`). The mode is that of the option `--mode`, or `fullmatch` if it isn't given; `check` and `sample` don't use it
-- here, because it is already in `s`.
abbrev pub IsActionEnding : Settings → Chosen → Asked → Moment → Moment → Ending → Type 0
IsActionEnding s options (check paths) old new ending = IsCheckEnding s paths options.baseline old new ending
IsActionEnding s options (class pattern) old new ending =
    (new ≡ old) × ParsesThen (chars pattern) (mode_given options.values.mode Fullmatch) (ClassEnds s.max_degree s.max_pairs) ending
IsActionEnding s options (cost pattern text) old new ending =
    (new ≡ old) × ParsesThen (chars pattern) (mode_given options.values.mode Fullmatch) (λ t at end. end ≡ cost_ending (chars text) t at) ending
IsActionEnding s options (sample seed count) old new ending = (new ≡ old) × IsSampleEnding s seed count ending
IsActionEnding s options (prove pattern) old new ending =
    (new ≡ old) × ParsesThen (chars pattern) (mode_given options.values.mode Fullmatch) (λ t at. ProveEnds (text_question s.max_pairs t at)) ending
IsActionEnding s options (verify pattern file) old new ending =
    IsVerifyEnding s.max_pairs (mode_given options.values.mode Fullmatch) (chars pattern) file old new ending
IsActionEnding s options (compare first second) old new ending =
    let mode = mode_given options.values.mode Fullmatch in
    (new ≡ old) × ParsesThen (chars first) mode (λ s e. ParsesThen (chars second) mode (CompareEnds s e)) ending

-- How a call ends. If no settings file is named, the action is run with the defaults, in which the values of options replace
-- the old ones. If one is named, it is read whole before the action and gives the values in place of the defaults; if it is
-- unreadable or refused, the run ends there.
abbrev pub IsCallEnding : Call → Option Text → Moment → Moment → Ending → Type 0
IsCallEnding call None old new ending = IsActionEnding (with_values call.options.values default_settings) call.options call.action old new ending
IsCallEnding call (Some file) old new ending =
    ReadsThen (codes "settings") whole_bytes GivesSettings (λ start. IsActionEnding (with_values call.options.values start) call.options call.action) file old new ending

-- How a run ends: if its words aren't a valid call (`None`), it refuses with the usage text, and the tree isn't asked.
-- Otherwise it ends as the call does.
abbrev pub IsRunEnding : Option Call → Moment → Moment → Ending → Type 0
IsRunEnding None old new ending = (new ≡ old) × (ending ≡ refuses usage_text)
IsRunEnding (Some call) old new ending = IsCallEnding call call.options.settings old new ending

-- ---- which words ask the tree

-- Whether the action itself may ask the tree: only `check` and `verify` do, `verify` only if its pattern isn't refused.
abbrev pub asks_itself : Asked → Bool
asks_itself (check paths) = true
asks_itself (verify pattern file) = true
asks_itself _ = false

-- Whether the run may ask the tree: its words are a valid call, and its action is `check` or `verify` or a settings file is
-- named.
abbrev pub asks_tree : Option Call → Bool
asks_tree None = false
asks_tree (Some call) = asks_itself call.action || is_some call.options.settings
