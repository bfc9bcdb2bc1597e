-- Why a run refuses what its words ask for. The tree is the file system that the run reads. `told` is what the tree reveals
-- about itself: its map, which is the list of paths with what is there, and its trail, which is the list of the calls made on
-- it; or it is `None` if the tree reveals nothing. A file is refused if its bytes give no value of the kind that is needed
-- (`HasRefused` in `Files.antt`).
use Rattle.std.specs.Prelude.{◌⊎◌, ◌<◌, length, Option, Some, None}
use Rattle.std.specs.Str.{chars}
use Rattle.rl_source.specs.Revealed.{Revealed}
use Rattle.rl_words.specs.Call.{Asked, Call, Chosen, check, class, cost, sample, prove, verify, compare}
use Rattle.rl_sarif.specs.Baseline.{IsBaseline}
use Rattle.rl_cert.specs.Form.{IsForm}
use Rattle.rl_lint.specs.declared.limits.TheConstants.{MOST_TEXT_CODES}
use Rattle.rl_lint.specs.Files.{HasRefused, first_bytes, whole_bytes}
use Rattle.rl_lint.specs.Options.{GivesSettings}
use Rattle.rl_lint.specs.Patterns.{IsRefusedPattern}
use Rattle.rl_report.specs.Names.{Text}

-- The reader of patterns refuses the word, read as the list of its code points, as a pattern of type `str` without flags.
abbrev pub HasRefusedPattern : Text → Type 0
HasRefusedPattern word = (message : Text) × IsRefusedPattern (chars word) message

-- The action with these arguments and options is refused: because the bytes of its baseline (for `check`, if one is named) or
-- its certificate (for `verify`) are refused, because the reader of patterns refuses one of its patterns, or because the text
-- of `cost` has more than `MOST_TEXT_CODES` characters. `sample` is never refused. If `told` is `None`, any bytes that a file
-- might have had count, so this holds for every `verify`, and for every `check` with a baseline.
abbrev pub IsRefusedAction : Option Revealed → Chosen → Asked → Type 0
IsRefusedAction told options (check paths) = HasRefused IsBaseline first_bytes options.baseline told
IsRefusedAction told options (class pattern) = HasRefusedPattern pattern
IsRefusedAction told options (cost pattern text) = HasRefusedPattern pattern ⊎ (MOST_TEXT_CODES < length (chars text))
IsRefusedAction told options (sample seed count) = ⊥
IsRefusedAction told options (prove pattern) = HasRefusedPattern pattern
IsRefusedAction told options (verify pattern file) = HasRefusedPattern pattern ⊎ HasRefused IsForm first_bytes (Some file) told
IsRefusedAction told options (compare first second) = HasRefusedPattern first ⊎ HasRefusedPattern second

-- The run is refused: the words aren't a valid call (`None`), or the bytes of the settings file are refused, if one is named,
-- or the action is refused. If `told` is `None`, any bytes that the settings file might have had count, so this holds for
-- every call that names one.
pub data IsRefused (told : Option Revealed) : Option Call → Type 0 where
  invalid : IsRefused told None
  settings : {call : Call} → HasRefused GivesSettings whole_bytes call.options.settings told → IsRefused told (Some call)
  action : {call : Call} → IsRefusedAction told call.options call.action → IsRefused told (Some call)
