-- Which words are a valid call, and what a valid call asks for. The words are those after the program's name. A row is what
-- the command, as `clap` defines it, finds in the words for one of its arguments or options. A text is a list of bytes.
use Rattle.std.specs.Prelude.{◌&&◌, not, List, [], ◌∷◌, Option, Some, None, codes, if◌then◌else◌, unwrap_or}
use Rattle.std.specs.List.{list_all}
use Rattle.std.specs.Str.{bytes_eq}
use Rattle.clap.specs.Walk.{Row, Text, all_of, first_of, is_empty}
use Rattle.rl_words.specs.Call.{Asked, Call, Chosen, check, class, compare, cost, prove, sample}
use Rattle.rl_words.specs.Call.{verify}
use Rattle.rl_words.specs.Command.{rows_given}
use Rattle.rl_words.specs.Values.{◌>>=◌, format_of, is_filled, mode_of, number_of, optional}
use Rattle.rl_words.specs.Values.{path_of}
use Rattle.rl_words.specs.declared.action_name.ActionName.{ActionName}
use Rattle.rl_words.specs.declared.action_name.ActionName.TheVariants as name
use Rattle.rl_words.specs.declared.ranges.TheConstants.{COUNTS, MAX_DEGREES, MAX_PAIRS, REPORT_VERSIONS, SEEDS}
use Rattle.rl_words.specs.declared.words.PartialSettings.{PartialSettings}

-- ---- ACTION with its arguments

-- The name of the action that the word is, or `None` if it isn't one of the seven names.
abbrev pub action_name_of : Text → Option ActionName
action_name_of word = if bytes_eq word (codes "check") then Some name.Check
    else (if bytes_eq word (codes "class") then Some name.Class
    else (if bytes_eq word (codes "cost") then Some name.Cost
    else (if bytes_eq word (codes "sample") then Some name.Sample
    else (if bytes_eq word (codes "prove") then Some name.Prove
    else (if bytes_eq word (codes "verify") then Some name.Verify
    else (if bytes_eq word (codes "compare") then Some name.Compare
    else None))))))

-- The action with this name and these arguments, or `None` if it doesn't take them. `check` takes at least one path, and no
-- path is empty; `class` and `prove` take one pattern; `cost` takes a pattern and a text; `sample` takes SEED and COUNT, which
-- have one to ten digits and are in their ranges; `verify` takes a pattern and FILE, which isn't empty; `compare` takes two
-- patterns.
abbrev pub asked_with : ActionName → List Text → Option Asked
asked_with name.Check paths = if not (is_empty paths) && list_all is_filled paths then Some (check paths) else None
asked_with name.Class (pattern ∷ []) = Some (class pattern)
asked_with name.Cost (pattern ∷ text ∷ []) = Some (cost pattern text)
asked_with name.Sample (seed ∷ count ∷ []) = do
  Some (sample (← number_of 10 SEEDS seed) (← number_of 10 COUNTS count))
asked_with name.Prove (pattern ∷ []) = Some (prove pattern)
asked_with name.Verify (pattern ∷ file ∷ []) = if is_filled file then Some (verify pattern file) else None
asked_with name.Compare (first ∷ second ∷ []) = Some (compare first second)
asked_with _ _ = None

-- The action that the rows ask for, with its arguments, or `None` if they don't name one of the seven actions, or if it
-- doesn't take the arguments.
abbrev pub action_given : List Row → Option Asked
action_given rows = do
  word ← first_of (codes "action") rows
  name ← action_name_of word
  asked_with name (unwrap_or (all_of (codes "args") rows) [])

-- ---- the options

-- What the option `name` gives: `Some None` if it isn't given, `None` if `read` refuses its value, otherwise `Some (Some a)`
-- with the value `a` that `read` returns. Of several values, only the first is read.
abbrev pub given : {A : Type 0} → Text → (Text → Option A) → List Row → Option (Option A)
given name read rows = optional read (first_of name rows)

-- The settings that the options give, or `None` if a value is refused. The numbers have one to six digits and are in their
-- ranges.
abbrev pub settings_given : List Row → Option PartialSettings
settings_given rows = do
  Some (record {
    mode = (← given (codes "mode") mode_of rows);
    format = (← given (codes "format") format_of rows);
    max_degree = (← given (codes "max-degree") (number_of 6 MAX_DEGREES) rows);
    max_pairs = (← given (codes "max-pairs") (number_of 6 MAX_PAIRS) rows);
    report = (← given (codes "report") (number_of 6 REPORT_VERSIONS) rows);
  })

-- All options that are given, or `None` if a value is refused.
abbrev pub options_given : List Row → Option Chosen
options_given rows = do
  Some (record {
    values = (← settings_given rows);
    settings = (← given (codes "settings") path_of rows);
    baseline = (← given (codes "baseline") path_of rows);
  })

-- ---- the whole call

-- The call that the rows ask for, or `None` if the action or an option is refused.
abbrev pub call_given : List Row → Option Call
call_given rows = do
  Some (record { action = (← action_given rows); options = (← options_given rows) })

-- What the words ask for, or `None` if they aren't a valid call.
unfoldable pub given_by : List Text → Option Call
given_by words = rows_given words >>= call_given
