-- What a valid call asks for, in terms of texts and numbers. A text is a list of bytes. The first argument of a call, ACTION,
-- is the name of an action, and its arguments follow. A settings file can set some of the options; their values are the
-- settings.
use Rattle.std.specs.Prelude.{◌≤◌, ℕ, ⊤, IfSome, List, Option, option_map}
use Rattle.clap.specs.Walk.{Text, texts}
use Rattle.rl_words.specs.declared.ranges.NumberRange.{NumberRange}
use Rattle.rl_words.specs.declared.ranges.TheConstants.{COUNTS, MAX_DEGREES, MAX_PAIRS, REPORT_VERSIONS, SEEDS}
use Rattle.rl_words.specs.declared.words.Options.{Options}
use Rattle.rl_words.specs.declared.words.PartialSettings.{PartialSettings}
use Rattle.rl_words.specs.declared.words.Action.{Action}
use Rattle.rl_words.specs.declared.words.Action.TheVariants as action
use Rattle.rl_words.specs.declared.words.Words.{Words}

-- An action with its arguments.
pub data Asked : Type 0 where
  check : List Text → Asked  -- The paths
  class : Text → Asked  -- The pattern
  cost : Text → Text → Asked  -- The pattern and the text
  sample : ℕ → ℕ → Asked  -- SEED and COUNT
  prove : Text → Asked  -- The pattern
  verify : Text → Text → Asked  -- The pattern and FILE
  compare : Text → Text → Asked  -- The two patterns

-- The options that were given. An option that wasn't given is `None`. `values` has those that a settings file can set too.
pub record Chosen : Type 0 where
  pub values : PartialSettings
  pub settings : Option Text  -- The path of the settings file
  pub baseline : Option Text  -- The path of the baseline

-- A valid call: the action with its arguments, and the options.
pub record Call : Type 0 where
  pub action : Asked
  pub options : Chosen

-- The action as contracts see it, given the program's value.
abbrev pub asked : Action → Asked
asked (action.Check paths) = check (texts paths)
asked (action.Class pattern) = class pattern.now
asked (action.Cost pattern text) = cost pattern.now text.now
asked (action.Sample seed count) = sample seed count
asked (action.Prove pattern) = prove pattern.now
asked (action.Verify pattern file) = verify pattern.now file.now
asked (action.Compare first second) = compare first.now second.now

-- The options as contracts see them, given the program's value.
abbrev pub chosen : Options → Chosen
chosen options = record {
  values = options.values;
  settings = option_map (λ path. path.now) options.settings;
  baseline = option_map (λ path. path.now) options.baseline;
}

-- The call as contracts see it, given the program's value.
abbrev pub call_of : Words → Call
call_of words = record { action = asked words.action; options = chosen words.options }

-- ---- the ranges of a call's numbers

-- Holds if the number is in the range, which includes its ends.
abbrev pub IsWithin : NumberRange → ℕ → Type 0
IsWithin range number = (range.low ≤ number) × (number ≤ range.high)

-- Holds if the numbers among the action's arguments are in their ranges. Only `sample` has any; for the other actions it
-- always holds.
abbrev pub HasActionRanges : Asked → Type 0
HasActionRanges (sample seed count) = IsWithin SEEDS seed × IsWithin COUNTS count
HasActionRanges _ = ⊤

-- Holds if the numbers among the settings that were given are in their ranges. A number that wasn't given is ignored.
pub record AreInRange (values : PartialSettings) : Type 0 where
  pub max_degree : IfSome values.max_degree (IsWithin MAX_DEGREES)
  pub max_pairs : IfSome values.max_pairs (IsWithin MAX_PAIRS)
  pub report : IfSome values.report (IsWithin REPORT_VERSIONS)

-- Holds if all numbers of the call, in the action's arguments and in the settings, are in their ranges.
pub record HasRanges (call : Call) : Type 0 where
  pub action : HasActionRanges call.action
  pub values : AreInRange call.options.values
