-- The settings in force: values of options take precedence over the settings file, and the settings file over the defaults.
-- The mode is the way in which a pattern is matched (`fullmatch`, `match` or `search`), and the layout is how the report is
-- written. A live pair is a state of a pattern's automaton with the set of states that were tried before it.
use Rattle.std.specs.Prelude.{◌≡◌, Option, Some, option_map, unwrap_or}
use Rattle.rl_syntax.specs.declared.re.Mode.{Mode}
use Rattle.rl_syntax.specs.declared.re.Mode.TheVariants as mode
use Rattle.rl_report.specs.declared.layouts.Format.TheVariants.{Text as in_text, Brief, Json}
use Rattle.rl_judge.specs.declared.settings.Layout.{Layout}
use Rattle.rl_judge.specs.declared.settings.Layout.TheVariants.{Report, Sarif}
use Rattle.rl_judge.specs.declared.settings.Settings.{Settings}
use Rattle.rl_settings.specs.Settings.{file_values}
use Rattle.rl_words.specs.declared.words.FormatWord.{FormatWord}
use Rattle.rl_words.specs.declared.words.FormatWord.TheVariants as layout
use Rattle.rl_words.specs.declared.words.ModeWord.{ModeWord}
use Rattle.rl_words.specs.declared.words.ModeWord.TheVariants as word
use Rattle.rl_words.specs.declared.words.PartialSettings.{PartialSettings}
use Rattle.rl_report.specs.Names.{Text}

-- The mode that a value of the option `--mode` names: the one of the same name.
abbrev pub mode_of : ModeWord → Mode
mode_of word.Fullmatch = mode.Fullmatch
mode_of word.Match = mode.Match
mode_of word.Search = mode.Search

-- The mode that the given value of `--mode` names, or `default` if none is given.
abbrev pub mode_given : Option ModeWord → Mode → Mode
mode_given given default = unwrap_or (option_map mode_of given) default

-- The layout that a value of the option `--format` names: a SARIF document for `sarif`, otherwise a report in the format of
-- the same name.
abbrev pub layout_of : FormatWord → Layout
layout_of layout.Text = Report in_text
layout_of layout.Brief = Report Brief
layout_of layout.Json = Report Json
layout_of layout.Sarif = Sarif

-- The settings if nothing else is given: a call of `compile` counts as a search, a degree up to 2 isn't a finding, at most 600
-- live pairs are examined, and the report is version 2, in text.
abbrev pub default_settings : Settings
default_settings = record { compile_as = mode.Search; max_degree = 2; max_pairs = 600; format = Report in_text; report = 2 }

-- The settings `s`, with each value that is given in `values` in place of the old one. A mode that is given replaces
-- `compile_as`.
abbrev pub with_values : PartialSettings → Settings → Settings
with_values values s = record {
  compile_as = mode_given values.mode s.compile_as;
  max_degree = unwrap_or values.max_degree s.max_degree;
  max_pairs = unwrap_or values.max_pairs s.max_pairs;
  format = unwrap_or (option_map layout_of values.format) s.format;
  report = unwrap_or values.report s.report;
}

-- The settings `start`, with the values that the settings file gives in place of the old ones, or none if the file is refused.
-- `bytes` are the bytes of the file.
abbrev pub settings_of : Text → Settings → Option Settings
settings_of bytes start = option_map (λ values. with_values values start) (file_values bytes)

-- The settings file with these bytes is accepted, and `s` is the defaults with its values.
abbrev pub GivesSettings : Text → Settings → Type 0
GivesSettings bytes s = settings_of bytes default_settings ≡ Some s
