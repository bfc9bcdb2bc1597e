-- What the values of a settings file's TOML document denote. `Data` is such a value.
use Rattle.std.specs.Prelude.{ℕ, pos, Option, Some, None, if◌then◌else◌}
use Rattle.toml.specs.Data.{Data, as_str, integer}
use Rattle.rl_words.specs.Values.{◌>>=◌, format_of, is_within, mode_of}
use Rattle.rl_words.specs.declared.ranges.NumberRange.{NumberRange}
use Rattle.rl_words.specs.declared.words.FormatWord.{FormatWord}
use Rattle.rl_words.specs.declared.words.ModeWord.{ModeWord}

-- The mode that the value names, or `None` if it isn't one of the strings `fullmatch`, `match` and `search`.
abbrev pub mode_in : Data → Option ModeWord
mode_in value = as_str value >>= mode_of

-- The format that the value names, or `None` if it isn't one of the strings `text`, `brief`, `json` and `sarif`.
abbrev pub format_in : Data → Option FormatWord
format_in value = as_str value >>= format_of

-- The number that the value is, or `None` if it isn't a whole number in the range. A negative number is in no range.
abbrev pub number_in : NumberRange → Data → Option ℕ
number_in range (integer (pos n)) = if is_within range n then Some n else None
number_in range _ = None
