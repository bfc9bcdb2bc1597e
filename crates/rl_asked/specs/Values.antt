-- Values: what the value of a key stands for; `None` if the key doesn't take the value. `Items` are the values of a list of
-- JSON. A universe is the codes of bytes patterns or of text patterns.
use Rattle.std.specs.Prelude.{ℕ, ◌&&◌, Bool, true, false, List, [], ◌∷◌, length, Option, Some, None, unwrap_or, option_and_then, option_map, if◌then◌else◌, nat_le, nat_lt}
use Rattle.std.specs.List.{list_all}
use Rattle.std.specs.Option.{option_map_or}
use Rattle.std.specs.Str.{chars}
use Rattle.serde_json.specs.Data.{Data, Items, no_items, item}
use Rattle.serde_json.specs.Find.{as_array, as_bool, as_number, as_str, as_u64}
use Rattle.rl_ranges.specs.Text.{code_count}
use Rattle.rl_ranges.specs.declared.universe.Universe.{Universe}
use Rattle.rl_syntax.specs.declared.re.Mode.{Mode}
use Rattle.rl_marks.specs.declared.asked.How.{How}
use Rattle.rl_pattern.specs.declared.flags.Flags.{Flags}
use Rattle.rl_asked.specs.Words.{Text, ask_of, flags_of, how_of, mode_of, universe_of}
use Rattle.rl_asked.specs.declared.words.Ask.{Ask}

-- The kind of question that a string names.
abbrev pub ask_in : Data → Option Ask
ask_in d = option_and_then ask_of (as_str d)

-- The mode that a string names.
abbrev pub mode_in : Data → Option Mode
mode_in d = option_and_then mode_of (as_str d)

-- How a question about spans asks, as a string names it.
abbrev pub how_in : Data → Option How
how_in d = option_and_then how_of (as_str d)

-- The flags whose letters a string has.
abbrev pub flags_in : Data → Option Flags
flags_in d = option_and_then flags_of (as_str d)

-- The universe of bytes patterns for `true`, and that of text patterns for `false`.
abbrev pub bytes_in : Data → Option Universe
bytes_in d = option_map universe_of (as_bool d)

-- The whole number that the value is.
abbrev pub whole_in : Data → Option ℕ
whole_in d = option_and_then as_u64 (as_number d)

-- The number if it is from `least` to `most`.
abbrev pub between : ℕ → ℕ → ℕ → Option ℕ
between least most n = if nat_le least n && nat_le n most then Some n else None

-- The whole number that the value is, if it is from `least` to `most`.
abbrev pub number_in : ℕ → ℕ → Data → Option ℕ
number_in least most d = option_and_then (between least most) (whole_in d)

-- Whether each character of the text is a code of the universe.
abbrev pub is_text_of : Universe → Text → Bool
is_text_of universe text = list_all (λ c. nat_lt c (code_count universe)) (chars text)

-- The text if each of its characters is a code of the universe.
abbrev pub text_if : Universe → Text → Option Text
text_if universe text = if is_text_of universe text then Some text else None

-- The string that the value is, if each of its characters is a code of the universe.
abbrev pub text_in : Universe → Data → Option Text
text_in universe d = option_and_then (text_if universe) (as_str d)

-- Whether the value is a string of codes of the universe.
abbrev pub is_text_value : Universe → Data → Bool
is_text_value universe d = option_map_or (is_text_of universe) (as_str d) false

-- Whether each value is a string of codes of the universe.
abbrev pub are_texts : Universe → Items → Bool
are_texts universe no_items = true
are_texts universe (item d ds) = is_text_value universe d && are_texts universe ds

-- The values if each of them is a string of codes of the universe.
abbrev pub texts_if : Universe → Items → Option Items
texts_if universe ds = if are_texts universe ds then Some ds else None

-- The list that the value is, if each of its values is a string of codes of the universe.
abbrev pub texts_in : Universe → Data → Option Items
texts_in universe d = option_and_then (texts_if universe) (as_array d)

-- The texts of the values; a value that is no string counts as the empty text.
abbrev pub texts_of : Items → List Text
texts_of no_items = []
texts_of (item d ds) = unwrap_or (as_str d) [] ∷ texts_of ds

-- Whether there are no values.
abbrev pub are_none : Items → Bool
are_none no_items = true
are_none (item d ds) = false

-- Whether there is one pump less than heads.
abbrev pub has_pumps : Items → Items → Bool
has_pumps no_items pumps = false
has_pumps (item head heads) no_items = are_none heads
has_pumps (item head heads) (item pump pumps) = has_pumps heads pumps

-- The whole number that the value is, if it is at most the number of the text's characters.
abbrev pub from_in : Text → Data → Option ℕ
from_in text d = number_in 0 (length (chars text)) d
