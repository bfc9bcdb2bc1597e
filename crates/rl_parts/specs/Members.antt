-- Values of JSON that several kinds of replies have. A span is the range of a part's positions in the pattern, which count codes
-- from 0: `from` is the position of the first code, `upto` the one after the last.
use Rattle.std.specs.Prelude.{ℕ, List, [], ◌∷◌, Option}
use Rattle.std.specs.Option.{option_map_or}
use Rattle.serde_json.specs.Data.{Data, null, number, unsigned, array}
use Rattle.serde_json.specs.View.{items_of}
use Rattle.rl_syntax.specs.declared.span.Span.{Span}

-- A natural number as a value of JSON.
abbrev pub whole : ℕ → Data
whole n = number (unsigned n)

-- The values as an array, in order.
abbrev pub list_data : List Data → Data
list_data ds = array (items_of ds)

-- The number, or `null` if there is none.
abbrev pub number_data : Option ℕ → Data
number_data n = option_map_or whole n null

-- A span as an array of its two positions.
abbrev pub span_data : Span → Data
span_data span = list_data (whole span.from ∷ whole span.upto ∷ [])

-- A span as an array, or `null` if there is none.
abbrev pub place_data : Option Span → Data
place_data span = option_map_or span_data span null
