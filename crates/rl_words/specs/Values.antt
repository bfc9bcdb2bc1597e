-- The values of options and the numbers of `sample`, and the texts that denote them. A text is a list of bytes.
use Rattle.std.specs.Prelude.{◌==◌, ◌&&◌, ℕ, Bool, not, Option, Some, None, codes}
use Rattle.std.specs.Prelude.{if◌then◌else◌, length, nat_le, option_and_then, option_map}
use Rattle.std.specs.Char.{is_ascii_digit}
use Rattle.std.specs.List.{list_all}
use Rattle.std.specs.Str.{bytes_eq}
use Rattle.std.specs.Str.Parse.{digits_value}
use Rattle.clap.specs.Walk.{Text}
use Rattle.rl_words.specs.declared.ranges.NumberRange.{NumberRange}
use Rattle.rl_words.specs.declared.words.ModeWord.{ModeWord}
use Rattle.rl_words.specs.declared.words.ModeWord.TheVariants as mode
use Rattle.rl_words.specs.declared.words.FormatWord.{FormatWord}
use Rattle.rl_words.specs.declared.words.FormatWord.TheVariants as format

-- Whether the text isn't empty.
abbrev pub is_filled : Text → Bool
is_filled text = not (length text == 0)

-- Whether the text consists of one to `digits` ASCII digits.
abbrev pub is_numeral : ℕ → Text → Bool
is_numeral digits text =
    is_filled text && (nat_le (length text) digits && list_all is_ascii_digit text)

-- Whether the number is in the range, which includes its ends.
abbrev pub is_within : NumberRange → ℕ → Bool
is_within range number = nat_le range.low number && nat_le number range.high

-- The decimal number that the text denotes, or `None` if the text doesn't consist of one to `digits` ASCII digits or the
-- number isn't in the range. Leading zeros are allowed.
abbrev pub number_of : ℕ → NumberRange → Text → Option ℕ
number_of digits range text =
    let number = digits_value 10 text in
    if is_numeral digits text && is_within range number then Some number else None

-- The mode that the word names, or `None` if it isn't `fullmatch`, `match` or `search`.
abbrev pub mode_of : Text → Option ModeWord
mode_of word = if bytes_eq word (codes "fullmatch") then Some mode.Fullmatch
    else (if bytes_eq word (codes "match") then Some mode.Match
    else (if bytes_eq word (codes "search") then Some mode.Search
    else None))

-- The format that the word names, or `None` if it isn't `text`, `brief`, `json` or `sarif`.
abbrev pub format_of : Text → Option FormatWord
format_of word = if bytes_eq word (codes "text") then Some format.Text
    else (if bytes_eq word (codes "brief") then Some format.Brief
    else (if bytes_eq word (codes "json") then Some format.Json
    else (if bytes_eq word (codes "sarif") then Some format.Sarif
    else None)))

-- The path that the text is, or `None` if the text is empty.
abbrev pub path_of : Text → Option Text
path_of path = if is_filled path then Some path else None

-- ---- values that may be left out

-- The result of the function `f` on the value of `o`, or `None` if there is no value. A `do` block is a chain of these.
infixl 10 ◌>>=◌
abbrev pub ◌>>=◌ : {A B : Type 0} → Option A → (A → Option B) → Option B
o >>= f = option_and_then f o

-- What a value that may be missing gives: `Some None` if it is missing, `None` if `read` refuses it, otherwise `Some (Some a)`
-- with the result `a` of `read`.
abbrev pub optional : {V A : Type 0} → (V → Option A) → Option V → Option (Option A)
optional read None = Some None
optional read (Some value) = option_map Some (read value)
