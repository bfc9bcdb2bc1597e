-- Writing a text as a literal between double quotes. A text is a list of code points, or of bytes in the universe `Bytes`, the
-- one of `bytes`. A literal of bytes has the prefix `b`. In a raw literal, which has the prefix `r`, a backslash begins no
-- escape. In all definitions, `bytes` says whether the literal is one of bytes.
use Rattle.std.specs.Prelude.{ℕ, zero, suc, ◌/◌, ◌%◌, ◌-◌, Bool, true, false, not, ◌&&◌, ◌||◌, ◌==◌, nat_lt, nat_le, List, [], ◌∷◌, ◌++◌, length, slice_get, codes, if◌then◌else◌}
use Rattle.std.specs.List.{list_all, flat_map}
use Rattle.std.specs.Option.{option_map_or}
use Rattle.std.specs.Fmt.{digit_glyph}
use Rattle.rl_ranges.specs.declared.universe.Universe.{Universe}
use Rattle.rl_ranges.specs.declared.universe.Universe.TheVariants.{Str, Bytes}

-- Whether the universe is the one of `bytes`.
abbrev pub is_bytes : Universe → Bool
is_bytes Str = false
is_bytes Bytes = true

-- The last `count` hexadecimal digits of `n`, in lower case, with zeros in front if there are fewer.
abbrev pub hex : ℕ → ℕ → List ℕ
hex zero n = []
hex (suc count) n = hex count (n / 16) ++ digit_glyph false (n % 16) ∷ []

-- The escape of the code point if it is one of `\\`, `\"`, `\n`, `\r` and `\t`. The empty list for any other code point.
unfoldable pub short_escape : ℕ → List ℕ
short_escape c =
    if c == 92 then codes "\\\\"
    else (if c == 34 then codes "\\\""
    else (if c == 10 then codes "\\n"
    else (if c == 13 then codes "\\r"
    else (if c == 9 then codes "\\t" else []))))

-- The escape of the code point `c` by its number: `\x` with two digits if `c` is below 128 or `bytes` is true, otherwise `\u`
-- with four digits if `c` is below 0x10000, otherwise `\U` with eight. If `bytes` is true, `c` must be below 256: of a larger
-- number only the last two digits are written.
unfoldable pub hex_escape : Bool → ℕ → List ℕ
hex_escape bytes c =
    if nat_lt c 128 || bytes then codes "\\x" ++ hex 2 c
    else (if nat_lt c 0x10000 then codes "\\u" ++ hex 4 c else codes "\\U" ++ hex 8 c)

-- Whether the code point is printable ASCII, from 0x20 to 0x7E. `escaped` writes those without a short escape as they are.
abbrev pub is_printed : ℕ → Bool
is_printed c = nat_le 32 c && nat_lt c 127

-- What is written for a code point in a literal that isn't raw: its short escape if it has one, the code point itself if it is
-- any other printable ASCII, otherwise its escape by its number.
unfoldable pub escaped : Bool → ℕ → List ℕ
escaped bytes c =
    if not (length (short_escape c) == 0) then short_escape c
    else (if is_printed c then c ∷ [] else hex_escape bytes c)

-- Whether the code point may be in a raw literal that `quoted` writes: it is from 0x20 to 0x7E and isn't a double quote.
abbrev pub is_plain : ℕ → Bool
is_plain c = is_printed c && not (c == 34)

-- Whether the last code point of the text is a backslash. False for the empty text.
abbrev pub ends_in_backslash : List ℕ → Bool
ends_in_backslash text = option_map_or (λ c. c == 92) (slice_get text (length text - 1)) false

-- Whether the text is written as a raw literal: each code point is from 0x20 to 0x7E and isn't a double quote, and the last
-- one isn't a backslash. It is true for the empty text.
unfoldable pub is_raw : List ℕ → Bool
is_raw text = list_all is_plain text && not (ends_in_backslash text)

-- The prefix `b` if `bytes` is true, otherwise the empty list.
abbrev pub bytes_prefix : Bool → List ℕ
bytes_prefix bytes = if bytes then codes "b" else []

-- The part of the literal after its prefix `b`, if it has one, and before its closing quote. If `raw` is true, it is `r"` and
-- then the text unchanged. Otherwise it is `"` and then what `escaped` gives for each code point of the text, in order.
abbrev pub quoted_body : Bool → Bool → List ℕ → List ℕ
quoted_body raw bytes text = if raw then codes "r\"" ++ text else codes "\"" ++ flat_map (escaped bytes) text

-- The literal that the text is written as: `b` if `bytes` is true, `r` if the literal is raw by `is_raw`, a double quote, the
-- text, escaped unless the literal is raw, and a double quote. The empty text gives `r""` or `br""`.
unfoldable pub quoted : Bool → List ℕ → List ℕ
quoted bytes text = bytes_prefix bytes ++ quoted_body (is_raw text) bytes text ++ codes "\""
