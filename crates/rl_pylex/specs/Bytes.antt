-- Tests on the bytes that a text begins with, line ends, and the classes of bytes that the rules of tokens name. A text is a
-- list of bytes, and a place in it is an index counted from 0. In UTF-8 a code point of at least 0x80 consists of bytes of at
-- least 0x80, and no other code point has such a byte. So a run of code points of at least 0x80 and the run of its bytes are
-- the same text.
use Rattle.std.specs.Prelude.{ℕ, Bool, false, not, ◌||◌, ◌==◌, nat_eq, nat_lt, List, [], ◌∷◌, slice_get, codes, if◌then◌else◌}
use Rattle.std.specs.List.{list_any, starts_with}
use Rattle.std.specs.Option.{option_map_or}
use Rattle.std.specs.Char.{is_ascii_digit, is_ascii_alphabetic, is_ascii_alphanumeric}
use Prim.Native.String.{String}

-- Whether the text has a byte at the place `i`, and that byte satisfies `test`.
abbrev pub has_at : (ℕ → Bool) → ℕ → List ℕ → Bool
has_at test i text = option_map_or test (slice_get text i) false

-- Whether the text begins with `word`, a string of ASCII characters.
abbrev pub begins : String → List ℕ → Bool
begins word text = starts_with nat_eq text (codes word)

-- Whether `c` is the code of one of the characters in the string `characters`.
abbrev pub is_in : String → ℕ → Bool
is_in characters c = list_any (λ x. x == c) (codes characters)

-- Whether the byte is a space, a tab or a form feed.
abbrev pub is_blank : ℕ → Bool
is_blank c = is_in " \t\u{c}" c

-- Whether the byte is a backslash.
abbrev pub is_backslash : ℕ → Bool
is_backslash c = is_in "\\" c

-- Whether the byte is a quote, single or double.
abbrev pub is_quote : ℕ → Bool
is_quote c = is_in "\"'" c

-- Whether the byte is a CR or an LF.
abbrev pub ends_line : ℕ → Bool
ends_line c = is_in "\n\r" c

-- Whether the byte doesn't end a line.
abbrev pub in_line : ℕ → Bool
in_line c = not (ends_line c)

-- Whether the byte can begin a name: an ASCII letter, `_` or a byte of at least 0x80.
abbrev pub starts_name : ℕ → Bool
starts_name c = is_ascii_alphabetic c || c == 95 || nat_lt 127 c

-- Whether the byte can continue a name: a byte that can begin one, or a digit.
abbrev pub in_name : ℕ → Bool
in_name c = starts_name c || is_ascii_digit c

-- Whether the byte can continue a number: an ASCII letter, a digit, `_` or `.`.
abbrev pub in_number : ℕ → Bool
in_number c = is_ascii_alphanumeric c || is_in "_." c

-- Whether the byte is an operator character, a delimiter such as `.` or `,`, or a bracket. Each is a token of the kind `Op`.
abbrev pub is_operator : ℕ → Bool
is_operator c = is_in "()[]{}.,:;=+-*/%&|^~<>@!" c

-- Whether the byte is an opening bracket.
abbrev pub opens_bracket : ℕ → Bool
opens_bracket c = is_in "([{" c

-- Whether the byte is a closing bracket.
abbrev pub closes_bracket : ℕ → Bool
closes_bracket c = is_in ")]}" c

-- The number of bytes in the line end that the text begins with, or 0 if it doesn't begin with one. A line end is CR LF, a CR
-- without an LF after it, or LF.
unfoldable pub line_end : List ℕ → ℕ
line_end text = if begins "\r\n" text then 2 else (if has_at ends_line 0 text then 1 else 0)

-- The place where the text of a source begins: 3 if the source begins with the byte order mark EF BB BF, otherwise 0.
unfoldable pub text_start : List ℕ → ℕ
text_start source = if starts_with nat_eq source (239 ∷ 187 ∷ 191 ∷ []) then 3 else 0
