-- The units of a literal's body: a single code point, a line end, or an escape. A text is a list of code points. A unit gives
-- `Nothing size`, no code point; `One code size`, one code point; `Both code`, a backslash and `code`; or `Refuses cause
-- offset`, an error at the byte that many bytes after the unit's place. `size` is the number of code points in the unit. A
-- place is a byte index in the source, counted from 0. A literal of bytes has a `b` in its prefix, and a raw literal has an
-- `r`.
use Rattle.std.specs.Prelude.{ℕ, ◌+◌, ◌*◌, ◌==◌, Bool, not, ◌&&◌, ◌||◌, nat_lt, min, List, [], ◌∷◌, length, take, Option, Some, None, if◌then◌else◌}
use Rattle.std.specs.List.{prefix_len, list_all, fold}
use Rattle.std.specs.Map.{lookup}
use Rattle.std.specs.Char.{digit_value}
use Rattle.rl_pylex.specs.Bytes.{begins, is_in, line_end}
use Rattle.rl_pystr.specs.declared.escapes.Cause.TheVariants as cause
use Rattle.rl_pystr.specs.declared.escapes.Gives.{Gives}
use Rattle.rl_pystr.specs.declared.escapes.Gives.TheVariants.{Nothing, One, Both, Refuses}

-- Whether the code point is an octal digit, `0` to `7`.
abbrev pub is_octal : ℕ → Bool
is_octal c = nat_lt (digit_value c) 8

-- Whether the code point is a hexadecimal digit, in upper or lower case.
abbrev pub is_hex : ℕ → Bool
is_hex c = nat_lt (digit_value c) 16

-- The number that the list of digits spells in the base `base`, the most significant digit first. The empty list gives 0.
abbrev pub number_of : ℕ → List ℕ → ℕ
number_of base digits = fold (λ n digit. n * base + digit_value digit) 0 digits

-- What an escape of one to three octal digits gives, given the text after the backslash, which begins with such a digit. The
-- escape takes as many digits as there are, up to three. A number above 255 is refused, at the place of the backslash.
unfoldable pub octal : List ℕ → Gives
octal text =
    let count = min 3 (prefix_len is_octal text) in
    let number = number_of 8 (take count text) in
    if nat_lt 255 number then Refuses cause.BadEscape 0 else One number (1 + count)

-- Whether the text begins with at least `count` hexadecimal digits.
unfoldable pub has_hex : ℕ → List ℕ → Bool
has_hex count text = (length (take count text) == count) && list_all is_hex (take count text)

-- What an escape of a letter and `count` hexadecimal digits gives, given the text after the letter. It is refused, at the
-- place of the backslash, if fewer digits follow or if the number is above 0x10FFFF.
unfoldable pub hexadecimal : ℕ → List ℕ → Gives
hexadecimal count text =
    let number = number_of 16 (take count text) in
    if not (has_hex count text) || nat_lt 0x10FFFF number then Refuses cause.BadEscape 0 else One number (2 + count)

-- The code point that a backslash and the letter `c` give: 7 for `\a`, 8 for `\b`, 12 for `\f`, 10 for `\n`, 13 for `\r`, 9
-- for `\t` and 11 for `\v`. `None` for any other `c`.
unfoldable pub named_code : ℕ → Option ℕ
named_code c =
    lookup (λ letter. c == letter)
    ((97, 7) ∷ (98, 8) ∷ (102, 12) ∷ (110, 10) ∷ (114, 13) ∷ (116, 9) ∷ (118, 11) ∷ [])

-- What a backslash and the code point `c` give in a literal of bytes if they are no other escape: both code points, or a
-- refusal at the place of `c` if it isn't ASCII.
unfoldable pub byte_escape : ℕ → Gives
byte_escape c = if nat_lt 127 c then Refuses cause.NotAscii 1 else Both c

-- What a backslash, the code point `c` and the text `rest` after it give in a literal of text if they are none of the escapes
-- that literals of bytes have too. `\u` with four digits and `\U` with eight give one code point. `\N` is refused at the
-- backslash: with the cause `NamedEscape` if `{` follows, otherwise with `BadEscape`. Any other `c` gives the backslash and
-- `c`.
unfoldable pub text_escape : ℕ → List ℕ → Gives
text_escape c rest =
    if c == 117 then hexadecimal 4 rest
    else (if c == 85 then hexadecimal 8 rest
    else (if c == 78 then Refuses (if begins "{" rest then cause.NamedEscape else cause.BadEscape) 0 else Both c))

-- What a backslash and a letter give: the first argument, the code point of the letter's escape, if there is one. If it is
-- `None`, the value is `other`.
abbrev pub named_or : Option ℕ → Gives → Gives
named_or None other = other
named_or (Some code) other = One code 2

-- What the escape gives that consists of a backslash and the beginning of this text. `bytes` says whether the literal is one
-- of bytes. The first case that applies counts: a line end gives no code point; a backslash or a quote gives itself; an octal
-- digit begins an octal escape; `x` begins one of two hexadecimal digits; a letter of `named_code` gives its code point;
-- anything else gives what `byte_escape` or `text_escape` says. The empty text gives the backslash, but no literal's body ends
-- so.
abbrev pub escape : Bool → List ℕ → Gives
escape bytes [] = One 92 1
escape bytes (c ∷ rest) =
    if not (line_end (c ∷ rest) == 0) then Nothing (1 + line_end (c ∷ rest))
    else (if is_in "\\'\"" c then One c 2
    else (if is_octal c then octal (c ∷ rest)
    else (if c == 120 then hexadecimal 2 rest
    else named_or (named_code c) (if bytes then byte_escape c else text_escape c rest))))

-- What the unit gives with which the text, a part of a literal's body, begins. `raw` says whether the literal is raw, so that
-- a backslash begins no escape, and `bytes` whether it is one of bytes. A line end gives the code point 10.
-- The empty text gives `Nothing 1`.
abbrev pub unit : Bool → Bool → List ℕ → Gives
unit raw bytes [] = Nothing 1
unit raw bytes (c ∷ rest) =
    if not (line_end (c ∷ rest) == 0) then One 10 (line_end (c ∷ rest))
    else (if not raw && c == 92 then escape bytes rest
    else (if bytes && nat_lt 127 c then Refuses cause.NotAscii 0 else One c 1))

-- The number of code points in a unit that gives this. A refused unit counts as 1.
abbrev pub size_of : Gives → ℕ
size_of (Nothing size) = size
size_of (One code size) = size
size_of (Both code) = 2
size_of (Refuses cause offset) = 1
