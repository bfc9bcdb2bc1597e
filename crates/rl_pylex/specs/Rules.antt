-- The table of the rules of tokens. A rule looks at the text from some place on and gives a `Fit`: `Passes` if it doesn't fit
-- there, `Takes size` if it takes the first `size` bytes, or `Breaks` if a literal begins there and has no end. A row is a
-- rule with the kind of the token that it gives. A `Reading` is what the rows give at a place: a `Piece` with its kind and
-- size, `Unterminated` for a literal without an end, or `Stray` if no row fits. The bracket depth of a place is the number of
-- brackets that are open there.
use Rattle.std.specs.Prelude.{ℕ, ◌+◌, ◌-◌, Bool, not, ◌&&◌, ◌||◌, ◌==◌, List, [], ◌∷◌, drop, Option, Some, None, unwrap_or, if◌then◌else◌}
use Rattle.std.specs.List.{prefix_len}
use Rattle.std.specs.Option.{option_map_or}
use Rattle.std.specs.Char.{is_ascii_digit}
use Rattle.rl_pylex.specs.declared.rules.Fit.{Fit}
use Rattle.rl_pylex.specs.declared.rules.Fit.TheVariants.{Passes, Takes, Breaks}
use Rattle.rl_pylex.specs.declared.rules.Reading.{Reading}
use Rattle.rl_pylex.specs.declared.rules.Reading.TheVariants.{Piece, Unterminated, Stray}
use Rattle.rl_pylex.specs.declared.token_list.TokenKind.{TokenKind}
use Rattle.rl_pylex.specs.declared.token_list.TokenKind.TheVariants as kind
use Rattle.rl_pylex.specs.Bytes.{has_at, begins, is_blank, is_backslash, in_line, starts_name, in_name, in_number, is_operator, opens_bracket, closes_bracket, line_end}
use Rattle.rl_pylex.specs.Literals.{prefix_size, size_after}

-- The result of a rule: `Takes size` if `fits` is true, otherwise `Passes`.
abbrev pub takes_if : Bool → ℕ → Fit
takes_if fits size = if fits then Takes size else Passes

-- The rule that takes one space, tab or form feed.
unfoldable pub blank : List ℕ → Fit
blank text = takes_if (has_at is_blank 0 text) 1

-- The rule that takes a backslash directly followed by a line end.
unfoldable pub joined_line : List ℕ → Fit
joined_line text =
    takes_if (has_at is_backslash 0 text && not (line_end (drop 1 text) == 0)) (1 + line_end (drop 1 text))

-- The rule that takes a line end: CR LF, CR or LF.
unfoldable pub new_line : List ℕ → Fit
new_line text = takes_if (not (line_end text == 0)) (line_end text)

-- The rule that takes a `#` and all bytes before the next line end or, if there is none, before the end of the text.
unfoldable pub comment : List ℕ → Fit
comment text = takes_if (begins "#" text) (prefix_len in_line text)

-- The rule that takes a literal: an optional prefix, directly followed by a quote, up to the end of the closing quotes. It
-- gives `Breaks` if nothing closes the literal.
unfoldable pub literal : List ℕ → Fit
literal text = option_map_or (λ n. option_map_or Takes (size_after n text) Breaks) (prefix_size text) Passes

-- The rule that takes a name: the longest run of ASCII letters, `_`, code points of at least 0x80 and digits. It fits only if
-- the text begins with one of these other than a digit.
unfoldable pub name : List ℕ → Fit
name text = takes_if (has_at starts_name 0 text) (prefix_len in_name text)

-- The rule that takes a number: the longest run of ASCII letters, digits, `_` and `.`. It fits only if the run begins with a
-- digit, or with a `.` and a digit.
unfoldable pub number : List ℕ → Fit
number text =
    takes_if (has_at is_ascii_digit 0 text || (begins "." text && has_at is_ascii_digit 1 text)) (prefix_len in_number text)

-- The rule that takes one operator character, delimiter or bracket.
unfoldable pub operator : List ℕ → Fit
operator text = takes_if (has_at is_operator 0 text) 1

-- The table of rules at a bracket depth, in the order in which they are tried: each rule with the kind of the token that it
-- gives, or `None` if it gives no token. A line end gives a token only at depth 0, outside brackets.
abbrev pub rows : ℕ → List ((List ℕ → Fit) × Option TokenKind)
rows depth =
    (blank, None)
    ∷ (joined_line, None)
    ∷ (new_line, if depth == 0 then Some kind.LineEnd else None)
    ∷ (comment, Some kind.Comment)
    ∷ (literal, Some kind.Literal)
    ∷ (name, Some kind.Name)
    ∷ (number, Some kind.Number)
    ∷ (operator, Some kind.Op)
    ∷ []

-- The reading that the result of a rule gives: a piece whose token has this kind if the rule takes bytes, `Unterminated` if it
-- breaks, and `None` if it doesn't fit.
abbrev pub reading_by : Fit → Option TokenKind → Option Reading
reading_by Passes kind = None
reading_by (Takes size) kind = Some (Piece kind size)
reading_by Breaks kind = Some Unterminated

-- The reading that the first fitting row gives at the beginning of the text, or `Stray` if no row fits.
abbrev pub first_of_rows : List ((List ℕ → Fit) × Option TokenKind) → List ℕ → Reading
first_of_rows [] text = Stray
first_of_rows ((rule, kind) ∷ rows) text = unwrap_or (reading_by (rule text) kind) (first_of_rows rows text)

-- What is read at the beginning of the text, at a bracket depth: a piece with its kind and size, a literal without an end, or
-- a stray code, which is a code point that begins no token. The empty text gives `Stray`.
unfoldable pub reading : ℕ → List ℕ → Reading
reading depth text = first_of_rows (rows depth) text

-- The bracket depth after the piece that the text begins with, if `depth` is the depth before it: one more for an opening
-- bracket, one less for a closing one, but at least 0, and otherwise the same. The first byte decides, because a piece that
-- begins with a bracket is only that bracket.
unfoldable pub depth_after : ℕ → List ℕ → ℕ
depth_after depth text =
    if has_at opens_bracket 0 text then depth + 1 else (if has_at closes_bracket 0 text then depth - 1 else depth)
