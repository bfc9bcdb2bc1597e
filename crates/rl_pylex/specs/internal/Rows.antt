-- For private contracts: shortcuts through the table of rules. The first byte rules out many rows, and the last rows don't
-- depend on the bracket depth, which is the number of open brackets. A row is a rule with the kind of the token that it gives.
-- A reading is what the rows give at the beginning of a text: a piece, a literal without an end, or a stray code.
use Rattle.std.specs.Prelude.{ℕ, ◌<◌, ◌≤◌, ⊤, Bool, ◌||◌, ◌==◌, List, [], ◌∷◌, Option, Some, None, if◌then◌else◌}
use Rattle.std.specs.Char.{is_ascii_digit, to_ascii_lowercase}
use Rattle.rl_pylex.specs.declared.rules.Fit.{Fit}
use Rattle.rl_pylex.specs.declared.rules.Reading.{Reading}
use Rattle.rl_pylex.specs.declared.rules.Reading.TheVariants.{Piece}
use Rattle.rl_pylex.specs.declared.token_list.TokenKind.{TokenKind}
use Rattle.rl_pylex.specs.declared.token_list.TokenKind.TheVariants as kind
use Rattle.rl_pylex.specs.Bytes.{is_in, is_quote}
use Rattle.rl_pylex.specs.Rules.{literal, name, number, operator}

-- The kind of a line end's token at this bracket depth: `LineEnd` at depth 0, otherwise `None`, because it has no token.
abbrev pub line_end_kind : ℕ → Option TokenKind
line_end_kind depth = if depth == 0 then Some kind.LineEnd else None

-- Whether the byte is a digit or `.`, with which every number begins.
abbrev pub starts_number : ℕ → Bool
starts_number c = is_ascii_digit c || c == 46

-- The last two rows of the table: the rules of numbers and operators.
abbrev pub number_rows : List ((List ℕ → Fit) × Option TokenKind)
number_rows = (number, Some kind.Number) ∷ (operator, Some kind.Op) ∷ []

-- The last four rows of the table: the rules of literals, names, numbers and operators.
abbrev pub literal_rows : List ((List ℕ → Fit) × Option TokenKind)
literal_rows = (literal, Some kind.Literal) ∷ (name, Some kind.Name) ∷ number_rows

-- Whether the byte is an operator character, a delimiter or a bracket, but not a `.`, which can also begin a number.
abbrev pub is_plain_operator : ℕ → Bool
is_plain_operator c = is_in "()[]{},:;=+-*/%&|^~<>@!" c

-- Whether the byte is a quote or one of the letters r, u, b and f, in upper or lower case. Every literal begins with such a
-- byte.
abbrev pub starts_literal : ℕ → Bool
starts_literal c = is_quote c || is_in "rubf" (to_ascii_lowercase c)

-- Holds if the reading isn't a piece, or is a piece of at least 1 and at most `most` bytes.
abbrev pub IsBoundedReading : Reading → ℕ → Type 0
IsBoundedReading (Piece kind size) most = (0 < size) × (size ≤ most)
IsBoundedReading _ most = ⊤
