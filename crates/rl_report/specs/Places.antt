-- The lines and columns of byte places in a source. Both count from 1, and columns count code points. A byte place is a number
-- of bytes from the beginning of the source. The role of a byte says what it does in this counting: it ends a line, begins a
-- code point, or continues one. A cursor is a byte place with its line and column.
use Rattle.std.specs.Prelude.{◌≡◌, ℕ, ◌+◌, ◌-◌, Bool, true, false, not, ◌&&◌, ◌||◌, ◌==◌, nat_le, List, [], ◌∷◌, take, drop, reverse, if◌then◌else◌}
use Rattle.std.specs.List.{count_by, take_while}
use Rattle.rl_pylex.specs.Bytes.{has_at, text_start}
use Rattle.rl_report.specs.declared.places.Cursor.{Cursor}
use Rattle.rl_report.specs.declared.places.Place.{Place}
use Rattle.rl_report.specs.declared.places.Role.{Role}
use Rattle.rl_report.specs.declared.places.Role.TheVariants.{EndsLine, BeginsCode, GoesOn}

-- The role of the byte `c`, given the bytes `rest` that follow it. An LF ends a line, and so does a CR without an LF right
-- after it. A byte from 0x80 to 0xBF continues a code point, as in UTF-8. Every other byte begins a code point, and so does a
-- CR before an LF.
abbrev pub role : ℕ → List ℕ → Role
role c rest =
    if c == 10 || (c == 13 && not (has_at (λ d. d == 10) 0 rest)) then EndsLine
    else (if nat_le 128 c && nat_le c 191 then GoesOn else BeginsCode)

-- The role of each byte of a text.
abbrev pub roles : List ℕ → List Role
roles [] = []
roles (c ∷ rest) = role c rest ∷ roles rest

-- Whether a byte with this role ends a line.
abbrev pub ends_line : Role → Bool
ends_line EndsLine = true
ends_line _ = false

-- Whether a byte with this role begins a code point.
abbrev pub begins_code : Role → Bool
begins_code BeginsCode = true
begins_code _ = false

-- The roles after the last one that ends a line, or all roles if none does, in reverse order.
abbrev pub of_last_line : List Role → List Role
of_last_line before = take_while (λ r. not (ends_line r)) (reverse before)

-- The place after bytes with the roles `before`. Its line is one more than the number of line ends among them, and its column
-- is one more than the number of code points that begin after the last line end.
abbrev pub place_behind : List Role → Place
place_behind before = record {
  line = 1 + count_by ends_line before;
  column = 1 + count_by begins_code (of_last_line before);
}

-- The line and column of the byte place `byte`, counted in bytes from 0. A byte order mark at the beginning doesn't count as a
-- column, and a place in it is line 1, column 1. A place after the end counts as the end.
unfoldable pub place_of : List ℕ → ℕ → Place
place_of source byte = place_behind (take (byte - text_start source) (roles (drop (text_start source) source)))

-- The role of the first byte of a text, or `BeginsCode` if the text is empty.
abbrev pub role_at : List ℕ → Role
role_at [] = BeginsCode
role_at (c ∷ rest) = role c rest

-- The place after a byte that has this role and is at the place `p`.
abbrev pub after : Role → Place → Place
after EndsLine p = record { line = p.line + 1; column = 1 }
after BeginsCode p = record { line = p.line; column = p.column + 1 }
after GoesOn p = p

-- The cursor's line and column are those of its byte place in the source.
abbrev pub IsAt : List ℕ → Cursor → Type 0
IsAt source cursor = cursor.place ≡ place_of source cursor.byte
