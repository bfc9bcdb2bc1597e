-- What single characters mean in the grammar of patterns. A code is a character of the pattern as a number: a code point in a
-- `str`, a byte in a `bytes`. An item is an atom, such as a literal or a group, with its quantifier if it has one, or an
-- anchor or a word boundary. A class is a set of characters in brackets; a named class is an escape such as `\d`.
use Prim.Native.Char.{Char}
use Prim.Native.String.{String}
use Rattle.std.specs.Prelude.{[], ℕ, ◌+◌, ◌-◌, ◌*◌, Bool, true, false, not, ◌&&◌, ◌||◌, if◌then◌else◌, nat_le, ◌==◌, List, ◌∷◌, Option, Some, None, min, codes}
use Rattle.std.specs.List.{list_any}
pub use Prim.Native.Char.{code as code_of}
use Rattle.rl_pattern.specs.declared.flags.Flags.{Flags}
pub use Rattle.rl_pattern.specs.declared.lex.TokenClass.{TokenClass}
pub use Rattle.rl_pattern.specs.declared.lex.TokenClass.TheVariants.{Left as left, Right as right, Bar as bar, Brace as brace, Slash as slash, Dot as dot, Bracket as bracket, Times as times, Edge as edge, Blank as blank, Sharp as sharp, Plain as plain}
pub use Rattle.rl_pattern.specs.declared.lex.Numeral.{Numeral}
pub use Rattle.rl_pattern.specs.declared.lex.Numeral.TheVariants.{LowDigit as low_digit, HighDigit as high_digit, NoDigit as no_digit}
pub use Rattle.rl_pattern.specs.declared.lex.EscapeClass.{EscapeClass}
pub use Rattle.rl_pattern.specs.declared.lex.EscapeClass.TheVariants.{Single as single, Kinds as kinds, Hexes as hexes, Naming as naming, Octal as octal, Low as low, High as high, Edges as edges, NoEscape as no_escape}
pub use Rattle.rl_pattern.specs.declared.lex.GroupPrefix.{GroupPrefix}
pub use Rattle.rl_pattern.specs.declared.lex.GroupPrefix.TheVariants.{Letter as letter, Colon as colon, Minus as minus, LetterP as letter_p, Sharps as sharps, Less as less, Greater as greater, Condition as condition, Looks as looks, NoHead as no_head}
use Rattle.rl_pattern.specs.Tree.{Count, digits, spaces, words, caret, text_start, dollar, text_end, boundary, Escaped, code, too_large, kind, Kind, scoped, conditional, Branch}

-- Whether `c` is the code of `character`.
abbrev pub is : Char → ℕ → Bool
is character c = c == code_of character

-- Whether `c` is the code of one of the characters of `characters`.
abbrev pub is_in : String → ℕ → Bool
is_in characters c = list_any (λ d. c == d) (codes characters)

-- Whether `c` lies between the codes of `first` and `last`, both included.
abbrev pub is_from : Char → Char → ℕ → Bool
is_from first last c = nat_le (code_of first) c && nat_le c (code_of last)

-- Whether the code is white space: a space, tab, line feed, vertical tab, form feed or carriage return.
abbrev pub is_blank : ℕ → Bool
is_blank c = is " " c || is_from "\t" "\r" c

-- The repeat count with minimum `m` and maximum `n`. If `n` is `None`, there is no maximum.
abbrev pub count : ℕ → Option ℕ → Count
count m n = record { least = m; most = n }

-- The token class of the code `c` between items. For example, `|` is a `bar`, and `*`, `+` and `?` are
-- counts (`times`). A code that always means itself there is `plain`.
unfoldable pub sign : ℕ → TokenClass
sign c =
    if is "(" c then left
    else (if is ")" c then right
    else (if is "|" c then bar
    else (if is "*" c then times (count 0 None)
    else (if is "+" c then times (count 1 None)
    else (if is "?" c then times (count 0 (Some 1))
    else (if is "{" c then brace
    else (if is "\\" c then slash
    else (if is "." c then dot
    else (if is "[" c then bracket
    else (if is "^" c then edge caret
    else (if is "$" c then edge dollar
    else (if is "#" c then sharp
    else (if is_blank c then blank
    else plain)))))))))))))

-- The class of the code `c` as a digit: `low_digit` with its value for 0 to 7, `high_digit` for 8 and 9, and `no_digit` for
-- any other code.
unfoldable pub numeral : ℕ → Numeral
numeral c =
    if is_from "0" "7" c then low_digit (c - code_of "0")
    else (if is_from "8" "9" c then high_digit
    else no_digit)

-- Whether the class is `low_digit` or `high_digit`.
abbrev pub is_some_digit : Numeral → Bool
is_some_digit no_digit = false
is_some_digit _ = true

-- Whether the code is an ASCII digit.
unfoldable pub is_digit : ℕ → Bool
is_digit c = is_some_digit (numeral c)

-- The value of a hexadecimal digit, in either case, or `None` if `c` isn't one.
unfoldable pub hex : ℕ → Option ℕ
hex c =
    if is_from "0" "9" c then Some (c - code_of "0")
    else (if is_from "a" "f" c then Some (10 + (c - code_of "a"))
    else (if is_from "A" "F" c then Some (10 + (c - code_of "A"))
    else None))

-- Whether the code is an ASCII letter.
abbrev pub is_letter : ℕ → Bool
is_letter c = is_from "a" "z" c || is_from "A" "Z" c

-- Whether a group name may begin with the code `c`: an ASCII letter, `_`, or any code from 128 on if `text` is `true`, that
-- is, in a `str`.
unfoldable pub begins_name : Bool → ℕ → Bool
begins_name text c = is_letter c || is "_" c || (text && nat_le 0x80 c)

-- Whether the code `c` may follow in a group name: a code with which a name may begin, or an ASCII digit. `text` says whether
-- the pattern is a `str`.
unfoldable pub goes_in_name : Bool → ℕ → Bool
goes_in_name text c = begins_name text c || is_digit c

-- What the ASCII letter `c` means after a backslash, or `no_escape` if it can't follow one. `text` says whether the pattern
-- is a `str`: only in a `str` are `\u`, `\U` and `\N` escapes. `in_class` says whether the escape is in a class: there `\b` is
-- a backspace, and `\A`, `\B` and `\Z` are no escapes. The numbers after `single` are the codes of BEL (7), backspace (8),
-- vertical tab (11) and form feed (12); the one after `hexes` is the number of digits that follow; and `true` after `kinds`
-- means the complement.
abbrev pub slashed_letter : Bool → Bool → ℕ → EscapeClass
slashed_letter text in_class c =
    if is "a" c then single 7
    else (if is "f" c then single 12
    else (if is "n" c then single (code_of "\n")
    else (if is "r" c then single (code_of "\r")
    else (if is "t" c then single (code_of "\t")
    else (if is "v" c then single 11
    else (if is "d" c then kinds digits false
    else (if is "D" c then kinds digits true
    else (if is "s" c then kinds spaces false
    else (if is "S" c then kinds spaces true
    else (if is "w" c then kinds words false
    else (if is "W" c then kinds words true
    else (if is "x" c then hexes 2
    else (if text && is "u" c then hexes 4
    else (if text && is "U" c then hexes 8
    else (if text && is "N" c then naming
    else (if is "b" c then (if in_class then single 8 else edges (boundary false))
    else (if not in_class && is "B" c then edges (boundary true)
    else (if not in_class && is "A" c then edges text_start
    else (if not in_class && is "Z" c then edges text_end
    else no_escape)))))))))))))))))))

-- What the code `c`, which isn't a letter, means after a backslash, given its class as a digit. `in_class` says whether the
-- escape is in a class. There each of the digits 0 to 7 begins an octal number, and `\8` and `\9` are no escapes. Outside a
-- class only 0 surely begins one: 1 to 7 begin three octal digits or a reference, and 8 and 9 a reference. A code that isn't a
-- digit means itself.
abbrev pub slashed_digit : Bool → Numeral → ℕ → EscapeClass
slashed_digit in_class (low_digit d) c = if in_class || d == 0 then octal d else low d
slashed_digit in_class high_digit c = if in_class then no_escape else high
slashed_digit in_class no_digit c = single c

-- What the code `c` means after a backslash, or `no_escape` if it can't follow one. `text` says whether the pattern is a
-- `str`, and `in_class` whether the escape is in a class.
unfoldable pub slashed : Bool → Bool → ℕ → EscapeClass
slashed text in_class c =
    if is_letter c then slashed_letter text in_class c else slashed_digit in_class (numeral c) c

-- What an octal escape with the value `n` denotes: the code `n`, or `too_large` if `n` is greater than 255.
abbrev pub octal_code : ℕ → Escaped
octal_code n = if nat_le n 255 then code n else too_large

-- What a hexadecimal escape with the value `n` denotes: the code `n`, or `too_large` if `n` is greater than 0x10FFFF.
abbrev pub hex_code : ℕ → Escaped
hex_code n = if nat_le n 0x10FFFF then code n else too_large

-- Whether the escape is a named class: `\d`, `\s`, `\w`, `\D`, `\S` or `\W`.
abbrev pub is_kind : Escaped → Bool
is_kind (kind k n) = true
is_kind _ = false

-- Whether the code is one of the flag letters `aiLmsux`, which a group can turn on.
unfoldable pub on_letter : ℕ → Bool
on_letter c = is_in "aiLmsux" c

-- Whether the code is one of the flag letters `imsx`, which a group can turn off after a `-`.
unfoldable pub off_letter : ℕ → Bool
off_letter c = is_in "imsx" c

-- The class of the code `c` after `(?`, which decides what the parenthesis begins. A code that can't follow `(?` is `no_head`.
unfoldable pub headed : ℕ → GroupPrefix
headed c =
    if on_letter c then letter
    else (if is ":" c then colon
    else (if is "-" c then minus
    else (if is "P" c then letter_p
    else (if is "#" c then sharps
    else (if is_in "=!" c then looks
    else (if is "<" c then less
    else (if is ">" c then greater
    else (if is "(" c then condition
    else no_head))))))))

-- The flags of which none is set.
abbrev pub no_flags : Flags
no_flags = record { ignore_case = false; multiline = false; dot_all = false; verbose = false; ascii = false; unicode = false; locale = false }

-- The flags `f` with the flag of the letter `c` set too. A code that isn't a flag letter sets none.
unfoldable pub with_letter : Flags → ℕ → Flags
with_letter f c =
    record {
      ignore_case = f.ignore_case || is "i" c;
      multiline = f.multiline || is "m" c;
      dot_all = f.dot_all || is "s" c;
      verbose = f.verbose || is "x" c;
      ascii = f.ascii || is "a" c;
      unicode = f.unicode || is "u" c;
      locale = f.locale || is "L" c;
    }

-- The flags in force after a flag group with the letters `g` at the front of the pattern, if `f` were in force before: a flag
-- is set if it is set in either.
unfoldable pub joined : Flags → Flags → Flags
joined f g =
    record {
      ignore_case = f.ignore_case || g.ignore_case;
      multiline = f.multiline || g.multiline;
      dot_all = f.dot_all || g.dot_all;
      verbose = f.verbose || g.verbose;
      ascii = f.ascii || g.ascii;
      unicode = f.unicode || g.unicode;
      locale = f.locale || g.locale;
    }

-- The flags in force inside a group with the letters `on` before its `-` and `off` after it, if `f` are in force around it. Of
-- `imsx`, a letter in both is off. The letter `a` turns UNICODE off unless `u` is there too, and `u` turns ASCII off unless
-- `a` is.
unfoldable pub scoped_flags : Flags → Flags → Flags → Flags
scoped_flags on off f =
    record {
      ignore_case = not off.ignore_case && (on.ignore_case || f.ignore_case);
      multiline = not off.multiline && (on.multiline || f.multiline);
      dot_all = not off.dot_all && (on.dot_all || f.dot_all);
      verbose = not off.verbose && (on.verbose || f.verbose);
      ascii = on.ascii || (f.ascii && not on.unicode);
      unicode = on.unicode || (f.unicode && not on.ascii);
      locale = on.locale || f.locale;
    }

-- The flags in force inside a group of this kind, if `f` are in force around it. Only flag letters change them.
abbrev pub inside : Kind → Flags → Flags
inside (scoped on off) f = scoped_flags on off f
inside _ f = f

-- Whether a `|` may follow, in a group of this kind, after the branches in the list. In a conditional it may if there is at
-- most one of them. In any other group it always may.
abbrev pub splits : Kind → List Branch → Bool
splits conditional (b ∷ c ∷ bs) = false
splits _ _ = true

-- The number `n` in base `b` with the digit `d` appended, but at most 4294967295, which represents all larger numbers too.
abbrev pub with_digit : ℕ → ℕ → ℕ → ℕ
with_digit b n d = min (n * b + d) 4294967295

-- Whether the code may occur in a repeat count: a digit or a comma.
unfoldable pub counts : ℕ → Bool
counts c = is_digit c || is "," c

-- The count with minimum `m` whose maximum has digits with the value `n`, followed by the given digits and commas. A comma
-- makes it no count (`None`). A maximum that is too large is kept as 4294967295. The minimum may be larger than the maximum.
abbrev pub most_of : ℕ → ℕ → List ℕ → Option Count
most_of m n [] = Some (count m (Some n))
most_of m n (c ∷ cs) = if is "," c then None else most_of m (with_digit 10 n (c - code_of "0")) cs

-- The count with minimum `m` if the given digits and commas follow its comma. Without a further digit there is no maximum. A
-- second comma makes it no count (`None`).
abbrev pub upper_of : ℕ → List ℕ → Option Count
upper_of m [] = Some (count m None)
upper_of m (c ∷ cs) = most_of m 0 (c ∷ cs)

-- The count whose minimum has digits with the value `m`, followed by the given digits and commas. Without a comma, the maximum
-- equals the minimum. A second comma makes it no count (`None`).
abbrev pub least_of : ℕ → List ℕ → Option Count
least_of m [] = Some (count m (Some m))
least_of m (c ∷ cs) = if is "," c then upper_of m cs else least_of (with_digit 10 m (c - code_of "0")) cs

-- The count that a text of digits and commas spells between braces. The text has one of the forms `m`, `m,`, `,n`, `m,n` and
-- `,`. Any other, such as the empty text or `1,2,3`, gives `None`. In the form `m` the maximum is `m`. Otherwise, a missing
-- minimum is 0, and a missing maximum means that there is no bound.
unfoldable pub count_of : List ℕ → Option Count
count_of [] = None
count_of (c ∷ cs) = least_of 0 (c ∷ cs)
