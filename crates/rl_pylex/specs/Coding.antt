-- The coding line of a source, by PEP 263: a line with only a comment that has `coding:` or `coding=` with a name after it. It
-- is the first line of the source, or the second if the first is blank or only a comment. A place is a byte index, counted
-- from 0. A `Named` says where a name is in a text: the place `from` of its first byte, and its number of bytes `size`.
use Rattle.std.specs.Prelude.{ℕ, ◌+◌, Bool, not, ◌&&◌, ◌||◌, ◌==◌, List, [], ◌∷◌, length, take, drop, take_while, codes, Option, Some, None, if◌then◌else◌, bytes_eq}
use Rattle.std.specs.List.{list_any, prefix_len}
use Rattle.std.specs.Option.{option_or, option_and_then}
use Rattle.std.specs.Str.{str_to_ascii_lowercase}
use Rattle.std.specs.Char.{is_ascii_alphanumeric}
use Rattle.rl_pylex.specs.declared.coding.Named.{Named}
use Rattle.rl_pylex.specs.Bytes.{begins, is_in, is_blank, in_line, line_end}

-- Whether the byte is a space or a tab.
abbrev pub is_gap : ℕ → Bool
is_gap c = is_in " \t" c

-- Whether the byte can belong to the name of a coding: a letter, a digit, `-`, `_` or `.`.
abbrev pub in_coding : ℕ → Bool
in_coding c = is_ascii_alphanumeric c || is_in "-_." c

-- The name that follows the `coding:` or `coding=` with which the text begins, after any spaces and tabs: the longest run of
-- bytes that can belong to a name. `None` if the run is empty, or if the text doesn't begin with one of the two.
unfoldable pub named_here : List ℕ → Option Named
named_here text =
    let from = 7 + prefix_len is_gap (drop 7 text) in
    let size = prefix_len in_coding (drop from text) in
    if (begins "coding:" text || begins "coding=" text) && not (size == 0) then Some (record { from = from; size = size }) else None

-- The same name in the text with `n` more bytes in front: its place is greater by `n`. `None` gives `None`.
abbrev pub from_place : ℕ → Option Named → Option Named
from_place n None = None
from_place n (Some named) = Some (record { from = n + named.from; size = named.size })

-- The name that follows the first `coding:` or `coding=` of the text with a name after it, or `None` if there isn't one.
abbrev pub first_named : List ℕ → Option Named
first_named [] = None
first_named (c ∷ text) = option_or (named_here (c ∷ text)) (from_place 1 (first_named text))

-- The first name after a `coding:` or `coding=` in the line, if the line is only a comment: a `#` begins it, or follows
-- spaces, tabs and form feeds at its beginning. Otherwise `None`.
unfoldable pub coding_of_line : List ℕ → Option Named
coding_of_line line =
    let blanks = prefix_len is_blank line in
    if begins "#" (drop blanks line) then from_place blanks (first_named (drop blanks line)) else None

-- Whether the line is bare: it is empty except for spaces, tabs, form feeds and possibly a comment.
unfoldable pub is_bare : List ℕ → Bool
is_bare line =
    let rest = drop (prefix_len is_blank line) line in length rest == 0 || begins "#" rest

-- The first line of the text, without its line end.
abbrev pub line_of : List ℕ → List ℕ
line_of text = take_while in_line text

-- The name of the coding in the second line of the text. `None` if that line names none, or if the first line isn't bare.
unfoldable pub second_coding : List ℕ → Option Named
second_coding text =
    let first = line_of text in
    let second = length first + line_end (drop (length first) text) in
    if is_bare first then from_place second (coding_of_line (line_of (drop second text))) else None

-- The name of the coding in the first line of the text or, if that names none, in the second. `None` if neither names one.
unfoldable pub coding_of : List ℕ → Option Named
coding_of text = option_or (coding_of_line (line_of text)) (second_coding text)

-- Whether the name, in upper or lower case, is one of the six accepted names of UTF-8 and ASCII. Python's other names of them,
-- such as `u8`, `646` and `utf_8_sig`, aren't accepted.
abbrev pub is_accepted : List ℕ → Bool
is_accepted name =
    list_any (bytes_eq (str_to_ascii_lowercase name))
    (codes "utf-8" ∷ codes "utf8" ∷ codes "utf_8" ∷ codes "utf-8-sig" ∷ codes "ascii" ∷ codes "us-ascii" ∷ [])

-- The place in the text of the coding's name, if that name isn't accepted (`is_accepted`). `None` if it is accepted, or if no
-- coding is named.
unfoldable pub wrong_coding : List ℕ → Option ℕ
wrong_coding text =
    option_and_then
    (λ named. if is_accepted (take named.size (drop named.from text)) then None else Some named.from)
    (coding_of text)
