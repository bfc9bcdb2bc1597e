-- Words: what the words in a question stand for. A text is a list of bytes in UTF-8.
use Rattle.std.specs.Prelude.{ℕ, ◌==◌, Bool, true, false, List, Option, Some, None, codes, if◌then◌else◌}
use Rattle.std.specs.List.{list_any, list_all}
use Rattle.std.specs.Str.{bytes_eq}
use Rattle.rl_ranges.specs.declared.universe.Universe.{Universe}
use Rattle.rl_ranges.specs.declared.universe.Universe.TheVariants.{Str, Bytes}
use Rattle.rl_syntax.specs.declared.re.Mode.{Mode}
use Rattle.rl_syntax.specs.declared.re.Mode.TheVariants as mode
use Rattle.rl_marks.specs.declared.asked.How.{How}
use Rattle.rl_marks.specs.declared.asked.How.TheVariants as how
use Rattle.rl_pattern.specs.Codes.{is_in}
use Rattle.rl_pattern.specs.declared.flags.Flags.{Flags}
use Rattle.rl_asked.specs.declared.words.Ask.{Ask}
use Rattle.rl_asked.specs.declared.words.Ask.TheVariants as ask

-- A text, as the list of its bytes.
abbrev pub Text : Type 0
Text = List ℕ

-- The kind of question that a word names, or `None` if it names none. The word `cost` names the question about one text.
abbrev pub ask_of : Text → Option Ask
ask_of word = if bytes_eq word (codes "class") then Some ask.Class
    else (if bytes_eq word (codes "ways") then Some ask.Ways
    else (if bytes_eq word (codes "tree") then Some ask.Tree
    else (if bytes_eq word (codes "compare") then Some ask.Compare
    else (if bytes_eq word (codes "spans") then Some ask.Spans
    else (if bytes_eq word (codes "found") then Some ask.Found
    else (if bytes_eq word (codes "suggest") then Some ask.Suggest
    else (if bytes_eq word (codes "cost") then Some ask.Cost
    else (if bytes_eq word (codes "version") then Some ask.Version
    else None))))))))

-- The mode that a word names, or `None` if it names none.
abbrev pub mode_of : Text → Option Mode
mode_of word = if bytes_eq word (codes "fullmatch") then Some mode.Fullmatch
    else (if bytes_eq word (codes "match") then Some mode.Match
    else (if bytes_eq word (codes "search") then Some mode.Search
    else None))

-- How a question about spans asks, by the word of its mode, or `None` if it is no such word. By `match` and by `search` the
-- same is asked: what is found from each place of a text.
abbrev pub how_of : Text → Option How
how_of word = if bytes_eq word (codes "fullmatch") then Some how.Fullmatch
    else (if bytes_eq word (codes "match") then Some how.Match
    else (if bytes_eq word (codes "search") then Some how.Match
    else (if bytes_eq word (codes "one-search") then Some how.OneSearch
    else None)))

-- Whether the text has the letter, which is given by its code.
abbrev pub has_letter : ℕ → Text → Bool
has_letter letter text = list_any (λ c. c == letter) text

-- The flags whose letters the text has; `None` if it has a character that is the letter of no flag. A letter may be there
-- twice.
abbrev pub flags_of : Text → Option Flags
flags_of text =
    if list_all (is_in "aimsuxL") text
    then Some (record {
      ignore_case = has_letter 105 text;  -- i
      multiline = has_letter 109 text;  -- m
      dot_all = has_letter 115 text;  -- s
      verbose = has_letter 120 text;  -- x
      ascii = has_letter 97 text;  -- a
      unicode = has_letter 117 text;  -- u
      locale = has_letter 76 text;  -- L
    })
    else None

-- The codes of bytes patterns, if the flag is true, and of text patterns otherwise.
abbrev pub universe_of : Bool → Universe
universe_of true = Bytes
universe_of false = Str
