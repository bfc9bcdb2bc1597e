-- For private contracts: the reader of patterns, as a machine that takes one code at a time. What a pattern means doesn't
-- depend on it, only on the grammar. It is proved that the machine reads what the grammar spells, and that the program is this
-- machine. The answer of a construct to a code is `stops` if the code can't continue it, `goes` with the construct's next
-- state, or `ends` with its result if the code completes it. The answer of the machine is its next state, or `None` if no
-- pattern can continue with the code. The open bodies are those of the groups that aren't closed yet, and the outermost one,
-- which is the pattern's own. The open branch is the last branch of an open body. The last atom is the one that was read last
-- in the innermost open body, if a quantifier may still follow it; it isn't among the items of that body yet. Unless a
-- definition says otherwise, `c` is the code that is read, `i` its position, `a` the position at which the construct began,
-- and `b` what has been read before.
use Rattle.std.specs.Prelude.{ℕ, suc, ◌-◌, Bool, true, false, not, ◌&&◌, ◌||◌, if◌then◌else◌, List, [], ◌∷◌, ◌++◌, Option, Some, None, ◌==◌}
use Rattle.rl_pattern.specs.declared.flags.Flags.{Flags}
pub use Rattle.rl_pattern.specs.declared.lex.Answer.{Answer}
pub use Rattle.rl_pattern.specs.declared.lex.Answer.TheVariants.{Stops as stops, Goes as goes, Ends as ends}
pub use Rattle.rl_pattern.specs.declared.lex.InEscape.{InEscape}
pub use Rattle.rl_pattern.specs.declared.lex.InEscape.TheVariants.{InHex as in_hex, NameBrace as name_brace, NameBegins as name_begins, NameGoes as name_goes, InOctal as in_octal, AfterLow as after_low, AfterHigh as after_high, AfterTwo as after_two}
pub use Rattle.rl_pattern.specs.declared.lex.InSet.{InSet}
pub use Rattle.rl_pattern.specs.declared.lex.InSet.TheVariants.{SetFirst as set_first, SetNext as set_next, SetSlash as set_slash, SetEscape as set_escape, SetSide as set_side, SetDash as set_dash, DashSlash as dash_slash, DashEscape as dash_escape}
pub use Rattle.rl_pattern.specs.declared.lex.Set.{Set}
pub use Rattle.rl_pattern.specs.declared.lex.InHead.{InHead}
pub use Rattle.rl_pattern.specs.declared.lex.InHead.TheVariants.{Paren as paren, Quest as quest, AfterP as after_p, AfterLess as after_less, GroupName as group_name, GroupNameGoes as group_name_goes, ReferenceName as reference_name, ReferenceNameGoes as reference_name_goes, Asks as asks, AsksDigits as asks_digits, AsksNameGoes as asks_name_goes, LettersOn as letters_on, LettersDash as letters_dash, LettersOff as letters_off}
pub use Rattle.rl_pattern.specs.declared.lex.GroupStart.{GroupStart}
pub use Rattle.rl_pattern.specs.declared.lex.GroupStart.TheVariants.{BeginsGroup as begins_group, BeginsComment as begins_comment, IsReference as is_reference, IsFront as is_front}
use Rattle.rl_pattern.specs.Tree.{span, Count, Greed, greedy, lazy, possessive, Escaped, code, by_name, kind, reference, Member, one, range, Leaf, any, glyph, members, Kind, capturing, named, scoped, lookaround, atomic, conditional, SyntaxNode, leaf, mark, repeat, group, Branch, branch, whole_body, Front, Whole}
use Rattle.rl_pattern.specs.Codes.{code_of, is, TokenClass, sign, left, right, bar, brace, slash, dot, bracket, times, edge, blank, sharp, plain, Numeral, numeral, low_digit, high_digit, no_digit, is_digit, hex, begins_name, goes_in_name, EscapeClass, slashed, single, kinds, hexes, naming, octal, low, high, edges, no_escape, octal_code, hex_code, is_kind, GroupPrefix, headed, letter, colon, minus, letter_p, sharps, less, greater, condition, looks, no_head, on_letter, off_letter, no_flags, with_letter, joined, inside, splits, with_digit, counts, count_of}
use Rattle.rl_pattern.specs.Grammar.{outermost}

-- The answer of an escape to the code after the backslash, given what that code means. An anchor or word boundary stops it.
abbrev pub escape_first : EscapeClass → Answer InEscape Escaped
escape_first (single c) = ends (code c)
escape_first (kinds k n) = ends (kind k n)
escape_first (hexes n) = goes (in_hex n 0)
escape_first naming = goes name_brace
escape_first (octal d) = goes (in_octal 2 d)
escape_first (low d) = goes (after_low d)
escape_first high = goes after_high
escape_first (edges m) = stops
escape_first no_escape = stops

-- The answer of an escape to the next hexadecimal digit, or to a code that isn't one (`None`). `still` digits are missing,
-- including this one, and `v` is the value of those before.
abbrev pub hex_next : ℕ → ℕ → Option ℕ → Answer InEscape Escaped
hex_next still v None = stops
hex_next still v (Some d) = if still == 1 then ends (hex_code (with_digit 16 v d)) else goes (in_hex (still - 1) (with_digit 16 v d))

-- The answer of an escape to a code after octal digits with the value `v`, given its class. Up to `still` more digits may
-- follow, including this one.
abbrev pub octal_next : ℕ → ℕ → Numeral → Answer InEscape Escaped
octal_next still v (low_digit d) = if still == 1 then ends (octal_code (with_digit 8 v d)) else goes (in_octal (still - 1) (with_digit 8 v d))
octal_next still v high_digit = stops
octal_next still v no_digit = stops

-- The answer of an escape to the code after a first digit `v` from 1 to 7, given its class. After an octal digit it goes on,
-- as a third one may follow. 8 or 9 completes a reference.
abbrev pub low_next : ℕ → Numeral → Answer InEscape Escaped
low_next v (low_digit d) = goes (after_two (with_digit 8 v d))
low_next v high_digit = ends reference
low_next v no_digit = stops

-- The answer of an escape to the code after a first digit 8 or 9, given its class. A digit completes a reference.
abbrev pub high_next : Numeral → Answer InEscape Escaped
high_next (low_digit d) = ends reference
high_next high_digit = ends reference
high_next no_digit = stops

-- The answer of an escape to the code after two octal digits with the value `v`, given its class. A third octal digit
-- completes an octal escape.
abbrev pub two_next : ℕ → Numeral → Answer InEscape Escaped
two_next v (low_digit d) = ends (octal_code (with_digit 8 v d))
two_next v high_digit = stops
two_next v no_digit = stops

-- The answer of an escape in this state to the code.
abbrev pub escape_next : InEscape → ℕ → Answer InEscape Escaped
escape_next (in_hex still v) c = hex_next still v (hex c)
escape_next name_brace c = if is "{" c then goes name_begins else stops
escape_next name_begins c = if is "}" c then stops else goes name_goes
escape_next name_goes c = if is "}" c then ends by_name else goes name_goes
escape_next (in_octal still v) c = octal_next still v (numeral c)
escape_next (after_low v) c = low_next v (numeral c)
escape_next after_high c = high_next (numeral c)
escape_next (after_two v) c = two_next v (numeral c)

-- The result of an escape in this state if the next code doesn't continue it, or `None` if it is incomplete.
abbrev pub escape_rest : InEscape → Option Escaped
escape_rest (in_hex still v) = None
escape_rest name_brace = None
escape_rest name_begins = None
escape_rest name_goes = None
escape_rest (in_octal still v) = Some (octal_code v)
escape_rest (after_low v) = Some reference
escape_rest after_high = Some reference
escape_rest (after_two v) = Some reference

-- The answer of a class that continues in the state `p` and has these members so far.
abbrev pub in_set : List Member → InSet → Answer Set (List Member)
in_set ms p = goes (record { before = ms; part = p })

-- The members and one more: the side `e` from position `a` up to `j`.
abbrev pub with_one : List Member → ℕ → ℕ → Escaped → List Member
with_one ms a j e = ms ++ one (span a j) e ∷ []

-- The answer of a class to `c` as the first code of a member. `ms` has the members before it.
abbrev pub side_first : ℕ → List Member → ℕ → Answer Set (List Member)
side_first i ms c = if is "\\" c then in_set ms (set_slash i) else in_set ms (set_side i (code c))

-- The answer of a class to `c` after the members `ms`: a `]` ends the class, and any other code is the first of a further
-- member.
abbrev pub member_first : ℕ → List Member → ℕ → Answer Set (List Member)
member_first i ms c = if is "]" c then ends ms else side_first i ms c

-- The answer of a class to the code after the side `e` of a member, which began at `a`. `ms` has the members before it.
abbrev pub side_next : ℕ → List Member → ℕ → Escaped → ℕ → Answer Set (List Member)
side_next i ms a e c = if is "-" c then in_set ms (set_dash a i e) else member_first i (with_one ms a i e) c

-- The answer of a class to the code after a backslash that begins a member at `a`, given the answer of the escape.
abbrev pub escape_in_set : List Member → ℕ → Answer InEscape Escaped → Answer Set (List Member)
escape_in_set ms a stops = stops
escape_in_set ms a (goes x) = in_set ms (set_escape a x)
escape_in_set ms a (ends e) = in_set ms (set_side a e)

-- The answer of a class to a code in an escape that begins a member at `a`, given the answer of the escape. If the escape
-- stops, it may have ended before the code, with the result in the `Option`.
abbrev pub escape_set_next : ℕ → List Member → ℕ → Answer InEscape Escaped → Option Escaped → ℕ → Answer Set (List Member)
escape_set_next i ms a stops None c = stops
escape_set_next i ms a stops (Some e) c = side_next i ms a e c
escape_set_next i ms a (goes x) o c = in_set ms (set_escape a x)
escape_set_next i ms a (ends e) o c = in_set ms (set_side a e)

-- The answer of a class to the end of the range from `e` to `d`, which goes from position `a` up to `j`. Its last side `d`
-- can't be a named class.
abbrev pub range_ends : ℕ → List Member → ℕ → Escaped → Escaped → Answer Set (List Member)
range_ends j ms a e d = if is_kind d then stops else in_set (ms ++ range (span a j) e d ∷ []) set_next

-- The answer of a class to the code after a backslash that follows the side `e` and a `-`, given the answer of the escape.
abbrev pub escape_in_dash : ℕ → List Member → ℕ → Escaped → Answer InEscape Escaped → Answer Set (List Member)
escape_in_dash i ms a e stops = stops
escape_in_dash i ms a e (goes x) = in_set ms (dash_escape a e x)
escape_in_dash i ms a e (ends d) = range_ends (suc i) ms a e d

-- The answer of a class to a code in an escape that follows the side `e` and a `-`, given the answer of the escape. If the
-- escape stops, it may have ended before the code, with the result in the `Option`.
abbrev pub escape_dash_next : ℕ → List Member → ℕ → Escaped → Answer InEscape Escaped → Option Escaped → ℕ → Answer Set (List Member)
escape_dash_next i ms a e stops None c = stops
escape_dash_next i ms a e stops (Some d) c = if is_kind d then stops else member_first i (ms ++ range (span a i) e d ∷ []) c
escape_dash_next i ms a e (goes x) o c = in_set ms (dash_escape a e x)
escape_dash_next i ms a e (ends d) o c = range_ends (suc i) ms a e d

-- The answer of a class to the code after the side `e`, which began at `a`, and a `-` at position `b`. If `c` is a `]`, the
-- side and the `-` are members by themselves, and the class ends. Any other code begins the last side of a range, whose first
-- side `e` can't be a named class.
abbrev pub dash_next : ℕ → List Member → ℕ → ℕ → Escaped → ℕ → Answer Set (List Member)
dash_next i ms a b e c =
    if is "]" c then ends (with_one (with_one ms a b e) b i (code (code_of "-")))
    else (if is_kind e then stops
    else (if is "\\" c then in_set ms (dash_slash a e)
    else in_set (ms ++ range (span a (suc i)) e (code c) ∷ []) set_next))

-- The answer of a class in this state to the code. `ms` has the members before. `text` says whether the pattern is a `str`.
abbrev pub set_step : Bool → ℕ → List Member → InSet → ℕ → Answer Set (List Member)
set_step text i ms set_first c = side_first i ms c
set_step text i ms set_next c = member_first i ms c
set_step text i ms (set_slash a) c = escape_in_set ms a (escape_first (slashed text true c))
set_step text i ms (set_escape a x) c = escape_set_next i ms a (escape_next x c) (escape_rest x) c
set_step text i ms (set_side a e) c = side_next i ms a e c
set_step text i ms (set_dash a b e) c = dash_next i ms a b e c
set_step text i ms (dash_slash a e) c = escape_in_dash i ms a e (escape_first (slashed text true c))
set_step text i ms (dash_escape a e x) c = escape_dash_next i ms a e (escape_next x c) (escape_rest x) c

-- The answer of a group's head to the code after `(?`, given its class.
abbrev pub quest_next : GroupPrefix → ℕ → Answer InHead GroupStart
quest_next letter c = goes (letters_on (with_letter no_flags c))
quest_next colon c = ends (begins_group (scoped no_flags no_flags))
quest_next minus c = goes (letters_dash no_flags)
quest_next letter_p c = goes after_p
quest_next sharps c = ends begins_comment
quest_next looks c = ends (begins_group (lookaround false (is "!" c)))
quest_next less c = goes after_less
quest_next greater c = ends (begins_group atomic)
quest_next condition c = goes asks
quest_next no_head c = stops

-- The answer of a group's head to the code after `(?<`, given its class. Only `=` and `!` may follow: they begin a lookbehind.
abbrev pub after_less_next : GroupPrefix → ℕ → Answer InHead GroupStart
after_less_next looks c = ends (begins_group (lookaround true (is "!" c)))
after_less_next letter c = stops
after_less_next colon c = stops
after_less_next minus c = stops
after_less_next letter_p c = stops
after_less_next sharps c = stops
after_less_next less c = stops
after_less_next greater c = stops
after_less_next condition c = stops
after_less_next no_head c = stops

-- The answer of a group's head in this state to the code. `text` says whether the pattern is a `str`.
abbrev pub head_step : Bool → InHead → ℕ → Answer InHead GroupStart
head_step text paren c = if is "?" c then goes quest else stops
head_step text quest c = quest_next (headed c) c
head_step text after_p c = if is "<" c then goes group_name else (if is "=" c then goes reference_name else stops)
head_step text after_less c = after_less_next (headed c) c
head_step text group_name c = if begins_name text c then goes (group_name_goes (c ∷ [])) else stops
head_step text (group_name_goes n) c =
    if is ">" c then ends (begins_group (named n)) else (if goes_in_name text c then goes (group_name_goes (n ++ c ∷ [])) else stops)
head_step text reference_name c = if begins_name text c then goes reference_name_goes else stops
head_step text reference_name_goes c = if is ")" c then ends is_reference else (if goes_in_name text c then goes reference_name_goes else stops)
head_step text asks c = if is_digit c then goes asks_digits else (if begins_name text c then goes asks_name_goes else stops)
head_step text asks_digits c = if is ")" c then ends (begins_group conditional) else (if is_digit c then goes asks_digits else stops)
head_step text asks_name_goes c = if is ")" c then ends (begins_group conditional) else (if goes_in_name text c then goes asks_name_goes else stops)
head_step text (letters_on f) c =
    if is ":" c then ends (begins_group (scoped f no_flags))
    else (if is ")" c then ends (is_front f)
    else (if is "-" c then goes (letters_dash f)
    else (if on_letter c then goes (letters_on (with_letter f c)) else stops)))
head_step text (letters_dash f) c = if off_letter c then goes (letters_off f (with_letter no_flags c)) else stops
head_step text (letters_off f g) c =
    if is ":" c then ends (begins_group (scoped f g)) else (if off_letter c then goes (letters_off f (with_letter g c)) else stops)

-- A body that is still open: the flags in it, the kind of its group, the positions of its parenthesis, of its start and of
-- its open branch, the branches before that one, and the items of the open branch.
pub record Frame : Type 0 where
  pub flags : Flags
  pub kind : Kind
  pub opened : ℕ
  pub start : ℕ
  pub from : ℕ
  pub branches : List Branch
  pub items : List SyntaxNode

-- The last atom with the position at which it begins, if it may still take a quantifier.
pub data Last : Type 0 where
  nothing_yet : Last
  an_atom : ℕ → SyntaxNode → Last

-- What has been read, apart from what the machine is in the middle of: the innermost open body, its last atom, the other open
-- bodies from the innermost to the outermost, and the flag groups at the front.
pub record Base : Type 0 where
  pub top : Frame
  pub last : Last
  pub below : List Frame
  pub fronts : List Front

-- What the machine is in the middle of: nothing (`between` items), a `#` comment (`line`), a `(?#` comment (`comment`), a
-- brace with the digits and commas after it, an atom with its count, an escape (`at_slash` right after the backslash), the
-- head of a group, or a class (`set_open` right after the bracket). Except for the first three, the first number is the
-- position at which it began. The flag of a class says whether it begins with `^`.
pub data Lex : Type 0 where
  between line comment : Lex
  in_braces : ℕ → List ℕ → Lex
  -- After an atom and a quantifier. The second position is the quantifier's.
  counted : ℕ → SyntaxNode → ℕ → Count → Lex
  at_slash : ℕ → Lex
  in_escape : ℕ → InEscape → Lex
  in_head : ℕ → InHead → Lex
  set_open : ℕ → Lex
  in_class : ℕ → Bool → Set → Lex

-- The state of the machine: what it has read, and what it is in the middle of.
pub record State : Type 0 where
  pub base : Base
  pub lex : Lex

-- The state in which `b` has been read and the machine is in the middle of `x`.
abbrev pub at : Base → Lex → State
at b x = record { base = b; lex = x }

-- The items with the last atom added, if there is one.
abbrev pub settled : List SyntaxNode → Last → List SyntaxNode
settled ps nothing_yet = ps
settled ps (an_atom a p) = ps ++ p ∷ []

-- What has been read, with the items `ps` in the open branch of the innermost body and `l` as the last atom.
abbrev pub put_last : Base → List SyntaxNode → Last → Base
put_last b ps l = record b { top = record b.top { items = ps }; last = l }

-- What has been read, with an atom added that began at `a`. It becomes the last atom.
abbrev pub put : Base → ℕ → SyntaxNode → Base
put b a p = put_last b (settled b.top.items b.last) (an_atom a p)

-- What has been read, with an item added that takes no quantifier.
abbrev pub put_item : Base → SyntaxNode → Base
put_item b p = put_last b (settled b.top.items b.last ++ p ∷ []) nothing_yet

-- What has been read, with a leaf from `a` up to `j` added as the last atom.
abbrev pub put_leaf : Base → ℕ → ℕ → Leaf → Base
put_leaf b a j x = put b a (leaf (span a j) b.top.flags x)

-- What has been read, with the literal `c` at position `i` added as the last atom.
abbrev pub put_code : Base → ℕ → ℕ → Base
put_code b i c = put_leaf b i (suc i) (glyph (code c))

-- What has been read, with a literal added for each code. The first one is at position `i`.
abbrev pub put_codes : Base → ℕ → List ℕ → Base
put_codes b i [] = b
put_codes b i (c ∷ cs) = put_codes (put_code b i c) (suc i) cs

-- What has been read, with the brace at `a` and the text after it added as literals, because they are no repeat count.
abbrev pub no_count : Base → ℕ → List ℕ → Base
no_count b a t = put_codes (put_code b a (code_of "{")) (suc a) t

-- What has been read, with the atom `p`, which began at `a`, and its quantifier from `q` up to `j` added.
abbrev pub put_repeat : Base → ℕ → SyntaxNode → ℕ → ℕ → Count → Greed → Base
put_repeat b a p q j n g = put_item b (repeat (span a j) (span q j) n g p)

-- The answer of the machine to a quantifier with the count `n` that begins at `q`. It is `None` if there is no last atom,
-- since a quantifier needs one.
abbrev pub count_last : Base → ℕ → Count → Last → Option State
count_last b q n nothing_yet = None
count_last b q n (an_atom a p) = Some (at (record b { last = nothing_yet }) (counted a p q n))

-- All branches of the innermost open body: the earlier ones, and the open one up to position `i`.
abbrev pub all_branches : Base → ℕ → List Branch
all_branches b i = b.top.branches ++ branch (span b.top.from i) (settled b.top.items b.last) ∷ []

-- What has been read, with these branches in the innermost open body, and a new open branch that begins at `j` and has no
-- items.
abbrev pub next_branch : Base → ℕ → List Branch → Base
next_branch b j bs = record b { top = record b.top { from = j; branches = bs; items = [] }; last = nothing_yet }

-- The answer of the machine to a `|` at position `i`: the open branch ends and another one begins. It is `None` if the
-- innermost open body can't have another branch, which is so in a conditional with two branches.
abbrev pub split : Base → ℕ → Option State
split b i = if splits b.top.kind (all_branches b i) then Some (at (next_branch b (suc i) (all_branches b i)) between) else None

-- What has been read, with a group opened whose parenthesis is at `a` and whose body begins at `j`.
abbrev pub open_group : Base → ℕ → ℕ → Kind → Base
open_group b a j k =
    record b {
      top = record { flags = inside k b.top.flags; kind = k; opened = a; start = j; from = j; branches = []; items = [] };
      last = nothing_yet;
      below = record b.top { items = settled b.top.items b.last } ∷ b.below;
    }

-- The innermost open body as a node, if it ends at position `i`.
abbrev pub body_up_to : Base → ℕ → SyntaxNode
body_up_to b i = whole_body (span b.top.start i) (all_branches b i)

-- The answer of the machine to a `)` at position `i`. The list has the open bodies around the innermost one, from the
-- innermost to the outermost. The `)` closes the innermost body: its group becomes the last atom of the first body of the
-- list, which is then the innermost one. `None` if the list is empty, because then no group is open.
abbrev pub close : Base → ℕ → List Frame → Option State
close b i [] = None
close b i (f ∷ fs) =
    Some (at (record { top = f; last = an_atom b.top.opened (group (span b.top.opened (suc i)) b.top.kind (body_up_to b i)); below = fs; fronts = b.fronts }) between)

-- Whether the list is empty.
abbrev pub is_nil {ℓ} : {A : Type ℓ} → List A → Bool
is_nil [] = true
is_nil (x ∷ xs) = false

-- Whether there is no last atom.
abbrev pub is_settled : Last → Bool
is_settled nothing_yet = true
is_settled (an_atom a p) = false

-- Whether a flag group that begins at `a` is at the front of the pattern: only flag groups and ignored text were read
-- before, and nothing before the first flag group.
abbrev pub at_front : Base → ℕ → Bool
at_front b a =
    is_nil b.below && (is_nil b.top.branches && (is_nil b.top.items && (is_settled b.last && (a == 0 || not (is_nil b.fronts)))))

-- The answer of the machine to a flag group with the letters `f` from `a` up to `j`. It is `None` if the group isn't at the
-- front.
abbrev pub put_front : Base → ℕ → ℕ → Flags → Option State
put_front b a j f =
    if at_front b a
    then Some (at (record b { top = record b.top { flags = joined b.top.flags f; start = j; from = j }; fronts = b.fronts ++ record { place = span a j; letters = f } ∷ [] }) between)
    else None

-- The answer of the machine to the end of a group's head from `a` up to `j`, given what the head begins.
abbrev pub begin : Base → ℕ → ℕ → GroupStart → Option State
begin b a j (begins_group k) = Some (at (open_group b a j k) between)
begin b a j begins_comment = Some (at b comment)
begin b a j is_reference = Some (at (put_leaf b a j (glyph reference)) between)
begin b a j (is_front f) = put_front b a j f

-- The answer of the machine to the white space or `#` between items. Under VERBOSE it is ignored, and `x` is what the machine
-- is in the middle of afterwards. Otherwise it is a literal.
abbrev pub pass_or_put : Base → ℕ → ℕ → Lex → Option State
pass_or_put b i c x = if b.top.flags.verbose then Some (at b x) else Some (at (put_code b i c) between)

-- The answer of the machine to the code between items, given its class.
abbrev pub by_sign : ℕ → Base → ℕ → TokenClass → Option State
by_sign i b c left = Some (at b (in_head i paren))
by_sign i b c right = close b i b.below
by_sign i b c bar = split b i
by_sign i b c brace = Some (at b (in_braces i []))
by_sign i b c slash = Some (at b (at_slash i))
by_sign i b c dot = Some (at (put_leaf b i (suc i) any) between)
by_sign i b c bracket = Some (at b (set_open i))
by_sign i b c (times n) = count_last b i n b.last
by_sign i b c (edge m) = Some (at (put_item b (mark (span i (suc i)) b.top.flags m)) between)
by_sign i b c blank = pass_or_put b i c between
by_sign i b c sharp = pass_or_put b i c line
by_sign i b c plain = Some (at (put_code b i c) between)

-- The answer of the machine to the code between items.
abbrev pub go_on : ℕ → Base → ℕ → Option State
go_on i b c = by_sign i b c (sign c)

-- The answer of the machine to the `}` at position `i` that follows a brace at `a` and the text `t`, given the count that the
-- text spells, or `None` if it spells none.
abbrev pub end_braces : ℕ → Base → ℕ → List ℕ → Option Count → Option State
end_braces i b a t None = Some (at (put_code (no_count b a t) i (code_of "}")) between)
end_braces i b a t (Some n) = count_last b a n b.last

-- The answer of the machine to the code after a brace at `a` and the text `t`.
abbrev pub braces_step : ℕ → Base → ℕ → List ℕ → ℕ → Option State
braces_step i b a t c =
    if is "}" c then end_braces i b a t (count_of t)
    else (if counts c then Some (at b (in_braces a (t ++ c ∷ []))) else go_on i (no_count b a t) c)

-- The answer of the machine to the code after the atom `p` from `a` and the quantifier from `q`.
abbrev pub counted_step : ℕ → Base → ℕ → SyntaxNode → ℕ → Count → ℕ → Option State
counted_step i b a p q n c =
    if is "?" c then Some (at (put_repeat b a p q (suc i) n lazy) between)
    else (if is "+" c then Some (at (put_repeat b a p q (suc i) n possessive) between)
    else go_on i (put_repeat b a p q i n greedy) c)

-- The answer of the machine to the code after a backslash at `a`, given the answer of the escape.
abbrev pub escape_begins : ℕ → Base → ℕ → Answer InEscape Escaped → Option State
escape_begins i b a stops = None
escape_begins i b a (goes x) = Some (at b (in_escape a x))
escape_begins i b a (ends e) = Some (at (put_leaf b a (suc i) (glyph e)) between)

-- The answer of the machine to the code after a backslash at `a`, given what that code means.
abbrev pub slash_step : ℕ → Base → ℕ → EscapeClass → Option State
slash_step i b a (edges m) = Some (at (put_item b (mark (span a (suc i)) b.top.flags m)) between)
slash_step i b a (single c) = escape_begins i b a (escape_first (single c))
slash_step i b a (kinds k n) = escape_begins i b a (escape_first (kinds k n))
slash_step i b a (hexes n) = escape_begins i b a (escape_first (hexes n))
slash_step i b a naming = escape_begins i b a (escape_first naming)
slash_step i b a (octal d) = escape_begins i b a (escape_first (octal d))
slash_step i b a (low d) = escape_begins i b a (escape_first (low d))
slash_step i b a high = escape_begins i b a (escape_first high)
slash_step i b a no_escape = None

-- The answer of the machine to a code in an escape that began at `a`, given the answer of the escape. If the escape stops, it
-- may have ended before the code, with the result in the `Option`.
abbrev pub escape_step : ℕ → Base → ℕ → Answer InEscape Escaped → Option Escaped → ℕ → Option State
escape_step i b a stops None c = None
escape_step i b a stops (Some e) c = go_on i (put_leaf b a i (glyph e)) c
escape_step i b a (goes x) o c = Some (at b (in_escape a x))
escape_step i b a (ends e) o c = Some (at (put_leaf b a (suc i) (glyph e)) between)

-- Whether only the parenthesis of a group's head in this state has been read.
abbrev pub behind_paren : InHead → Bool
behind_paren paren = true
behind_paren quest = false
behind_paren after_p = false
behind_paren after_less = false
behind_paren group_name = false
behind_paren (group_name_goes n) = false
behind_paren reference_name = false
behind_paren reference_name_goes = false
behind_paren asks = false
behind_paren asks_digits = false
behind_paren asks_name_goes = false
behind_paren (letters_on f) = false
behind_paren (letters_dash f) = false
behind_paren (letters_off f g) = false

-- The answer of the machine to a code that doesn't continue a group's head. If only the parenthesis was read (`true`), it
-- opens a capturing group, and then the code is read. Otherwise there is no next state.
abbrev pub head_stops : ℕ → Base → ℕ → Bool → ℕ → Option State
head_stops i b a true c = go_on i (open_group b a i capturing) c
head_stops i b a false c = None

-- The answer of the machine to a code in a group's head that began at `a`, given the answer of the head.
abbrev pub head_answer : ℕ → Base → ℕ → InHead → Answer InHead GroupStart → ℕ → Option State
head_answer i b a h stops c = head_stops i b a (behind_paren h) c
head_answer i b a h (goes h') c = Some (at b (in_head a h'))
head_answer i b a h (ends o) c = begin b a (suc i) o

-- The answer of the machine to a code in a class that began at `a`, given the answer of the class.
abbrev pub set_answer : ℕ → Base → ℕ → Bool → Answer Set (List Member) → Option State
set_answer i b a inverse stops = None
set_answer i b a inverse (goes s) = Some (at b (in_class a inverse s))
set_answer i b a inverse (ends ms) = Some (at (put_leaf b a (suc i) (members inverse ms)) between)

-- The answer of the machine to the code after the bracket of a class at `a`.
abbrev pub set_opens : Bool → ℕ → Base → ℕ → ℕ → Option State
set_opens text i b a c =
    if is "^" c then Some (at b (in_class a true (record { before = []; part = set_first })))
    else set_answer i b a false (set_step text i [] set_first c)

-- The answer of the machine to the code, given what has been read and what it is in the middle of. `text` says whether the
-- pattern is a `str`.
abbrev pub step : Bool → ℕ → Base → Lex → ℕ → Option State
step text i b between c = go_on i b c
step text i b line c = if is "\n" c then Some (at b between) else Some (at b line)
step text i b comment c = if is ")" c then Some (at b between) else Some (at b comment)
step text i b (in_braces a t) c = braces_step i b a t c
step text i b (counted a p q n) c = counted_step i b a p q n c
step text i b (at_slash a) c = slash_step i b a (slashed text false c)
step text i b (in_escape a x) c = escape_step i b a (escape_next x c) (escape_rest x) c
step text i b (in_head a h) c = head_answer i b a h (head_step text h c) c
step text i b (set_open a) c = set_opens text i b a c
step text i b (in_class a inverse s) c = set_answer i b a inverse (set_step text i s.before s.part c)

-- The answer of the machine in this state to the code.
abbrev pub step_at : Bool → ℕ → State → ℕ → Option State
step_at text i s c = step text i s.base s.lex c

-- The state after reading these codes, of which the first is at position `i`, from the given state on. It is `None` if no
-- state is given or if no pattern can continue with one of the codes. `text` says whether the pattern is a `str`.
abbrev pub run : Bool → ℕ → Option State → List ℕ → Option State
run text i None cs = None
run text i (Some s) [] = Some s
run text i (Some s) (c ∷ cs) = run text (suc i) (step_at text i s c) cs

-- The function's result for the value, or `None` if there is no value.
abbrev pub and_then : {A B : Type 0} → Option A → (A → Option B) → Option B
and_then None f = None
and_then (Some a) f = f a

-- The result of `ask` after reading these codes, of which the first is at position `i`, from the given state on. It is `None`
-- if no state is given or if no pattern can continue with one of the codes. `ask` gets the position and the state at their
-- end.
abbrev pub observe : {X : Type 0} → Bool → (ℕ → State → Option X) → ℕ → Option State → List ℕ → Option X
observe text ask i None cs = None
observe text ask i (Some s) [] = ask i s
observe text ask i (Some s) (c ∷ cs) = observe text ask (suc i) (step_at text i s c) cs

-- The whole pattern if it ends at position `k` between items, or `None` if a group is open, given the open bodies around the
-- innermost one.
abbrev pub finish_below : ℕ → Base → List Frame → Option Whole
finish_below k b [] = Some (record { fronts = b.fronts; place = span b.top.start k; body = body_up_to b k })
finish_below k b (f ∷ fs) = None

-- The whole pattern if it ends at position `k` between items, or `None` if a group is open.
abbrev pub finish : ℕ → Base → Option Whole
finish k b = finish_below k b b.below

-- The whole pattern if it ends at position `k` in an escape that began at `a`, given the result of the escape so far. It is
-- `None` if the escape is incomplete or a group is open.
abbrev pub finish_escape : ℕ → Base → ℕ → Option Escaped → Option Whole
finish_escape k b a None = None
finish_escape k b a (Some e) = finish k (put_leaf b a k (glyph e))

-- The whole pattern if it ends at position `k` in the middle of this construct, or `None` if it can't end there.
abbrev pub finish_lex : ℕ → Base → Lex → Option Whole
finish_lex k b between = finish k b
finish_lex k b line = finish k b
finish_lex k b comment = None
finish_lex k b (in_braces a t) = finish k (no_count b a t)
finish_lex k b (counted a p q n) = finish k (put_repeat b a p q k n greedy)
finish_lex k b (at_slash a) = None
finish_lex k b (in_escape a x) = finish_escape k b a (escape_rest x)
finish_lex k b (in_head a h) = None
finish_lex k b (set_open a) = None
finish_lex k b (in_class a inverse s) = None

-- The whole pattern if it ends at position `k` in this state, or `None` if it can't end there.
abbrev pub finish_at : ℕ → State → Option Whole
finish_at k s = finish_lex k s.base s.lex

-- The state before the first code. `call` has the flags of the call.
abbrev pub start : Flags → State
start call =
    at (record { top = record { flags = call; kind = outermost; opened = 0; start = 0; from = 0; branches = []; items = [] }; last = nothing_yet; below = []; fronts = [] }) between

-- The whole pattern that the machine reads from the codes `w`, or `None` if they aren't a pattern. `call` has the flags of the
-- call, and `text` says whether the codes are a `str`.
abbrev pub reads : Flags → Bool → List ℕ → Option Whole
reads call text w = observe text finish_at 0 (Some (start call)) w
