-- The grammar of patterns, in the notation of the Python manual. Further conditions of a rule, for example that no "?"
-- follows the "(" of a capturing group, are at its case below. `Codes.antt` says which codes are literals, blanks, digits
-- or parts of a name, and what a code means after a backslash.
--
--     pattern:     [flag_group (ignored* flag_group)*] branches
--     flag_group:  "(?" flag+ ")"
--     branches:    branch ("|" branch)*                        (in a conditional at most two)
--     branch:      (item | ignored)*
--     item:        atom | atom ignored* quantifier | "^" | "$" | "\A" | "\Z" | "\b" | "\B"
--     atom:        literal | "{" | "." | escape | "(?P=" name ")" | class | opening branches ")"
--     opening:     "(" | "(?P<" name ">" | "(?:" | "(?" flag+ ":" | "(?" flag+ "-" off_flag+ ":" | "(?-" off_flag+ ":"
--                  | "(?=" | "(?!" | "(?<=" | "(?<!" | "(?>" | "(?(" digit+ ")" | "(?(" name ")"
--     quantifier:  count | count "?" | count "+"
--     count:       "*" | "+" | "?" | braces
--     braces:      "{" digit+ "}" | "{" digit+ ",}" | "{," digit+ "}" | "{" digit+ "," digit+ "}" | "{,}"
--     ignored:     blank | "#" (any code except LF)* (LF | end of the codes)     (these two only under VERBOSE)
--                  | "(?#" (any code except ")")* ")"
--     class:       "[" ["^"] member+ "]"
--     member:      side | side "-" side
--     side:        any code except "\" | escape
--     escape:      "\" (any code except an ASCII letter or digit) | "\" ("a" | "f" | "n" | "r" | "t" | "v")
--                  | "\" ("d" | "D" | "s" | "S" | "w" | "W")
--                  | "\x" hex{2} | "\u" hex{4} | "\U" hex{8} | "\N{" (any code except "}")+ "}"
--                  | "\0" octal{0,2} | "\" (1 to 7) octal{2} | "\" (1 to 9) [digit]
--                  (in a class "\b" too, and "\" octal{1,3} for the last three)
--     name:        name_start name_code*
--     flag:        "a" | "i" | "L" | "m" | "s" | "u" | "x"
--     off_flag:    "i" | "m" | "s" | "x"
--
-- The definitions below say the same as a relation over the positions of one list of codes. For example, `Atom fl i j p`
-- says that the codes from `i` up to `j` are the atom `p` under the flags `fl`. Positions count from 0, and `up to` excludes
-- the code at `j`. At each case, `Form` gives the alternative of its rule.
use Prim.Native.String.{String}
use Rattle.std.specs.Prelude.{◌≡◌, ◌≢◌, ◌⊎◌, ℕ, suc, ◌<◌, Bool, true, false, List, [], ◌∷◌, ◌++◌, length, Some, slice_get, codes}
use Rattle.rl_pattern.specs.declared.flags.Flags.{Flags}
use Rattle.rl_pattern.specs.Tree.{span, Named, Count, Greed, greedy, lazy, possessive, Escaped, code, by_name, kind, reference, Member, one, range, any, glyph, members, Kind, capturing, named, scoped, lookaround, atomic, conditional, Assertion, SyntaxNode, leaf, mark, repeat, group, Branch, branch, whole_body, Front, Whole}
use Rattle.rl_pattern.specs.Codes.{code_of, is, sign, blank, sharp, plain, times, edge, numeral, low_digit, is_digit, hex, begins_name, goes_in_name, slashed, single, kinds, hexes, naming, octal, low, high, edges, EscapeClass, octal_code, hex_code, is_kind, headed, looks, on_letter, off_letter, no_flags, with_letter, joined, inside, splits, with_digit, counts, count_of}

-- Holds if the code is a literal between items under the flags `fl`: it is plain, or it is white space or `#` without VERBOSE.
abbrev pub is_literal : Flags → ℕ → Type 0
is_literal fl c = (sign c ≡ plain) ⊎ ((sign c ≡ blank) ⊎ (sign c ≡ sharp)) × (fl.verbose ≡ false)

-- The kind of the outermost body. It is the kind of a group `(?:..)`.
abbrev pub outermost : Kind
outermost = scoped no_flags no_flags

-- Holds if `s` is `low d`, for any `d`, or `high`. Outside a class, `slashed` gives `low d` for the digit `d` from 1 to 7
-- after a backslash, and `high` for 8 and 9. Such a digit begins a reference to a group or, if it isn't 8 or 9, possibly three
-- octal digits.
abbrev pub Refers : EscapeClass → Type 0
Refers s = ((d : ℕ) × (s ≡ low d)) ⊎ (s ≡ high)

-- The position after the codes of the list if they begin at position `i`, that is, `i` plus the length of the list.
abbrev pub places_on : ℕ → List ℕ → ℕ
places_on i [] = i
places_on i (c ∷ cs) = places_on (suc i) cs

-- The position after the characters of `word` if they begin at position `i`.
abbrev pub behind : ℕ → String → ℕ
behind i word = places_on i (codes word)

-- In a list of codes `w`, of `str` if `text` is `true` and of `bytes` otherwise.
module _ (text : Bool) (w : List ℕ) where
  -- Holds if the code at position `i` is `c`.
  abbrev pub At : ℕ → ℕ → Type 0
  At i c = slice_get w i ≡ Some c

  -- Holds if the codes of the list follow each other in `w` from position `i` on. It always holds for the empty list.
  abbrev pub AllAt : ℕ → List ℕ → Type 0
  AllAt i [] = Unit {0}
  AllAt i (c ∷ []) = At i c
  AllAt i (c ∷ d ∷ cs) = At i c × AllAt (suc i) (d ∷ cs)

  -- Holds if the characters of `word` follow each other in `w` from position `i` on.
  abbrev pub SpelledAt : ℕ → String → Type 0
  SpelledAt i word = AllAt i (codes word)

  -- Holds if the codes from `i` up to `j` all lie in `w` and none of them is `stop`. It holds for any `i` if `j` is `i`.
  pub data Without (stop : ℕ) : ℕ → ℕ → Type 0 where
    no_code : {i : ℕ} → Without stop i i
    one_code : {i j c : ℕ} → Without stop i j → At j c → c ≢ stop → Without stop i (suc j)

  -- The rule hex{n}. `Hexes i j n v` holds if the codes from `i` up to `j` are `n` hexadecimal digits with the value `v`.
  pub data Hexes : ℕ → ℕ → ℕ → ℕ → Type 0 where
    no_hex : {i : ℕ} → Hexes i i 0 0
    one_hex : {i j n v c d : ℕ} → Hexes i j n v → At j c → hex c ≡ Some d → Hexes i (suc j) (suc n) (with_digit 16 v d)

  -- The rule octal{n}. `Octals first i j n v` holds if the codes from `i` up to `j` are `n` octal digits and have the value
  -- `v` together with the digit `first` before them.
  pub data Octals (first : ℕ) : ℕ → ℕ → ℕ → ℕ → Type 0 where
    no_octal : {i : ℕ} → Octals first i i 0 first
    one_octal : {i j n v c d : ℕ} → Octals first i j n v → At j c → numeral c ≡ low_digit d → Octals first i (suc j) (suc n) (with_digit 8 v d)

  -- Holds if the code at position `j` is an octal digit.
  abbrev pub OctalAt : ℕ → Type 0
  OctalAt j = (c : ℕ) × (d : ℕ) × At j c × (numeral c ≡ low_digit d)

  -- Holds if the code at position `j` is a digit.
  abbrev pub DigitAt : ℕ → Type 0
  DigitAt j = (c : ℕ) × At j c × (is_digit c ≡ true)

  -- The rule digit+. `Digits i j` holds if the codes from `i` up to `j` are one or more digits.
  pub data Digits : ℕ → ℕ → Type 0 where
    -- Form: digit
    one_digit : {i c : ℕ} → At i c → is_digit c ≡ true → Digits i (suc i)
    -- Form: digit+ digit
    next_digit : {i j c : ℕ} → Digits i j → At j c → is_digit c ≡ true → Digits i (suc j)

  -- The rule `name`. `Name i j n` holds if the codes from `i` up to `j` are the name `n`.
  pub data Name : ℕ → ℕ → List ℕ → Type 0 where
    -- Form: name_start
    first_code : {i c : ℕ} → At i c → begins_name text c ≡ true → Name i (suc i) (c ∷ [])
    -- Form: name_start name_code* name_code
    next_code : {i j c : ℕ} {n : List ℕ} → Name i j n → At j c → goes_in_name text c ≡ true → Name i (suc j) (n ++ c ∷ [])

  -- Holds if there is a backslash at position `i`, and the code after it has the meaning `s` there. `in_class` says whether
  -- the escape is in a class.
  abbrev pub Slash : Bool → ℕ → EscapeClass → Type 0
  Slash in_class i s = (c : ℕ) × SpelledAt i "\\" × At (suc i) c × (slashed text in_class c ≡ s)

  -- Holds if there is a backslash at position `i` and then three octal digits, of which the first isn't 0. `in_class` says
  -- whether the escape is in a class. In a class it never holds.
  abbrev pub ThreeOctals : Bool → ℕ → Type 0
  ThreeOctals in_class i = (d : ℕ) × (v : ℕ) × Slash in_class i (low d) × Octals d (suc (suc i)) (suc (suc (suc (suc i)))) 2 v

  -- The rule `escape`. `Escape in_class i j e` holds if the codes from `i` up to `j` are an escape that means `e`. `in_class`
  -- says whether it is in a class.
  pub data Escape (in_class : Bool) : ℕ → ℕ → Escaped → Type 0 where
    -- Form: "\" (any code except an ASCII letter or digit), "\" ("a" | "f" | "n" | "r" | "t" | "v"), and in a class "\b"
    escape_single : {i c : ℕ} → Slash in_class i (single c) → Escape in_class i (suc (suc i)) (code c)
    -- Form: "\" ("d" | "D" | "s" | "S" | "w" | "W")
    escape_kind : {i : ℕ} {k : Named} {n : Bool} → Slash in_class i (kinds k n) → Escape in_class i (suc (suc i)) (kind k n)
    -- Form: "\x" hex{2}, and in a `str` "\u" hex{4} and "\U" hex{8}
    escape_hex : {i j n v : ℕ} → Slash in_class i (hexes n) → Hexes (suc (suc i)) j n v → Escape in_class i j (hex_code v)
    -- Form: "\N{" (any code except "}")+ "}", in a `str`
    escape_name : {i j c : ℕ} → Slash in_class i naming → SpelledAt (behind i "\\N") "{" → At (behind i "\\N{") c → c ≢ code_of "}" → Without (code_of "}") (suc (behind i "\\N{")) j → SpelledAt j "}" → Escape in_class i (suc j) by_name
    -- Form: "\0" octal{0,2}, and in a class "\" octal{1,3}: takes all octal digits there are, up to three
    escape_octal : {i j d n v : ℕ} → Slash in_class i (octal d) → Octals d (suc (suc i)) j n v → (n ≡ 2) ⊎ (n < 2) × ¬ OctalAt j → Escape in_class i j (octal_code v)
    -- Form: "\" (1 to 7) octal{2}
    escape_three : {i j d v : ℕ} → Slash in_class i (low d) → Octals d (suc (suc i)) j 2 v → Escape in_class i j (octal_code v)
    -- Form: "\" (1 to 9), if no digit follows
    reference_one : {i : ℕ} {s : EscapeClass} → Slash in_class i s → Refers s → ¬ DigitAt (suc (suc i)) → Escape in_class i (suc (suc i)) reference
    -- Form: "\" (1 to 9) digit, unless these begin three octal digits
    reference_two : {i : ℕ} {s : EscapeClass} → Slash in_class i s → Refers s → DigitAt (suc (suc i)) → ¬ ThreeOctals in_class i → Escape in_class i (suc (suc (suc i))) reference

  -- The rule `side`. `Side i j e` holds if the codes from `i` up to `j` are a character or an escape that means `e`, as one
  -- side of a class member.
  pub data Side : ℕ → ℕ → Escaped → Type 0 where
    -- Form: any code except "\"
    plain_side : {i c : ℕ} → At i c → c ≢ code_of "\\" → Side i (suc i) (code c)
    -- Form: escape
    escaped_side : {i j : ℕ} {e : Escaped} → Escape true i j e → Side i j e

  -- Holds if there is a `-` at position `j` that joins the side before it with what follows. It doesn't if a `]` or the end of
  -- the codes follows it directly.
  abbrev pub Joins : ℕ → Type 0
  Joins j = (c : ℕ) × SpelledAt j "-" × At (suc j) c × (c ≢ code_of "]")

  -- The rule `member`. `IsMember first i j m` holds if the codes from `i` up to `j` are the class member `m`. `first` says
  -- whether it is the first member, the only one that may begin with a `]`.
  pub data IsMember (first : Bool) : ℕ → ℕ → Member → Type 0 where
    -- Form: side, if no "-" joins it with what follows
    is_one : {i j : ℕ} {e : Escaped} → Side i j e → (first ≡ false → ¬ SpelledAt i "]") → ¬ Joins j → IsMember first i j (one (span i j) e)
    -- Form: side "-" side, if neither side is a named class
    is_range : {i j k : ℕ} {e d : Escaped} → Side i j e → (first ≡ false → ¬ SpelledAt i "]") → is_kind e ≡ false → Joins j → Side (suc j) k d → is_kind d ≡ false → IsMember first i k (range (span i k) e d)

  -- The rule member+. `Members i j ms` holds if the codes from `i` up to `j` are the class members `ms`, of which there is at
  -- least one.
  pub data Members : ℕ → ℕ → List Member → Type 0 where
    -- Form: member
    first_member : {i j : ℕ} {m : Member} → IsMember true i j m → Members i j (m ∷ [])
    -- Form: member+ member
    next_member : {i j k : ℕ} {ms : List Member} {m : Member} → Members i j ms → IsMember false j k m → Members i k (ms ++ m ∷ [])

  -- The head of a class: `[`, and `^` if there is one. `SetHead i j inverse` holds if the codes from `i` up to `j` are a head,
  -- and `inverse` says whether it has a `^`.
  pub data SetHead : ℕ → ℕ → Bool → Type 0 where
    -- Form: "[", if no "^" follows
    upright : {i : ℕ} → SpelledAt i "[" → ¬ SpelledAt (suc i) "^" → SetHead i (suc i) false
    -- Form: "[^"
    inverted : {i : ℕ} → SpelledAt i "[^" → SetHead i (behind i "[^") true

  -- The rules flag+ and off_flag+. `Letters test i j f` holds if the codes from `i` up to `j` are one or more letters that
  -- satisfy `test`, and their flags are `f`.
  pub data Letters (test : ℕ → Bool) : ℕ → ℕ → Flags → Type 0 where
    -- Form: flag
    first_letter : {i c : ℕ} → At i c → test c ≡ true → Letters test i (suc i) (with_letter no_flags c)
    -- Form: flag+ flag
    next_letter : {i j c : ℕ} {f : Flags} → Letters test i j f → At j c → test c ≡ true → Letters test i (suc j) (with_letter f c)

  -- The rule `opening`. `Opening i j kd` holds if the codes from `i` up to `j` open a group of the kind `kd`: they go from its
  -- parenthesis up to its body.
  pub data Opening : ℕ → ℕ → Kind → Type 0 where
    -- Form: "(", if no "?" follows
    captures : {i c : ℕ} → SpelledAt i "(" → At (suc i) c → c ≢ code_of "?" → Opening i (suc i) capturing
    -- Form: "(?P<" name ">"
    captures_named : {i j : ℕ} {n : List ℕ} → SpelledAt i "(?P<" → Name (behind i "(?P<") j n → SpelledAt j ">" → Opening i (suc j) (named n)
    -- Form: "(?:"
    groups : {i : ℕ} → SpelledAt i "(?:" → Opening i (behind i "(?:") (scoped no_flags no_flags)
    -- Form: "(?" flag+ ":"
    groups_on : {i j : ℕ} {f : Flags} → SpelledAt i "(?" → Letters on_letter (behind i "(?") j f → SpelledAt j ":" → Opening i (suc j) (scoped f no_flags)
    -- Form: "(?" flag+ "-" off_flag+ ":"
    groups_both : {i j k : ℕ} {f g : Flags} → SpelledAt i "(?" → Letters on_letter (behind i "(?") j f → SpelledAt j "-" → Letters off_letter (suc j) k g → SpelledAt k ":" → Opening i (suc k) (scoped f g)
    -- Form: "(?-" off_flag+ ":"
    groups_off : {i k : ℕ} {g : Flags} → SpelledAt i "(?-" → Letters off_letter (behind i "(?-") k g → SpelledAt k ":" → Opening i (suc k) (scoped no_flags g)
    -- Form: "(?=" or "(?!"
    looks_ahead : {i c : ℕ} → SpelledAt i "(?" → At (behind i "(?") c → headed c ≡ looks → Opening i (suc (behind i "(?")) (lookaround false (is "!" c))
    -- Form: "(?<=" or "(?<!"
    looks_behind : {i c : ℕ} → SpelledAt i "(?<" → At (behind i "(?<") c → headed c ≡ looks → Opening i (suc (behind i "(?<")) (lookaround true (is "!" c))
    -- Form: "(?>"
    cuts : {i : ℕ} → SpelledAt i "(?>" → Opening i (behind i "(?>") atomic
    -- Form: "(?(" digit+ ")"
    asks_number : {i j : ℕ} → SpelledAt i "(?(" → Digits (behind i "(?(") j → SpelledAt j ")" → Opening i (suc j) conditional
    -- Form: "(?(" name ")"
    asks_name : {i j : ℕ} {n : List ℕ} → SpelledAt i "(?(" → Name (behind i "(?(") j n → SpelledAt j ")" → Opening i (suc j) conditional

  -- The text of a repeat count. `Text i j t` holds if the codes from `i` up to `j` are the digits and commas `t`, of which
  -- there may be none.
  pub data Text : ℕ → ℕ → List ℕ → Type 0 where
    no_text : {i : ℕ} → Text i i []
    one_text : {i j c : ℕ} {t : List ℕ} → Text i j t → At j c → counts c ≡ true → Text i (suc j) (t ++ c ∷ [])

  -- The rule `braces`. `Braces i j n` holds if the codes from `i` up to `j` are the repeat count `n` in braces.
  pub data Braces : ℕ → ℕ → Count → Type 0 where
    -- Form: "{" digit+ "}" | "{" digit+ ",}" | "{," digit+ "}" | "{" digit+ "," digit+ "}" | "{,}"
    braces : {i k : ℕ} {t : List ℕ} {n : Count} → SpelledAt i "{" → Text (suc i) k t → SpelledAt k "}" → count_of t ≡ Some n → Braces i (suc k) n

  -- The rule `count`. `Counts i j n` holds if the codes from `i` up to `j` are the repeat count `n`.
  pub data Counts : ℕ → ℕ → Count → Type 0 where
    -- Form: "*" | "+" | "?"
    by_code : {i c : ℕ} {n : Count} → At i c → sign c ≡ times n → Counts i (suc i) n
    -- Form: braces
    by_braces : {i j : ℕ} {n : Count} → Braces i j n → Counts i j n

  -- The rule `quantifier`. `Quantifier i j n g` holds if the codes from `i` up to `j` are a quantifier with the repeat count
  -- `n` and the greed `g`.
  pub data Quantifier : ℕ → ℕ → Count → Greed → Type 0 where
    -- Form: count, if no "?" or "+" follows
    is_greedy : {i j : ℕ} {n : Count} → Counts i j n → ¬ SpelledAt j "?" → ¬ SpelledAt j "+" → Quantifier i j n greedy
    -- Form: count "?"
    is_lazy : {i j : ℕ} {n : Count} → Counts i j n → SpelledAt j "?" → Quantifier i (suc j) n lazy
    -- Form: count "+"
    is_possessive : {i j : ℕ} {n : Count} → Counts i j n → SpelledAt j "+" → Quantifier i (suc j) n possessive

  -- The rule `ignored`. `Ignored fl i j` holds if the codes from `i` up to `j` are white space or a comment between items,
  -- which is ignored under the flags `fl`.
  pub data Ignored (fl : Flags) : ℕ → ℕ → Type 0 where
    -- Form: blank, under VERBOSE
    pass_blank : {i c : ℕ} → fl.verbose ≡ true → At i c → sign c ≡ blank → Ignored fl i (suc i)
    -- Form: "#" (any code except LF)* LF, under VERBOSE
    pass_line : {i k : ℕ} → fl.verbose ≡ true → SpelledAt i "#" → Without (code_of "\n") (suc i) k → SpelledAt k "\n" → Ignored fl i (suc k)
    -- Form: "#" (any code except LF)* and the end of the codes, under VERBOSE
    pass_last_line : {i : ℕ} → fl.verbose ≡ true → SpelledAt i "#" → Without (code_of "\n") (suc i) (length w) → Ignored fl i (length w)
    -- Form: "(?#" (any code except ")")* ")"
    pass_comment : {i k : ℕ} → SpelledAt i "(?#" → Without (code_of ")") (behind i "(?#") k → SpelledAt k ")" → Ignored fl i (suc k)

  -- The rule ignored*. `Blanks fl i j` holds if the codes from `i` up to `j` are ignored white space and comments, of which
  -- there may be none.
  pub data Blanks (fl : Flags) : ℕ → ℕ → Type 0 where
    no_blank : {i : ℕ} → Blanks fl i i
    one_blank : {i j k : ℕ} → Blanks fl i j → Ignored fl j k → Blanks fl i k

  mutual
    -- The rule `atom`. `Atom fl i j p` holds if the codes from `i` up to `j` are the atom `p` under the flags `fl`.
    pub data Atom : Flags → ℕ → ℕ → SyntaxNode → Type 0 where
      -- Form: literal
      literal : {fl : Flags} {i c : ℕ} → At i c → is_literal fl c → Atom fl i (suc i) (leaf (span i (suc i)) fl (glyph (code c)))
      -- Form: "{" that begins no braces
      literal_brace : {fl : Flags} {i : ℕ} → SpelledAt i "{" → ((j : ℕ) (n : Count) → ¬ Braces i j n) → Atom fl i (suc i) (leaf (span i (suc i)) fl (glyph (code (code_of "{"))))
      -- Form: "."
      dotted : {fl : Flags} {i : ℕ} → SpelledAt i "." → Atom fl i (suc i) (leaf (span i (suc i)) fl any)
      -- Form: escape
      escaped : {fl : Flags} {i j : ℕ} {e : Escaped} → Escape false i j e → Atom fl i j (leaf (span i j) fl (glyph e))
      -- Form: "(?P=" name ")"
      refers : {fl : Flags} {i j : ℕ} {n : List ℕ} → SpelledAt i "(?P=" → Name (behind i "(?P=") j n → SpelledAt j ")" → Atom fl i (suc j) (leaf (span i (suc j)) fl (glyph reference))
      -- Form: "[" ["^"] member+ "]"
      bracketed : {fl : Flags} {i j k : ℕ} {inverse : Bool} {ms : List Member} → SetHead i j inverse → Members j k ms → SpelledAt k "]" → Atom fl i (suc k) (leaf (span i (suc k)) fl (members inverse ms))
      -- Form: opening branches ")"
      grouped : {fl : Flags} {i j k : ℕ} {kd : Kind} {bs : List Branch} → Opening i j kd → IsBranches kd (inside kd fl) j k bs → SpelledAt k ")" → Atom fl i (suc k) (group (span i (suc k)) kd (whole_body (span j k) bs))

    -- The rule `item`. `Item fl i j p` holds if the codes from `i` up to `j` are the item `p` under the flags `fl`.
    pub data Item : Flags → ℕ → ℕ → SyntaxNode → Type 0 where
      -- Form: atom
      once : {fl : Flags} {i j : ℕ} {p : SyntaxNode} → Atom fl i j p → Item fl i j p
      -- Form: atom ignored* quantifier
      repeated : {fl : Flags} {i j k l : ℕ} {p : SyntaxNode} {n : Count} {g : Greed} → Atom fl i j p → Blanks fl j k → Quantifier k l n g → Item fl i l (repeat (span i l) (span k l) n g p)
      -- Form: "^" | "$"
      edge_code : {fl : Flags} {i c : ℕ} {m : Assertion} → At i c → sign c ≡ edge m → Item fl i (suc i) (mark (span i (suc i)) fl m)
      -- Form: "\A" | "\Z" | "\b" | "\B"
      edge_escape : {fl : Flags} {i : ℕ} {m : Assertion} → Slash false i (edges m) → Item fl i (suc (suc i)) (mark (span i (suc (suc i))) fl m)

    -- The rule `branch`. `Items fl i j ps` holds if the codes from `i` up to `j` are a branch with the items `ps` under the
    -- flags `fl`. Ignored white space and comments may be before, between and after the items.
    pub data Items : Flags → ℕ → ℕ → List SyntaxNode → Type 0 where
      no_items : {fl : Flags} {i : ℕ} → Items fl i i []
      -- Form: (item | ignored)* ignored
      pass_over : {fl : Flags} {i j k : ℕ} {ps : List SyntaxNode} → Items fl i j ps → Ignored fl j k → Items fl i k ps
      -- Form: (item | ignored)* item
      one_item : {fl : Flags} {i j k : ℕ} {ps : List SyntaxNode} {p : SyntaxNode} → Items fl i j ps → Item fl j k p → Items fl i k (ps ++ p ∷ [])

    -- The rule `branches`. `IsBranches kd fl i j bs` holds if the codes from `i` up to `j` are the branches `bs` of a group of
    -- the kind `kd` under the flags `fl`.
    pub data IsBranches : Kind → Flags → ℕ → ℕ → List Branch → Type 0 where
      -- Form: branch
      first_branch : {kd : Kind} {fl : Flags} {i j : ℕ} {ps : List SyntaxNode} → Items fl i j ps → IsBranches kd fl i j (branch (span i j) ps ∷ [])
      -- Form: branch ("|" branch)* "|" branch
      next_branch : {kd : Kind} {fl : Flags} {i j k : ℕ} {bs : List Branch} {ps : List SyntaxNode} → IsBranches kd fl i j bs → SpelledAt j "|" → splits kd bs ≡ true → Items fl (suc j) k ps → IsBranches kd fl i k (bs ++ branch (span (suc j) k) ps ∷ [])

  -- The rule `flag_group`. `FlagGroup i j f` holds if the codes from `i` up to `j` are a group that only sets the flags `f`.
  pub data FlagGroup : ℕ → ℕ → Flags → Type 0 where
    -- Form: "(?" flag+ ")"
    flag_group : {i j : ℕ} {f : Flags} → SpelledAt i "(?" → Letters on_letter (behind i "(?") j f → SpelledAt j ")" → FlagGroup i (suc j) f

  -- The flag groups at the front. `Fronts call i fl gs` holds if the codes up to position `i` are the flag groups `gs`, with
  -- ignored white space and comments between them, and `fl` are the flags in force after them. Nothing precedes the first one.
  -- `call` has the flags of the call.
  pub data Fronts (call : Flags) : ℕ → Flags → List Front → Type 0 where
    no_fronts : Fronts call 0 call []
    -- Form: flag_group, or ignored* and one more
    one_front : {i j k : ℕ} {fl f : Flags} {gs : List Front} → Fronts call i fl gs → Blanks fl i j → (gs ≡ [] → j ≡ 0) → FlagGroup j k f → Fronts call k (joined fl f) (gs ++ record { place = span j k; letters = f } ∷ [])

  -- The rule `pattern`. `Spelled call p` holds if the codes spell the whole pattern `p` under the flags of the call.
  pub data Spelled (call : Flags) : Whole → Type 0 where
    -- Form: [flag_group (ignored* flag_group)*] branches
    spelled : {i : ℕ} {fl : Flags} {gs : List Front} {bs : List Branch} → Fronts call i fl gs → IsBranches outermost fl i (length w) bs → Spelled call (record { fronts = gs; place = span i (length w); body = whole_body (span i (length w)) bs })

-- Holds if the codes `w` spell the whole pattern `p` under the flags `call`, those of the call. `text` says whether the codes
-- are a `str`.
abbrev pub Spells : Flags → Bool → List ℕ → Whole → Type 0
Spells call text w p = Spelled text w call p
