-- What the machine reads for some patterns, by computation.
use Rattle.std.proofs.Common.{◌≡◌, ℕ, suc, pred, true, false, List, [], ◌∷◌, ◌++◌, Option, Some, None, refl, codes, replicate, option_map}
use Rattle.rl_pattern.specs.declared.flags.Flags.{Flags}
use Rattle.rl_pattern.specs.Tree.{Whole, span, SyntaxNode, leaf, glyph, code, too_large, by_name, members, one, range, repeat, greedy, possessive, group, capturing, seq, nodes, choice, branches, branch, nothing, reference}
use Rattle.rl_pattern.specs.Codes.{no_flags, count, sign, numeral, is_digit, hex, begins_name, goes_in_name, slashed, on_letter, off_letter, headed, with_letter, joined, scoped_flags, counts, count_of}
use Rattle.std.proofs.lemmas.Bool.{eqb-false}
use Rattle.std.proofs.lemmas.Option.{same_Some}
use Rattle.rl_pattern.specs.Viable.{TooDeepAt}
use Rattle.rl_pattern.proofs.Deep.{Behind, seen_too_deep}
use Rattle.rl_pattern.specs.Profile.{Dollar, Refused, Dropped, LastLine, Wide}
use Rattle.rl_pattern.specs.Found.{Fault, fault, refused, refused_in, Inner, inner, no_trail, dollar_trail, end_trail, is_locale, is_flag_clash, is_duplicate_name, is_code_too_large, is_reversed_range, is_repeat_too_large, is_repeat_order, is_possessive_count, is_backreference, is_lookaround, is_named_escape, is_inner_anchor}
use Rattle.rl_pattern.specs.internal.Machine.{State, start, step_at, reads}

-- The number of codes that the machine reads before it stops, plus one.
abbrev taken : ℕ → Option State → List ℕ → ℕ
taken n None cs = n
taken n (Some s) [] = suc n
taken n (Some s) (c ∷ cs) = taken (suc n) (step_at true n s c) cs

-- The position at which the machine stops, or the length.
dies : Flags → List ℕ → ℕ
unfolding sign numeral is_digit hex begins_name goes_in_name slashed on_letter off_letter headed with_letter joined scoped_flags counts count_of
dies f w = pred (taken 0 (Some (start f)) w)

-- The body that is read from a text without flags.
the_body : Option Whole → Option SyntaxNode
the_body None = None
the_body (Some p) = Some p.body

read : List ℕ → Option SyntaxNode
unfolding sign numeral is_digit hex begins_name goes_in_name slashed on_letter off_letter headed with_letter joined scoped_flags counts count_of the_body
read w = the_body (reads no_flags true w)

verbose : Flags
verbose = with_letter no_flags 120

two_stars : dies no_flags (codes "a**") ≡ 2
unfolding dies
two_stars = refl

open_group_stops : (dies no_flags (codes "(a") ≡ 2) × (read (codes "(a") ≡ None)
unfolding dies read
open_group_stops = (refl, refl)

closed_twice : dies no_flags (codes "a)") ≡ 1
unfolding dies
closed_twice = refl

count_alone : (dies no_flags (codes "{3}") ≡ 2) × (read (codes "{3}") ≡ None)
unfolding dies read
count_alone = (refl, refl)

comment_before_front : dies no_flags (codes "(?#c)(?i)a") ≡ 8
unfolding dies
comment_before_front = refl

blank_before_front : (dies verbose (codes " (?i)a") ≡ 4) × (dies no_flags (codes "^(?i)a") ≡ 4)
unfolding dies verbose
blank_before_front = (refl, refl)

kinds_in_ranges : (dies no_flags (codes "[\\d-a]") ≡ 4) × (dies no_flags (codes "[\\d-\\x41]") ≡ 4) × (dies no_flags (codes "[a-\\d]") ≡ 4)
unfolding dies
kinds_in_ranges = (refl, refl, refl)

letters_off_missing : dies no_flags (codes "(?i-:a)") ≡ 4
unfolding dies
letters_off_missing = refl

comment_not_closed : dies no_flags (replicate 100 40 ++ codes "(?#") ≡ 103
unfolding dies
comment_not_closed = refl

-- A group's head that continues in a wrong way is too deep at its parenthesis, with 100 groups open.
behind_row : Behind no_flags true (replicate 101 40 ++ codes "?P!") 100 100
unfolding sign
behind_row = record { state = _; runs = refl; lex = refl; deep = refl }

too_deep_row : TooDeepAt no_flags true (replicate 101 40 ++ codes "?P!") 100
too_deep_row = seen_too_deep no_flags true (replicate 101 40 ++ codes "?P!") 100 behind_row refl (λ h. eqb-false 80 35 refl (same_Some 80 35 h.1.1)) (λ h. eqb-false 33 61 refl (same_Some 33 61 h.1.1.1))

-- The leaf of one character.
lit : ℕ → ℕ → SyntaxNode
lit i c = leaf (span i (suc i)) no_flags (glyph (code c))

literal_brace : read (codes "a{") ≡ Some (seq (span 0 2) (nodes (lit 0 97 ∷ lit 1 123 ∷ [])))
unfolding read lit
literal_brace = refl

count_without_minimum : read (codes "a{,3}") ≡ Some (repeat (span 0 5) (span 1 5) (count 0 (Some 3)) greedy (lit 0 97))
unfolding read lit
count_without_minimum = refl

many_digits : read (codes "a{000000000002}") ≡ Some (repeat (span 0 15) (span 1 15) (count 2 (Some 2)) greedy (lit 0 97))
unfolding read lit
many_digits = refl

bracket_first : read (codes "[]a]") ≡ Some (leaf (span 0 4) no_flags (members false (one (span 1 2) (code 93) ∷ one (span 2 3) (code 97) ∷ [])))
unfolding read
bracket_first = refl

large_in_ranges : (read (codes "[a-\\U00110000]") ≡ Some (leaf (span 0 14) no_flags (members false (range (span 1 13) (code 97) too_large ∷ [])))) × (read (codes "[a-\\N{X}]") ≡ Some (leaf (span 0 9) no_flags (members false (range (span 1 8) (code 97) by_name ∷ [])))) × (read (codes "[\\400]") ≡ Some (leaf (span 0 6) no_flags (members false (one (span 1 5) too_large ∷ []))))
unfolding read
large_in_ranges = (refl, refl, refl)

dashes : read (codes "[a-c-e-]") ≡ Some (leaf (span 0 8) no_flags (members false (range (span 1 4) (code 97) (code 99) ∷ one (span 4 5) (code 45) ∷ one (span 5 6) (code 101) ∷ one (span 6 7) (code 45) ∷ [])))
unfolding read
dashes = refl

empty_branches : read (codes "(a|)") ≡ Some (group (span 0 4) capturing (choice (span 1 3) (branches (branch (span 1 2) (lit 1 97 ∷ []) ∷ branch (span 3 3) [] ∷ []))))
unfolding read lit
empty_branches = refl

possessive_reference : read (codes "(a)\\1*+") ≡ Some (seq (span 0 7) (nodes (group (span 0 3) capturing (lit 1 97) ∷ repeat (span 3 7) (span 5 7) (count 0 None) possessive (leaf (span 3 5) no_flags (glyph reference)) ∷ [])))
unfolding read lit
possessive_reference = refl

octal_or_reference : (read (codes "\\12") ≡ Some (leaf (span 0 3) no_flags (glyph reference))) × (read (codes "\\123") ≡ Some (leaf (span 0 4) no_flags (glyph (code 83)))) × (read (codes "\\012") ≡ Some (leaf (span 0 4) no_flags (glyph (code 10)))) × (read (codes "\\18") ≡ Some (leaf (span 0 3) no_flags (glyph reference)))
unfolding read
octal_or_reference = (refl, refl, refl, refl)

empty_pattern : read [] ≡ Some (nothing (span 0 0))
unfolding read
empty_pattern = refl

-- What is refused in a text under these flags.
found : Flags → List ℕ → Option (Option Fault)
unfolding sign numeral is_digit hex begins_name goes_in_name slashed on_letter off_letter headed with_letter joined scoped_flags counts count_of
found f w = option_map (refused f true) (reads f true w)

outside_features : (found no_flags (codes "(?=a)b") ≡ Some (Some (fault 0 is_lookaround))) × (found no_flags (codes "(a)\\1") ≡ Some (Some (fault 3 is_backreference))) × (found no_flags (codes "a*+") ≡ Some (Some (fault 1 is_possessive_count))) × (found no_flags (codes "a$b") ≡ Some (Some (fault 1 is_inner_anchor)))
unfolding found
outside_features = (refl, refl, refl, refl)

reversed_range : found no_flags (codes "[b-a]") ≡ Some (Some (fault 1 is_reversed_range))
unfolding found
reversed_range = refl

places_in_classes : (found no_flags (codes "[a-\\U00110000]") ≡ Some (Some (fault 1 is_code_too_large))) × (found no_flags (codes "[a-\\N{X}]") ≡ Some (Some (fault 1 is_named_escape))) × (found no_flags (codes "[z-\\N{X}]") ≡ Some (Some (fault 1 is_named_escape))) × (found no_flags (codes "[\\400]") ≡ Some (Some (fault 1 is_code_too_large)))
unfolding found
places_in_classes = (refl, refl, refl, refl)

letter_on_both_sides : found no_flags (codes "(?x-x:#)") ≡ Some (Some (fault 0 is_flag_clash))
unfolding found
letter_on_both_sides = refl

reference_before_possessive : found no_flags (codes "\\1*+") ≡ Some (Some (fault 0 is_backreference))
unfolding found
reference_before_possessive = refl

names_twice : (found no_flags (codes "(?P<a>b)(?P<a>c)") ≡ Some (Some (fault 8 is_duplicate_name))) × (found no_flags (codes "(?P<a>b)(?P<c>c)") ≡ Some None)
unfolding found
names_twice = (refl, refl)

front_clash : (found no_flags (codes "(?a)(?u)x") ≡ Some (Some (fault 4 is_flag_clash))) × (found no_flags (codes "(?L)x") ≡ Some (Some (fault 0 is_locale)))
unfolding found
front_clash = (refl, refl)

count_order : (found no_flags (codes "a{3,2}") ≡ Some (Some (fault 1 is_repeat_order))) × (found no_flags (codes "a{4294967295}") ≡ Some (Some (fault 1 is_repeat_too_large))) × (found no_flags (codes "a{4294967294}") ≡ Some None)
unfolding found
count_order = (refl, refl, refl)

-- The outer anchors and the rest.
inner_read : Flags → List ℕ → Option Inner
unfolding sign numeral is_digit hex begins_name goes_in_name slashed on_letter off_letter headed with_letter joined scoped_flags counts count_of
inner_read f w = option_map inner (reads f true w)

outer_anchors : inner_read no_flags (codes "^\\Aa$\\Z$") ≡ Some (record { body = lit 3 97; leading = true; trail = end_trail })
unfolding inner_read lit
outer_anchors = refl

anchors_alone : inner_read no_flags (codes "^$") ≡ Some (record { body = nothing (span 0 2); leading = true; trail = dollar_trail })
unfolding inner_read
anchors_alone = refl

anchors_in_branches : (found no_flags (codes "a|b$") ≡ Some (Some (fault 3 is_inner_anchor))) × (found (with_letter no_flags 109) (codes "a|b$") ≡ Some None)
unfolding found with_letter
anchors_in_branches = (refl, refl)

-- A body begins after the flag groups at the front, and its span includes ignored text at its ends.
both_letters : Flags
both_letters = record no_flags { verbose = true; ignore_case = true }

low_lit : ℕ → ℕ → SyntaxNode
low_lit i c = leaf (span i (suc i)) both_letters (glyph (code c))

fronts_with_blanks : inner_read no_flags (codes "(?x) (?i)a b #") ≡ Some (record { body = seq (span 9 14) (nodes (low_lit 9 97 ∷ low_lit 11 98 ∷ [])); leading = false; trail = no_trail })
unfolding inner_read low_lit both_letters
fronts_with_blanks = refl

-- What a wide profile refuses in a text under these flags.
wide_found : Dollar → Flags → List ℕ → Option (Option Fault)
unfolding sign numeral is_digit hex begins_name goes_in_name slashed on_letter off_letter headed with_letter joined scoped_flags counts count_of
wide_found d f w = option_map (refused_in (Wide d) f true) (reads f true w)

looks_read : (wide_found Refused no_flags (codes "a(?=b)") ≡ Some None) × (wide_found Refused no_flags (codes "(?!a|[bc]|\\d)") ≡ Some None) × (wide_found Refused no_flags (codes "(?<=(?i:a)|(?:.))") ≡ Some None) × (wide_found Refused no_flags (codes "(?<!\\x41)(?:(?=a)b)*") ≡ Some None)
unfolding wide_found
looks_read = (refl, refl, refl, refl)

looks_refused : (wide_found Dropped no_flags (codes "a(?=bc)") ≡ Some (Some (fault 1 is_lookaround))) × (wide_found Dropped no_flags (codes "(?!a|)") ≡ Some (Some (fault 0 is_lookaround))) × (wide_found Dropped no_flags (codes "(?<=(a))") ≡ Some (Some (fault 0 is_lookaround))) × (wide_found Dropped no_flags (codes "(?<!a?)") ≡ Some (Some (fault 0 is_lookaround)))
unfolding wide_found
looks_refused = (refl, refl, refl, refl)

looks_nested : (wide_found Dropped no_flags (codes "(?=(?=a))") ≡ Some (Some (fault 0 is_lookaround))) × (wide_found Dropped no_flags (codes "(?=\\b)") ≡ Some (Some (fault 0 is_lookaround))) × (wide_found Dropped no_flags (codes "(?=$)") ≡ Some (Some (fault 0 is_lookaround))) × (wide_found Dropped no_flags (codes "(a)(?=\\1)") ≡ Some (Some (fault 3 is_lookaround)))
unfolding wide_found
looks_nested = (refl, refl, refl, refl)

dollars_read : (wide_found Dropped no_flags (codes "a|b$") ≡ Some None) × (wide_found LastLine no_flags (codes "a(b|(c|d$))") ≡ Some None) × (wide_found LastLine no_flags (codes "(a$)$") ≡ Some None) × (wide_found Dropped no_flags (codes "(?:a\\Z|^$)") ≡ Some None)
unfolding wide_found
dollars_read = (refl, refl, refl, refl)

dollars_refused : (wide_found Refused no_flags (codes "a|b$") ≡ Some (Some (fault 3 is_inner_anchor))) × (wide_found Dropped no_flags (codes "a$b") ≡ Some (Some (fault 1 is_inner_anchor))) × (wide_found Dropped no_flags (codes "(?:a$)*") ≡ Some (Some (fault 4 is_inner_anchor))) × (wide_found LastLine no_flags (codes "(a$)\\Z") ≡ Some (Some (fault 2 is_inner_anchor)))
unfolding wide_found
dollars_refused = (refl, refl, refl, refl)
