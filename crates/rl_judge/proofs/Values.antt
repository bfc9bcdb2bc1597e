-- The code points of a value are of its universe.
use Rattle.std.proofs.Common.{◌≡◌, ℕ, zero, suc, ◌+◌, ◌-◌, ◌<◌, ◌≤◌, min, Bool, true, false, cond, not, ◌&&◌, ◌||◌, ◌⊎◌, inl, inr, List, [], ◌∷◌, ◌++◌, length, get_or, take, drop, refl, sym, ◌∙◌, arith, subst, Some, None, Option}
use Rattle.std.specs.Prelude.{Result, Ok, Err, All, IsUtf8, nat_lt, ◌==◌}
use Rattle.std.specs.Char.{digit_value, len_utf8}
use Rattle.std.specs.List.{prefix_len, list_all, list_any}
use Rattle.std.specs.Str.{chars}
use Rattle.std.proofs.Math.Utf8.{scalar, scalars, scalar_cases}
use Rattle.std.proofs.lemmas.Str.{scalars-chars}
use Rattle.std.proofs.lemmas.Bool.{false≢true}
use Rattle.std.proofs.lemmas.Bool.Decides.{nat_tests}
use Rattle.std.proofs.lemmas.List.{length-drop, length-take, get_or-take, get_or-drop}
use Rattle.rl_ranges.specs.Text.{IsText, code_count}
use Rattle.rl_pylex.specs.Bytes.{is_in, line_end}
use Rattle.rl_pylex.specs.declared.token_list.Token.{Token}
use Rattle.rl_pylex.specs.Source.{text_of, IsTokenList, IsReadAt}
use Rattle.rl_pylex.proofs.TokenFacts.{IsInOrder-tokens}
use Rattle.rl_pystr.specs.declared.escapes.Cause.TheVariants as cause
use Rattle.rl_pystr.specs.declared.escapes.Gives.{Gives}
use Rattle.rl_pystr.specs.declared.escapes.Gives.TheVariants.{Nothing, One, Both, Refuses}
use Rattle.rl_pystr.specs.declared.fault.StrError.{StrError}
use Rattle.rl_pystr.specs.declared.fault.StrError.TheVariants as error
use Rattle.rl_pystr.specs.declared.literal.Literal.{Literal}
use Rattle.rl_pystr.specs.declared.placed.Placed.{Placed}
use Rattle.rl_pystr.specs.Escapes.{is_octal, is_hex, number_of, octal, has_hex, hexadecimal, named_code, byte_escape, text_escape, named_or, escape, unit, size_of}
use Rattle.rl_pystr.specs.Values.{empty, joined_results, given, value_from}
use Rattle.rl_pystr.specs.Runs.{is_literal, is_lettered, is_unlettered, has_letter, body_start, body_of, literal_value, token_value, values, has_bytes, value_of_run, universe_by, IsValue}
use Rattle.rl_pystr.proofs.Bounds.{body_utf8, literal_token}

-- Every code point is below the bound.
abbrev Below : ℕ → List ℕ → Type 0
Below n [] = Unit {0}
Below n (c ∷ cs) = (c < n) × Below n cs

-- The same for what a unit of a body gives, and for a value.
abbrev GivesBelow : ℕ → Gives → Type 0
GivesBelow n (Nothing size) = Unit {0}
GivesBelow n (One code size) = code < n
GivesBelow n (Both code) = (92 < n) × (code < n)
GivesBelow n (Refuses why offset) = Unit {0}

abbrev ValueBelow : ℕ → Result Placed StrError → Type 0
ValueBelow n (Ok placed) = Below n placed.codes
ValueBelow n (Err e) = Unit {0}

-- The number of code points in the universe, bytes or text.
abbrev bound : Bool → ℕ
bound bytes = cond bytes 256 1114112

below_append : (n : ℕ) (xs ys : List ℕ) → Below n xs → Below n ys → Below n (xs ++ ys)
below_append n [] ys hx hy = hy
below_append n (x ∷ xs) ys hx hy = (hx.0, below_append n xs ys hx.1 hy)

below_before : (n : ℕ) (p q : Result Placed StrError) → ValueBelow n p → ValueBelow n q → ValueBelow n (joined_results p q)
below_before n (Ok a) (Ok b) hp hq = below_append n a.codes b.codes hp hq
below_before n (Ok a) (Err e) hp hq = tt
below_before n (Err e) q hp hq = tt

below_given : (n : ℕ) (g : Gives) (place : ℕ) → GivesBelow n g → ValueBelow n (given g place)
below_given n (Nothing size) place h = tt
below_given n (One code size) place h = (h, tt)
below_given n (Both code) place h = (h.0, (h.1, tt))
below_given n (Refuses why offset) place h = tt

-- A choice by a test is below the bound if both alternatives are.
either_gives : (n : ℕ) (b : Bool) (x y : Gives) → (b ≡ true → GivesBelow n x) → (b ≡ false → GivesBelow n y) → GivesBelow n (cond b x y)
either_gives n true x y hx hy = hx refl
either_gives n false x y hx hy = hy refl

small : (bytes : Bool) (c : ℕ) → c < 256 → c < bound bytes
small true c h = h
small false c h = omega arith

not_above : (k c : ℕ) → nat_lt k c ≡ false → c ≤ k
not_above k c h = grind (arith, nat_tests)

octal_below : (bytes : Bool) (text : List ℕ) → GivesBelow (bound bytes) (octal text)
unfolding octal
octal_below bytes text =
    let count = min 3 (prefix_len is_octal text) in
    let number = number_of 8 (take count text) in
    either_gives (bound bytes) (nat_lt 255 number) (Refuses cause.BadEscape 0) (One number (1 + count)) (λ h. tt)
    (λ h. small bytes number (omega (arith, not_above 255 number h)))

right_and : (b c : Bool) → (b && c) ≡ true → c ≡ true
right_and true c h = h
right_and false c h = absurd (false≢true h)

left_and : (b c : Bool) → (b && c) ≡ true → b ≡ true
left_and true c h = refl
left_and false c h = absurd (false≢true h)

hex_digit : (c : ℕ) → is_hex c ≡ true → digit_value c < 16
hex_digit c h = grind (arith, nat_tests)

-- Two hexadecimal digits spell a byte.
two_digits : (ds : List ℕ) → ((length ds == 2) && list_all is_hex ds) ≡ true → number_of 16 ds < 256
two_digits [] h = absurd (false≢true h)
two_digits (a ∷ []) h = absurd (false≢true h)
two_digits (a ∷ b ∷ []) h =
    let ha = hex_digit a (left_and (is_hex a) (is_hex b && true) h) in
    let hb = hex_digit b (left_and (is_hex b) true (right_and (is_hex a) (is_hex b && true) h)) in
    omega (arith, ha, hb)
two_digits (a ∷ b ∷ c ∷ ds) h = absurd (false≢true (sym (many (length ds)) ∙ left_and _ (list_all is_hex (a ∷ b ∷ c ∷ ds)) h))
  where
    many : (k : ℕ) → (suc (suc (suc k)) == 2) ≡ false
    many k = grind (arith, nat_tests)

left_or : (b c : Bool) → (not b || c) ≡ false → b ≡ true
left_or true c h = refl
left_or false c h = absurd (false≢true (sym h))

right_or : (b c : Bool) → (not b || c) ≡ false → c ≡ false
right_or true c h = h
right_or false c h = absurd (false≢true (sym h))

hex_below : (count : ℕ) (text : List ℕ) → GivesBelow 1114112 (hexadecimal count text)
unfolding hexadecimal
hex_below count text =
    let number = number_of 16 (take count text) in
    either_gives 1114112 (not (has_hex count text) || nat_lt 0x10FFFF number) (Refuses cause.BadEscape 0) (One number (2 + count)) (λ h. tt)
    (λ h. omega (arith, not_above 0x10FFFF number (right_or (has_hex count text) (nat_lt 0x10FFFF number) h)))

hex_byte : (text : List ℕ) → GivesBelow 256 (hexadecimal 2 text)
unfolding hexadecimal has_hex
hex_byte text =
    let number = number_of 16 (take 2 text) in
    let test = (length (take 2 text) == 2) && list_all is_hex (take 2 text) in
    either_gives 256 (not test || nat_lt 0x10FFFF number) (Refuses cause.BadEscape 0) (One number (2 + 2)) (λ h. tt)
    (λ h. two_digits (take 2 text) (left_or test (nat_lt 0x10FFFF number) h))

byte_of_hex : (bytes : Bool) (text : List ℕ) → GivesBelow (bound bytes) (hexadecimal 2 text)
byte_of_hex true text = hex_byte text
byte_of_hex false text = hex_below 2 text

abbrev NamedBelow : Option ℕ → Type 0
NamedBelow None = Unit {0}
NamedBelow (Some code) = code < 256

either_named : (b : Bool) (code : ℕ) (o : Option ℕ) → code < 256 → NamedBelow o → NamedBelow (cond b (Some code) o)
either_named true code o hc ho = hc
either_named false code o hc ho = ho

named_below : (c : ℕ) → NamedBelow (named_code c)
unfolding named_code
named_below c =
    either_named (c == 97) 7 _ (omega arith) (either_named (c == 98) 8 _ (omega arith) (either_named (c == 102) 12 _ (omega arith)
    (either_named (c == 110) 10 _ (omega arith) (either_named (c == 114) 13 _ (omega arith) (either_named (c == 116) 9 _ (omega arith)
    (either_named (c == 118) 11 None (omega arith) tt))))))

by_name : (bytes : Bool) (o : Option ℕ) (other : Gives) → NamedBelow o → GivesBelow (bound bytes) other → GivesBelow (bound bytes) (named_or o other)
by_name bytes None other ho h = h
by_name bytes (Some code) other ho h = small bytes code ho

byte_escape_below : (c : ℕ) → GivesBelow 256 (byte_escape c)
unfolding byte_escape
byte_escape_below c =
    either_gives 256 (nat_lt 127 c) (Refuses cause.NotAscii 1) (Both c) (λ h. tt)
    (λ h. (omega arith, omega (arith, not_above 127 c h)))

text_escape_below : (c : ℕ) (rest : List ℕ) → c < 1114112 → GivesBelow 1114112 (text_escape c rest)
unfolding text_escape
text_escape_below c rest hc =
    either_gives 1114112 (c == 117) (hexadecimal 4 rest) _ (λ h. hex_below 4 rest)
    (λ h. either_gives 1114112 (c == 85) (hexadecimal 8 rest) _ (λ h. hex_below 8 rest)
    (λ h. either_gives 1114112 (c == 78) _ (Both c) (λ h. tt) (λ h. (omega arith, hc))))

other_escape : (bytes : Bool) (c : ℕ) (rest : List ℕ) → c < 1114112 → GivesBelow (bound bytes) (cond bytes (byte_escape c) (text_escape c rest))
other_escape true c rest h = byte_escape_below c
other_escape false c rest h = text_escape_below c rest h

quoted_small : (c : ℕ) → is_in "\\'\"" c ≡ true → c < 256
quoted_small c h = grind (arith, nat_tests)

escape_below : (bytes : Bool) (text : List ℕ) → Below 1114112 text → GivesBelow (bound bytes) (escape bytes text)
escape_below bytes [] h = small bytes 92 (omega arith)
escape_below bytes (c ∷ rest) h =
    either_gives (bound bytes) (not (line_end (c ∷ rest) == 0)) (Nothing (1 + line_end (c ∷ rest))) _ (λ e. tt)
    (λ e. either_gives (bound bytes) (is_in "\\'\"" c) (One c 2) _ (λ e. small bytes c (quoted_small c e))
    (λ e. either_gives (bound bytes) (is_octal c) (octal (c ∷ rest)) _ (λ e. octal_below bytes (c ∷ rest))
    (λ e. either_gives (bound bytes) (c == 120) (hexadecimal 2 rest) _ (λ e. byte_of_hex bytes rest)
    (λ e. by_name bytes (named_code c) _ (named_below c) (other_escape bytes c rest h.0)))))

plain_below : (bytes : Bool) (c : ℕ) → c < 1114112 → (bytes && nat_lt 127 c) ≡ false → c < bound bytes
plain_below true c h e = omega (arith, not_above 127 c e)
plain_below false c h e = h

unit_below : (raw bytes : Bool) (text : List ℕ) → Below 1114112 text → GivesBelow (bound bytes) (unit raw bytes text)
unit_below raw bytes [] h = tt
unit_below raw bytes (c ∷ rest) h =
    either_gives (bound bytes) (not (line_end (c ∷ rest) == 0)) (One 10 (line_end (c ∷ rest))) _ (λ e. small bytes 10 (omega arith))
    (λ e. either_gives (bound bytes) (not raw && c == 92) (escape bytes rest) _ (λ e. escape_below bytes rest h.1)
    (λ e. either_gives (bound bytes) (bytes && nat_lt 127 c) (Refuses cause.NotAscii 0) (One c 1) (λ e. tt) (λ e. plain_below bytes c h.0 e)))

from_below : (raw bytes : Bool) (place skip : ℕ) (text : List ℕ) → Below 1114112 text → ValueBelow (bound bytes) (value_from raw bytes place skip text)
from_below raw bytes place skip [] h = tt
from_below raw bytes place (suc skip) (c ∷ text) h = from_below raw bytes (place + len_utf8 c) skip text h.1
from_below raw bytes place zero (c ∷ text) h =
    below_before (bound bytes) (given (unit raw bytes (c ∷ text)) place)
    (value_from raw bytes (place + len_utf8 c) (size_of (unit raw bytes (c ∷ text)) - 1) text)
    (below_given (bound bytes) (unit raw bytes (c ∷ text)) place (unit_below raw bytes (c ∷ text) h))
    (from_below raw bytes (place + len_utf8 c) (size_of (unit raw bytes (c ∷ text)) - 1) text h.1)

-- ---- the characters of a text

scalar_below : (c : ℕ) → scalar c ≡ true → c < 1114112
scalar_below c h = by-range (scalar_cases c h)
  where
    by-range : (c < 55296) ⊎ ((57344 ≤ c) × (c < 1114112)) → c < 1114112
    by-range (inl l) = omega (arith, l)
    by-range (inr r) = r.1

scalars_below : (cs : List ℕ) → scalars cs ≡ true → Below 1114112 cs
scalars_below [] h = tt
scalars_below (c ∷ cs) h =
    (scalar_below c (left_and (scalar c) (scalars cs) h), scalars_below cs (right_and (scalar c) (scalars cs) h))

literal_below : (bytes : Bool) (place : ℕ) (text : List ℕ) → IsUtf8 (body_of text) → ValueBelow (bound bytes) (literal_value bytes place text)
unfolding literal_value
literal_below bytes place text utf8 =
    from_below (has_letter 114 text) bytes (place + body_start text) 0 (chars (body_of text)) (scalars_below (chars (body_of text)) (scalars-chars (body_of text) utf8))

-- ---- the values of tokens

either_value : (n : ℕ) (b : Bool) (p q : Result Placed StrError) → (b ≡ true → ValueBelow n p) → (b ≡ false → ValueBelow n q) → ValueBelow n (cond b p q)
either_value n true p q hp hq = hp refl
either_value n false p q hp hq = hq refl

token_below : (bytes : Bool) (source : List ℕ) (token : Token) → IsUtf8 source → IsReadAt source token → ValueBelow (bound bytes) (token_value bytes source token)
token_below bytes source token utf8 read =
    either_value (bound bytes) (is_literal token) (literal_value bytes token.from (text_of source token)) (Ok empty)
    (λ e. literal_below bytes token.from (text_of source token) (body_utf8 source token utf8 read (literal_token source token read e))) (λ e. tt)

values_below : (bytes : Bool) (source : List ℕ) (run : List Token) → IsUtf8 source → All (IsReadAt source) run → ValueBelow (bound bytes) (values bytes source run)
values_below bytes source [] utf8 read = tt
values_below bytes source (t ∷ ts) utf8 read =
    below_before (bound bytes) (token_value bytes source t) (values bytes source ts)
    (token_below bytes source t utf8 (read 0 t (omega arith)))
    (values_below bytes source ts utf8 (λ k d l. read (suc k) d (omega arith)))

run_below : (source : List ℕ) (run : List Token) → IsUtf8 source → All (IsReadAt source) run → ValueBelow (bound (has_bytes source run)) (value_of_run source run)
unfolding value_of_run
run_below source run utf8 read =
    let n = bound (has_bytes source run) in
    either_value n (list_any (is_lettered 102 source) run) (Err error.FString) _ (λ e. tt)
    (λ e. either_value n (has_bytes source run && list_any (is_unlettered 98 source) run) (Err error.Mixed) _ (λ e. tt)
    (λ e. values_below (has_bytes source run) source run utf8 read))

-- ---- the value of a run

bound_is : (bytes : Bool) → bound bytes ≡ code_count (universe_by bytes)
bound_is true = refl
bound_is false = refl

to_all : (n : ℕ) (xs : List ℕ) → Below n xs → All (λ c. c < n) xs
to_all n [] h = λ k d l. absurd (omega arith)
to_all n (x ∷ xs) h = at (to_all n xs h.1)
  where
    at : All (λ c. c < n) xs → (k d : ℕ) → k < length (x ∷ xs) → get_or (x ∷ xs) k d < n
    at rest zero d l = h.0
    at rest (suc k) d l = rest k d (omega arith)

run_read : (s : List ℕ) (ts : List Token) (n m : ℕ) → IsTokenList s ts → All (IsReadAt s) (take n (drop m ts))
run_read s ts n m h = λ k d l.
    let inside : k < n = omega (arith, l, length-take n (drop m ts)) in
    let within : m + k < length ts = omega (arith, l, length-take n (drop m ts), length-drop m ts) in
    subst (IsReadAt s) (sym (get_or-take n (drop m ts) k d inside ∙ get_or-drop m ts k d)) ((IsInOrder-tokens s ts h).each (m + k) d within)

pub value_text : (source : List ℕ) (tokens : List Token) (count first : ℕ) (literal : Literal) → IsTokenList source tokens
    → IsValue source (take count (drop first tokens)) literal → IsText literal.universe literal.codes
value_text source tokens count first literal t v =
    let run = take count (drop first tokens) in
    let n = bound (has_bytes source run) in
    let codes : Below n literal.codes = subst (ValueBelow n) v.value (run_below source run t.readable.utf8 (run_read source tokens count first t)) in
    subst (λ u. IsText u literal.codes) (sym v.universe)
    (subst (λ k. All (λ c. c < k) literal.codes) (bound_is (has_bytes source run)) (to_all n literal.codes codes))
