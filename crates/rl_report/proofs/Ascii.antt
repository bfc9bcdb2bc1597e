-- A quoted text is ASCII.
use Rattle.std.proofs.Common.{◌≡◌, ℕ, zero, suc, ◌/◌, ◌%◌, ◌<◌, Bool, true, false, cond, ◌&&◌, ◌||◌, not, List, [], ◌∷◌, ◌++◌, length, refl, ◌∙◌, arith, codes}
use Rattle.std.specs.Prelude.{◌==◌, nat_lt}
use Rattle.std.specs.List.{list_all, flat_map}
use Rattle.std.specs.Str.{IsUtf8, IsAscii}
use Rattle.std.specs.Fmt.{digit_glyph}
use Rattle.std.proofs.lemmas.Bool.{false≢true}
use Rattle.std.proofs.lemmas.Bool.Decides.{nat_tests}
use Rattle.std.proofs.lemmas.List.Folds.{list_all-append}
use Rattle.std.proofs.lemmas.Str.{IsUtf8-from_ascii}
use Rattle.rl_ranges.specs.declared.universe.Universe.{Universe}
use Rattle.rl_pystr.specs.Quoting.{is_bytes, hex, short_escape, hex_escape, is_printed, escaped, is_plain, is_raw, ends_in_backslash, bytes_prefix, quoted_body, quoted}
use Rattle.rl_report.specs.Verdicts.{quoted_text}

abbrev is_ascii : ℕ → Bool
is_ascii c = nat_lt c 128

both-of : (b c : Bool) → b ≡ true → c ≡ true → (b && c) ≡ true
both-of true c e f = f
both-of false c e f = e

left-of : (b c : Bool) → (b && c) ≡ true → b ≡ true
left-of true c h = refl
left-of false c h = absurd (false≢true h)

right-of : (b c : Bool) → (b && c) ≡ true → c ≡ true
right-of true c h = h
right-of false c h = absurd (false≢true h)

joined : (xs ys : List ℕ) → list_all is_ascii xs ≡ true → list_all is_ascii ys ≡ true → list_all is_ascii (xs ++ ys) ≡ true
joined xs ys h k = list_all-append is_ascii xs ys ∙ both-of (list_all is_ascii xs) (list_all is_ascii ys) h k

glyph_ascii : (d : ℕ) → d < 16 → is_ascii (digit_glyph false d) ≡ true
glyph_ascii d h = grind (arith, nat_tests)

hex_ascii : (k n : ℕ) → list_all is_ascii (hex k n) ≡ true
hex_ascii zero n = refl
hex_ascii (suc k) n =
    joined (hex k (n / 16)) (digit_glyph false (n % 16) ∷ []) (hex_ascii k (n / 16))
    (both-of (is_ascii (digit_glyph false (n % 16))) true (glyph_ascii (n % 16) (omega arith)) refl)

cond_ascii : (b : Bool) (xs ys : List ℕ) → list_all is_ascii xs ≡ true → list_all is_ascii ys ≡ true → list_all is_ascii (cond b xs ys) ≡ true
cond_ascii true xs ys h k = h
cond_ascii false xs ys h k = k

short_ascii : (c : ℕ) → list_all is_ascii (short_escape c) ≡ true
unfolding short_escape
short_ascii c =
    cond_ascii (c == 92) _ _ refl (cond_ascii (c == 34) _ _ refl (cond_ascii (c == 10) _ _ refl (cond_ascii (c == 13) _ _ refl (cond_ascii (c == 9) _ _ refl refl))))

hex_escape_ascii : (bytes : Bool) (c : ℕ) → list_all is_ascii (hex_escape bytes c) ≡ true
unfolding hex_escape
hex_escape_ascii bytes c =
    cond_ascii (nat_lt c 128 || bytes) (codes "\\x" ++ hex 2 c) _ (joined (codes "\\x") (hex 2 c) refl (hex_ascii 2 c))
    (cond_ascii (nat_lt c 0x10000) (codes "\\u" ++ hex 4 c) (codes "\\U" ++ hex 8 c) (joined (codes "\\u") (hex 4 c) refl (hex_ascii 4 c))
    (joined (codes "\\U") (hex 8 c) refl (hex_ascii 8 c)))

printed_ascii : (c : ℕ) → is_printed c ≡ true → is_ascii c ≡ true
printed_ascii c h = grind (arith, nat_tests)

printed_or : (b : Bool) (c : ℕ) (ys : List ℕ) → is_printed c ≡ b → list_all is_ascii ys ≡ true → list_all is_ascii (cond b (c ∷ []) ys) ≡ true
printed_or true c ys e h = both-of (is_ascii c) true (printed_ascii c e) refl
printed_or false c ys e h = h

escaped_ascii : (bytes : Bool) (c : ℕ) → list_all is_ascii (escaped bytes c) ≡ true
unfolding escaped
escaped_ascii bytes c =
    cond_ascii (not (length (short_escape c) == 0)) (short_escape c) _ (short_ascii c)
    (printed_or (is_printed c) c (hex_escape bytes c) refl (hex_escape_ascii bytes c))

escapes_ascii : (bytes : Bool) (cs : List ℕ) → list_all is_ascii (flat_map (escaped bytes) cs) ≡ true
escapes_ascii bytes [] = refl
escapes_ascii bytes (c ∷ cs) = joined (escaped bytes c) (flat_map (escaped bytes) cs) (escaped_ascii bytes c) (escapes_ascii bytes cs)

plain_ascii : (cs : List ℕ) → list_all is_plain cs ≡ true → list_all is_ascii cs ≡ true
plain_ascii [] h = refl
plain_ascii (c ∷ cs) h =
    both-of (is_ascii c) (list_all is_ascii cs)
    (printed_ascii c (left-of (is_printed c) (not (c == 34)) (left-of (is_plain c) (list_all is_plain cs) h)))
    (plain_ascii cs (right-of (is_plain c) (list_all is_plain cs) h))

body_ascii : (raw bytes : Bool) (cs : List ℕ) → is_raw cs ≡ raw → list_all is_ascii (quoted_body raw bytes cs) ≡ true
unfolding is_raw
body_ascii true bytes cs e = joined (codes "r\"") cs refl (plain_ascii cs (left-of (list_all is_plain cs) (not (ends_in_backslash cs)) e))
body_ascii false bytes cs e = joined (codes "\"") (flat_map (escaped bytes) cs) refl (escapes_ascii bytes cs)

quoted_ascii : (bytes : Bool) (cs : List ℕ) → list_all is_ascii (quoted bytes cs) ≡ true
unfolding quoted
quoted_ascii bytes cs =
    joined (bytes_prefix bytes ++ quoted_body (is_raw cs) bytes cs) (codes "\"")
    (joined (bytes_prefix bytes) (quoted_body (is_raw cs) bytes cs) (cond_ascii bytes _ _ refl refl) (body_ascii (is_raw cs) bytes cs refl)) refl

ascii_at : (xs : List ℕ) → list_all is_ascii xs ≡ true → IsAscii xs
ascii_at [] h i = omega arith
ascii_at (x ∷ xs) h zero = grind (arith, nat_tests)
ascii_at (x ∷ xs) h (suc i) = ascii_at xs (right-of (is_ascii x) (list_all is_ascii xs) h) i

pub quoted_utf8 : (u : Universe) (text : List ℕ) → IsUtf8 (quoted_text u text)
quoted_utf8 u text = IsUtf8-from_ascii (quoted_text u text) (ascii_at (quoted_text u text) (quoted_ascii (is_bytes u) text))
