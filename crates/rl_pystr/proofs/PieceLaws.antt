-- Each code point of a quoted text is one unit again, and contains no closing quote.
use Rattle.std.proofs.Common.{◌≡◌, ℕ, suc, ◌+◌, ◌-◌, ◌<◌, Bool, true, false, cond, ◌&&◌, ◌||◌, not, List, [], ◌∷◌, ◌++◌, length, refl, ap, sym, ◌∙◌, arith, Some, None, Option, subst}
use Rattle.std.specs.Prelude.{◌==◌, nat_lt, nat_eq, option_map, Ok}
use Rattle.std.specs.List.{list_all}
use Rattle.std.specs.Char.{len_utf8}
use Rattle.std.proofs.lemmas.Bool.{false≢true}
use Rattle.std.proofs.lemmas.Bool.Decides.{nat_tests}
use Rattle.std.proofs.lemmas.Str.{len_utf8_ascii}
use Rattle.rl_pylex.specs.Bytes.{line_end, ends_line}
use Rattle.rl_pylex.specs.Literals.{unit_size, quotes_at, close_from}
use Rattle.rl_pystr.specs.declared.escapes.Gives.{Gives}
use Rattle.rl_pystr.specs.declared.escapes.Gives.TheVariants.{One, Refuses}
use Rattle.rl_pystr.specs.declared.escapes.Cause.TheVariants as cause
use Rattle.rl_pystr.specs.declared.placed.Placed.{Placed}
use Rattle.rl_pystr.specs.Escapes.{named_code, text_escape, escape, unit, size_of}
use Rattle.rl_pystr.specs.Values.{joined_results, given, value_from}
use Rattle.rl_pystr.specs.Quoting.{hex, short_escape, hex_escape, is_printed, escaped}
use Rattle.rl_pystr.proofs.HexLaws.{passes, length-hex, all_passing, hexadecimal_back}

abbrev pub is_ascii : ℕ → Bool
is_ascii c = nat_lt c 128

-- The spelling of a code point in a quoted text: its first byte and the others, which are ASCII, are one unit, which gives the
-- code point and contains no closing quote.
pub record IsPiece (bytes : Bool) (c : ℕ) (text : List ℕ) : Type 0 where
  pub head : ℕ
  pub tail : List ℕ
  pub is : text ≡ head ∷ tail
  pub head_ascii : is_ascii head ≡ true
  pub tail_ascii : list_all is_ascii tail ≡ true
  pub no_quote : nat_eq 34 head ≡ false
  pub unit_is : (rest : List ℕ) → unit false bytes (head ∷ (tail ++ rest)) ≡ One c (1 + length tail)
  pub goes_on : (rest : List ℕ) → close_from 1 34 0 (head ∷ (tail ++ rest)) ≡ option_map (λ m. 1 + length tail + m) (close_from 1 34 0 rest)

two_more : (o : Option ℕ) → option_map suc (option_map suc o) ≡ option_map (λ m. 1 + 1 + m) o
two_more None = refl
two_more (Some m) = ap Some (omega arith)

short_piece : (bytes : Bool) (c x : ℕ) → is_ascii x ≡ true → ((rest : List ℕ) → unit false bytes (92 ∷ x ∷ rest) ≡ One c 2)
    → ((rest : List ℕ) → close_from 1 34 0 (92 ∷ x ∷ rest) ≡ option_map suc (option_map suc (close_from 1 34 0 rest))) → IsPiece bytes c (92 ∷ x ∷ [])
short_piece bytes c x a u k =
    record {
      head = 92;
      tail = x ∷ [];
      is = refl;
      head_ascii = refl;
      tail_ascii = ap (λ b. b && true) a;
      no_quote = refl;
      unit_is = u;
      goes_on = λ rest. k rest ∙ two_more (close_from 1 34 0 rest);
    }

backslash_piece : (bytes : Bool) → IsPiece bytes 92 (92 ∷ 92 ∷ [])
unfolding line_end unit_size
backslash_piece bytes = short_piece bytes 92 92 refl (λ rest. refl) (λ rest. refl)

quote_piece : (bytes : Bool) → IsPiece bytes 34 (92 ∷ 34 ∷ [])
unfolding line_end unit_size
quote_piece bytes = short_piece bytes 34 34 refl (λ rest. refl) (λ rest. refl)

line_piece : (bytes : Bool) → IsPiece bytes 10 (92 ∷ 110 ∷ [])
unfolding line_end unit_size named_code
line_piece bytes = short_piece bytes 10 110 refl (λ rest. refl) (λ rest. refl)

return_piece : (bytes : Bool) → IsPiece bytes 13 (92 ∷ 114 ∷ [])
unfolding line_end unit_size named_code
return_piece bytes = short_piece bytes 13 114 refl (λ rest. refl) (λ rest. refl)

tab_piece : (bytes : Bool) → IsPiece bytes 9 (92 ∷ 116 ∷ [])
unfolding line_end unit_size named_code
tab_piece bytes = short_piece bytes 9 116 refl (λ rest. refl) (λ rest. refl)

-- A code point that needs no escape is a unit by itself.
pub no_line_end : (c : ℕ) (rest : List ℕ) → passes c ≡ true → line_end (c ∷ rest) ≡ 0
unfolding line_end
no_line_end c rest h = grind (arith, nat_tests)

pub one_code : (c : ℕ) (rest : List ℕ) → passes c ≡ true → unit_size (c ∷ rest) ≡ 1
unfolding unit_size
one_code c rest h = grind (arith, nat_tests)

no_quote_at : (c : ℕ) (rest : List ℕ) → passes c ≡ true → quotes_at 1 34 (c ∷ rest) ≡ false
no_quote_at c rest h = grind (arith, nat_tests)

no_line : (c : ℕ) → passes c ≡ true → ends_line c ≡ false
no_line c h = grind (arith, nat_tests)

on_by : (a b : Bool) (n : ℕ) (rest : List ℕ) → a ≡ false → b ≡ false → n ≡ 1
    → cond a (Some 1) (cond b None (option_map suc (close_from 1 34 (n - 1) rest))) ≡ option_map suc (close_from 1 34 0 rest)
on_by false false n rest ea eb e = ap (λ j. option_map suc (close_from 1 34 (j - 1) rest)) e
on_by true b n rest ea eb e = absurd (false≢true (sym ea))
on_by false true n rest ea eb e = absurd (false≢true (sym eb))

pub close_one : (c : ℕ) (rest : List ℕ) → passes c ≡ true → close_from 1 34 0 (c ∷ rest) ≡ option_map suc (close_from 1 34 0 rest)
close_one c rest h =
    on_by (quotes_at 1 34 (c ∷ rest)) (ends_line c) (unit_size (c ∷ rest)) rest (no_quote_at c rest h) (no_line c h) (one_code c rest h)

unit_by : (raw bytes : Bool) (n : ℕ) (a b : Bool) (other : Gives) (c : ℕ) → n ≡ 0 → (not raw && a) ≡ false → b ≡ false
    → cond (not (n == 0)) (One 10 n) (cond (not raw && a) other (cond (bytes && b) (Refuses cause.NotAscii 0) (One c 1))) ≡ One c 1
unit_by raw true n a b other c e ea eb = rw (e, ea, eb) refl
unit_by raw false n a b other c e ea eb = rw (e, ea) refl

passes_ascii : (c : ℕ) → passes c ≡ true → is_ascii c ≡ true
passes_ascii c h = grind (arith, nat_tests)

ascii_small : (c : ℕ) → is_ascii c ≡ true → c < 128
ascii_small c h = grind (arith, nat_tests)

ascii_low : (c : ℕ) → is_ascii c ≡ true → nat_lt 127 c ≡ false
ascii_low c h = grind (arith, nat_tests)

no_backslash : (c : ℕ) → passes c ≡ true → (c == 92) ≡ false
no_backslash c h = grind (arith, nat_tests)

passes_no_quote : (c : ℕ) → passes c ≡ true → nat_eq 34 c ≡ false
passes_no_quote c h = grind (arith, nat_tests)

pub plain_unit : (bytes : Bool) (c : ℕ) (rest : List ℕ) → passes c ≡ true → unit false bytes (c ∷ rest) ≡ One c 1
plain_unit bytes c rest h =
    unit_by false bytes (line_end (c ∷ rest)) (c == 92) (nat_lt 127 c) (escape bytes rest) c (no_line_end c rest h) (no_backslash c h) (ascii_low c (passes_ascii c h))

pub raw_unit : (bytes : Bool) (c : ℕ) (rest : List ℕ) → is_ascii c ≡ true → line_end (c ∷ rest) ≡ 0 → unit true bytes (c ∷ rest) ≡ One c 1
raw_unit bytes c rest h e =
    unit_by true bytes (line_end (c ∷ rest)) (c == 92) (nat_lt 127 c) (escape bytes rest) c e refl (ascii_low c h)

one_more : (o : Option ℕ) → option_map suc o ≡ option_map (λ m. 1 + 0 + m) o
one_more None = refl
one_more (Some m) = ap Some (omega arith)

plain_piece : (bytes : Bool) (c : ℕ) → passes c ≡ true → IsPiece bytes c (c ∷ [])
plain_piece bytes c h =
    record {
      head = c;
      tail = [];
      is = refl;
      head_ascii = passes_ascii c h;
      tail_ascii = refl;
      no_quote = passes_no_quote c h;
      unit_is = λ rest. plain_unit bytes c rest h;
      goes_on = λ rest. close_one c rest h ∙ one_more (close_from 1 34 0 rest);
    }

left-of : (b c : Bool) → (b && c) ≡ true → b ≡ true
left-of true c h = refl
left-of false c h = absurd (false≢true h)

right-of : (b c : Bool) → (b && c) ≡ true → c ≡ true
right-of true c h = h
right-of false c h = absurd (false≢true h)

both-of : (b c : Bool) → b ≡ true → c ≡ true → (b && c) ≡ true
both-of true c h k = k
both-of false c h k = h

no_more : (o : Option ℕ) → o ≡ option_map (λ m. 0 + m) o
no_more None = refl
no_more (Some m) = ap Some (omega arith)

more_then : (n : ℕ) (o : Option ℕ) → option_map suc (option_map (λ m. n + m) o) ≡ option_map (λ m. suc n + m) o
more_then n None = refl
more_then n (Some m) = ap Some (omega arith)

run_closes : (xs rest : List ℕ) → list_all passes xs ≡ true → close_from 1 34 0 (xs ++ rest) ≡ option_map (λ m. length xs + m) (close_from 1 34 0 rest)
run_closes [] rest h = no_more (close_from 1 34 0 rest)
run_closes (x ∷ xs) rest h =
    close_one x (xs ++ rest) (left-of (passes x) (list_all passes xs) h)
    ∙ ap (option_map suc) (run_closes xs rest (right-of (passes x) (list_all passes xs) h))
    ∙ more_then (length xs) (close_from 1 34 0 rest)

run_ascii : (xs : List ℕ) → list_all passes xs ≡ true → list_all is_ascii xs ≡ true
run_ascii [] h = refl
run_ascii (x ∷ xs) h =
    both-of (is_ascii x) (list_all is_ascii xs) (passes_ascii x (left-of (passes x) (list_all passes xs) h)) (run_ascii xs (right-of (passes x) (list_all passes xs) h))

after_two : (n : ℕ) (o : Option ℕ) → option_map suc (option_map suc (option_map (λ m. n + m) o)) ≡ option_map (λ m. 1 + suc n + m) o
after_two n None = refl
after_two n (Some m) = ap Some (omega arith)

hex_piece : (bytes : Bool) (c letter k : ℕ) → is_ascii letter ≡ true → ((rest : List ℕ) → unit false bytes (92 ∷ letter ∷ (hex k c ++ rest)) ≡ One c (2 + k))
    → ((rest : List ℕ) → close_from 1 34 0 (92 ∷ letter ∷ rest) ≡ option_map suc (option_map suc (close_from 1 34 0 rest))) → IsPiece bytes c (92 ∷ letter ∷ hex k c)
hex_piece bytes c letter k a u closes =
    record {
      head = 92;
      tail = letter ∷ hex k c;
      is = refl;
      head_ascii = refl;
      tail_ascii = both-of (is_ascii letter) (list_all is_ascii (hex k c)) a (run_ascii (hex k c) (all_passing k c));
      no_quote = refl;
      unit_is = λ rest. u rest ∙ ap (One c) (longer (length (hex k c)) k (length-hex k c));
      goes_on = λ rest. closes (hex k c ++ rest) ∙ ap (λ o. option_map suc (option_map suc o)) (run_closes (hex k c) rest (all_passing k c)) ∙ after_two (length (hex k c)) (close_from 1 34 0 rest);
    }
  where
    longer : (n m : ℕ) → n ≡ m → 2 + m ≡ 1 + suc n
    longer n m e = omega arith

x_piece : (bytes : Bool) (c : ℕ) → c < 256 → IsPiece bytes c (92 ∷ 120 ∷ hex 2 c)
unfolding line_end unit_size
x_piece bytes c h = hex_piece bytes c 120 2 refl (λ rest. hexadecimal_back 2 c rest h (omega arith)) (λ rest. refl)

u_piece : (c : ℕ) → c < 65536 → IsPiece false c (92 ∷ 117 ∷ hex 4 c)
unfolding line_end unit_size named_code text_escape
u_piece c h = hex_piece false c 117 4 refl (λ rest. hexadecimal_back 4 c rest h (omega arith)) (λ rest. refl)

long_piece : (c : ℕ) → c < 1114112 → IsPiece false c (92 ∷ 85 ∷ hex 8 c)
unfolding line_end unit_size named_code text_escape
long_piece c h = hex_piece false c 85 8 refl (λ rest. hexadecimal_back 8 c rest (omega arith) (omega arith)) (λ rest. refl)

abbrev pub top : Bool → ℕ
top bytes = cond bytes 256 1114112

below : (n c : ℕ) → nat_lt c n ≡ true → c < n
below n c h = grind (arith, nat_tests)

hex_escape_piece : (bytes : Bool) (c : ℕ) → c < top bytes → IsPiece bytes c (hex_escape bytes c)
unfolding hex_escape
hex_escape_piece bytes c h = by-tests bytes (nat_lt c 128) (nat_lt c 65536) h (below 128 c) (below 65536 c)
  where
    by-tests : (y a b : Bool) → c < top y → (a ≡ true → c < 128) → (b ≡ true → c < 65536)
        → IsPiece y c (cond (a || y) (92 ∷ 120 ∷ hex 2 c) (cond b (92 ∷ 117 ∷ hex 4 c) (92 ∷ 85 ∷ hex 8 c)))
    by-tests y true b t f g =
        let small : c < 128 = f refl in x_piece y c (omega arith)
    by-tests true false b t f g = x_piece true c t
    by-tests false false true t f g = u_piece c (g refl)
    by-tests false false false t f g = long_piece c t

is_code : (n c : ℕ) → (c == n) ≡ true → n ≡ c
is_code n c h = grind (arith, nat_tests)

printed_passes : (c : ℕ) → is_printed c ≡ true → (c == 92) ≡ false → (c == 34) ≡ false → passes c ≡ true
printed_passes c h a b = grind (arith, nat_tests)

pub piece_of : (bytes : Bool) (c : ℕ) → c < top bytes → IsPiece bytes c (escaped bytes c)
unfolding escaped short_escape
piece_of bytes c h = by-tests (c == 92) (c == 34) (c == 10) (c == 13) (c == 9) (is_printed c) refl refl (is_code 10 c) (is_code 13 c) (is_code 9 c) refl
  where
    by-tests : (a b d e f p : Bool) → (c == 92) ≡ a → (c == 34) ≡ b → (d ≡ true → 10 ≡ c) → (e ≡ true → 13 ≡ c) → (f ≡ true → 9 ≡ c) → is_printed c ≡ p
        → IsPiece bytes c (cond (not (length {A = ℕ} (cond a (92 ∷ 92 ∷ []) (cond b (92 ∷ 34 ∷ []) (cond d (92 ∷ 110 ∷ []) (cond e (92 ∷ 114 ∷ []) (cond f (92 ∷ 116 ∷ []) []))))) == 0))
        (cond a (92 ∷ 92 ∷ []) (cond b (92 ∷ 34 ∷ []) (cond d (92 ∷ 110 ∷ []) (cond e (92 ∷ 114 ∷ []) (cond f (92 ∷ 116 ∷ []) [])))))
        (cond p (c ∷ []) (hex_escape bytes c)))
    by-tests true b d e f p ea eb ed ee ef ep = subst (λ k. IsPiece bytes k (92 ∷ 92 ∷ [])) (is_code 92 c ea) (backslash_piece bytes)
    by-tests false true d e f p ea eb ed ee ef ep = subst (λ k. IsPiece bytes k (92 ∷ 34 ∷ [])) (is_code 34 c eb) (quote_piece bytes)
    by-tests false false true e f p ea eb ed ee ef ep = subst (λ k. IsPiece bytes k (92 ∷ 110 ∷ [])) (ed refl) (line_piece bytes)
    by-tests false false false true f p ea eb ed ee ef ep = subst (λ k. IsPiece bytes k (92 ∷ 114 ∷ [])) (ee refl) (return_piece bytes)
    by-tests false false false false true p ea eb ed ee ef ep = subst (λ k. IsPiece bytes k (92 ∷ 116 ∷ [])) (ef refl) (tab_piece bytes)
    by-tests false false false false false true ea eb ed ee ef ep = plain_piece bytes c (printed_passes c ep ea eb)
    by-tests false false false false false false ea eb ed ee ef ep = hex_escape_piece bytes c h

-- The rest of a unit is skipped.
skips : (raw bytes : Bool) (place : ℕ) (xs rest : List ℕ) → list_all is_ascii xs ≡ true → value_from raw bytes place (length xs) (xs ++ rest) ≡ value_from raw bytes (place + length xs) 0 rest
skips raw bytes place [] rest h = ap (λ k. value_from raw bytes k 0 rest) (omega arith)
skips raw bytes place (x ∷ xs) rest h =
    ap (λ n. value_from raw bytes (place + n) (length xs) (xs ++ rest)) (len_utf8_ascii x (ascii_small x (left-of (is_ascii x) (list_all is_ascii xs) h)))
    ∙ skips raw bytes (place + 1) xs rest (right-of (is_ascii x) (list_all is_ascii xs) h)
    ∙ ap (λ k. value_from raw bytes k 0 rest) (omega arith)

-- One code point at a place.
abbrev pub one : ℕ → ℕ → Placed
one code place = record { codes = code ∷ []; places = place ∷ [] }

-- A unit that gives one code point puts it before the value of the rest.
pub unit_back : (raw bytes : Bool) (place c x : ℕ) (xs rest : List ℕ) → is_ascii x ≡ true → list_all is_ascii xs ≡ true → unit raw bytes (x ∷ (xs ++ rest)) ≡ One c (1 + length xs)
    → value_from raw bytes place 0 (x ∷ (xs ++ rest)) ≡ joined_results (Ok (one c place)) (value_from raw bytes (place + 1 + length xs) 0 rest)
unit_back raw bytes place c x xs rest a all e =
    ap (λ u. joined_results (given u place) (value_from raw bytes (place + len_utf8 x) (size_of u - 1) (xs ++ rest))) e
    ∙ ap (λ n. joined_results (Ok (one c place)) (value_from raw bytes (place + n) (1 + length xs - 1) (xs ++ rest))) (len_utf8_ascii x (ascii_small x a))
    ∙ ap (λ k. joined_results (Ok (one c place)) (value_from raw bytes (place + 1) k (xs ++ rest))) (less (length xs))
    ∙ ap (joined_results (Ok (one c place))) (skips raw bytes (place + 1) xs rest all)
  where
    less : (n : ℕ) → 1 + n - 1 ≡ n
    less n = omega arith
