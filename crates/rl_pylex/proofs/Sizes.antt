-- A piece has at least one byte and lies within the text.
use Rattle.std.proofs.Common.{◌≡◌, ℕ, zero, suc, ◌+◌, ◌-◌, ◌<◌, ◌≤◌, Bool, true, false, cond, not, ◌&&◌, ◌||◌, List, [], ◌∷◌, length, get_or, drop, take, refl, sym, arith, Some, None, Option, subst, replicate}
use Rattle.std.specs.Prelude.{option_map, unwrap_or, ◌==◌, nat_eq, IfSome, ⊤}
use Rattle.std.specs.List.{prefix_len}
use Rattle.std.specs.Char.{is_ascii_digit}
use Rattle.std.proofs.lemmas.Bool.{false≢true}
use Rattle.std.proofs.lemmas.Bool.Decides.{nat_tests}
use Rattle.std.proofs.lemmas.List.{length-drop}
use Rattle.std.proofs.Math.ListN.{length-replicate, length-take}
use lib.Pointwise.{pointwise_long}
use Rattle.rl_pylex.specs.declared.token_list.TokenKind.{TokenKind}
use Rattle.rl_pylex.specs.declared.rules.Fit.{Fit}
use Rattle.rl_pylex.specs.declared.rules.Fit.TheVariants.{Passes, Takes, Breaks}
use Rattle.rl_pylex.specs.declared.rules.Reading.{Reading}
use Rattle.rl_pylex.specs.declared.rules.Reading.TheVariants.{Stray}
use Rattle.rl_pylex.specs.Bytes.{has_at, begins, ends_line, is_blank, is_backslash, in_line, starts_name, in_name, in_number, is_operator, line_end}
use Rattle.rl_pylex.specs.Literals.{close_from, quotes_at, quote_count, size_after, prefix_size, unit_size}
use Rattle.rl_pylex.specs.Rules.{takes_if, blank, joined_line, new_line, comment, literal, name, number, operator, reading_by, reading}
use Rattle.rl_pylex.specs.internal.Rows.{IsBoundedReading, line_end_kind}
use Rattle.rl_pylex.proofs.Fits.{fit_of_size, fit_after}
use Rattle.rl_pylex.proofs.Runs.{prefix_len-within}
use Rattle.rl_pylex.proofs.Fronts.{has_at-within}

abbrev IsBounded : Fit → ℕ → Type 0
IsBounded Passes len = ⊤
IsBounded (Takes n) len = (0 < n) × (n ≤ len)
IsBounded Breaks len = ⊤

takes_if-bounded : (b : Bool) (n len : ℕ) → (b ≡ true → (0 < n) × (n ≤ len)) → IsBounded (takes_if b n) len
takes_if-bounded true n len h = h refl
takes_if-bounded false n len h = tt

and-left : (b c : Bool) → (b && c) ≡ true → b ≡ true
and-left true c h = refl
and-left false c h = h

and-right : (b c : Bool) → (b && c) ≡ true → c ≡ true
and-right true c h = h
and-right false c h = absurd (false≢true h)

pub line_end-within : (xs : List ℕ) → line_end xs ≤ length xs
unfolding line_end
line_end-within [] = omega arith
line_end-within (x ∷ []) = grind (arith, nat_tests)
line_end-within (x ∷ y ∷ xs) = grind (arith, nat_tests)

some-of : (n : ℕ) → not (n == 0) ≡ true → 0 < n
some-of n h = grind (arith, nat_tests)

run_begins : (p q : ℕ → Bool) (xs : List ℕ) → has_at p 0 xs ≡ true → ((x : ℕ) → p x ≡ true → q x ≡ true) → 0 < prefix_len q xs
run_begins p q [] h f = absurd (false≢true h)
run_begins p q (x ∷ xs) h f = rw (f x h) (omega arith)

blank-bounded : (text : List ℕ) → IsBounded (blank text) (length text)
unfolding blank
blank-bounded text = takes_if-bounded (has_at is_blank 0 text) 1 (length text) (λ h. (omega arith, omega (arith, has_at-within is_blank 0 text h)))

operator-bounded : (text : List ℕ) → IsBounded (operator text) (length text)
unfolding operator
operator-bounded text = takes_if-bounded (has_at is_operator 0 text) 1 (length text) (λ h. (omega arith, omega (arith, has_at-within is_operator 0 text h)))

joined_line-bounded : (text : List ℕ) → IsBounded (joined_line text) (length text)
unfolding joined_line
joined_line-bounded text =
    takes_if-bounded (has_at is_backslash 0 text && not (line_end (drop 1 text) == 0)) (1 + line_end (drop 1 text)) (length text)
    (λ h. (omega arith, omega (arith, has_at-within is_backslash 0 text (and-left (has_at is_backslash 0 text) (not (line_end (drop 1 text) == 0)) h), line_end-within (drop 1 text), length-drop 1 text)))

new_line-bounded : (text : List ℕ) → IsBounded (new_line text) (length text)
unfolding new_line
new_line-bounded text = takes_if-bounded (not (line_end text == 0)) (line_end text) (length text) (λ h. (some-of (line_end text) h, line_end-within text))

hash_in_line : (x : ℕ) → (nat_eq 35 x && true) ≡ true → in_line x ≡ true
hash_in_line x h = grind (arith, nat_tests)

comment-bounded : (text : List ℕ) → IsBounded (comment text) (length text)
unfolding comment
comment-bounded [] = tt
comment-bounded (x ∷ xs) =
    takes_if-bounded (begins "#" (x ∷ xs)) (prefix_len in_line (x ∷ xs)) (length (x ∷ xs))
    (λ h. (run_begins (λ c. nat_eq 35 c && true) in_line (x ∷ xs) h hash_in_line, prefix_len-within in_line (x ∷ xs)))

in_name-started : (x : ℕ) → starts_name x ≡ true → in_name x ≡ true
in_name-started x h = grind (arith, nat_tests)

name-bounded : (text : List ℕ) → IsBounded (name text) (length text)
unfolding name
name-bounded text =
    takes_if-bounded (has_at starts_name 0 text) (prefix_len in_name text) (length text)
    (λ h. (run_begins starts_name in_name text h in_name-started, prefix_len-within in_name text))

in_number-started : (x : ℕ) (b : Bool) → (is_ascii_digit x || ((nat_eq 46 x && true) && b)) ≡ true → in_number x ≡ true
in_number-started x b h = grind (arith, nat_tests)

number-bounded : (text : List ℕ) → IsBounded (number text) (length text)
unfolding number
number-bounded [] = tt
number-bounded (x ∷ xs) =
    takes_if-bounded (is_ascii_digit x || ((nat_eq 46 x && true) && has_at is_ascii_digit 0 xs)) (prefix_len in_number (x ∷ xs)) (length (x ∷ xs))
    (λ h. (run_begins (λ c. is_ascii_digit c || ((nat_eq 46 c && true) && has_at is_ascii_digit 0 xs)) in_number (x ∷ xs) h (λ c e. in_number-started c (has_at is_ascii_digit 0 xs) e), prefix_len-within in_number (x ∷ xs)))

quotes_at-within : (count quote : ℕ) (xs : List ℕ) → quotes_at count quote xs ≡ true → count ≤ length xs
quotes_at-within count quote xs h =
    omega (arith, pointwise_long nat_eq (replicate count quote) (take (length (replicate count quote)) xs) h, length-replicate count quote, length-take (length (replicate count quote)) xs)

abbrev pub IsCloseOf : ℕ → ℕ → List ℕ → Option ℕ → Type 0
IsCloseOf count skip xs close = IfSome close (λ m. (skip + count ≤ m) × (m ≤ length xs))

closes_later : (count skip least x : ℕ) (xs : List ℕ) (close : Option ℕ) → least ≤ suc skip → IsCloseOf count skip xs close → IsCloseOf count least (x ∷ xs) (option_map suc close)
closes_later count skip least x xs None e h = tt
closes_later count skip least x xs (Some m) e h = (omega (arith, h.0), omega (arith, h.1))

closes_here : (count quote x : ℕ) (xs : List ℕ) (b c : Bool) (close : Option ℕ) → quotes_at count quote (x ∷ xs) ≡ b → IsCloseOf count 0 (x ∷ xs) close → IsCloseOf count 0 (x ∷ xs) (cond b (Some count) (cond c None close))
closes_here count quote x xs true c close e h = (omega arith, quotes_at-within count quote (x ∷ xs) e)
closes_here count quote x xs false true close e h = tt
closes_here count quote x xs false false close e h = h

pub close_from-within : (count quote skip : ℕ) (xs : List ℕ) → IsCloseOf count skip xs (close_from count quote skip xs)
close_from-within count quote skip [] = tt
close_from-within count quote (suc skip) (x ∷ xs) =
    closes_later count skip (suc skip) x xs (close_from count quote skip xs) (omega arith) (close_from-within count quote skip xs)
close_from-within count quote zero (x ∷ xs) =
    closes_here count quote x xs (quotes_at count quote (x ∷ xs)) (count == 1 && ends_line x) (option_map suc (close_from count quote (unit_size (x ∷ xs) - 1) xs)) refl
    (closes_later count (unit_size (x ∷ xs) - 1) 0 x xs (close_from count quote (unit_size (x ∷ xs) - 1) xs) (omega arith)
    (close_from-within count quote (unit_size (x ∷ xs) - 1) xs))

pub quote_count-some : (xs : List ℕ) → 0 < quote_count xs
unfolding quote_count
quote_count-some xs = grind (arith, nat_tests)

size_fits : (n quotes : ℕ) (text : List ℕ) (close : Option ℕ) → 0 < quotes → IsCloseOf quotes 0 (drop (n + quotes) text) close → IsBounded (fit_of_size (option_map (λ m. n + quotes + m) close)) (length text)
size_fits n quotes text None some h = tt
size_fits n quotes text (Some m) some h = (omega arith, omega (arith, h.0, h.1, length-drop (n + quotes) text))

fit_after-bounded : (size : Option ℕ) (text : List ℕ) → IsBounded (fit_after size text) (length text)
unfolding size_after
fit_after-bounded None text = tt
fit_after-bounded (Some n) text =
    size_fits n (quote_count (drop n text)) text (close_from (quote_count (drop n text)) (get_or text n 0) 0 (drop (n + quote_count (drop n text)) text))
    (quote_count-some (drop n text)) (close_from-within (quote_count (drop n text)) (get_or text n 0) 0 (drop (n + quote_count (drop n text)) text))

literal-bounded : (text : List ℕ) → IsBounded (literal text) (length text)
unfolding literal
literal-bounded text = fit_after-bounded (prefix_size text) text

first_fits : (fit : Fit) (kind : Option TokenKind) (others : Reading) (len : ℕ) → IsBounded fit len → IsBoundedReading others len → IsBoundedReading (unwrap_or (reading_by fit kind) others) len
first_fits Passes kind others len h rest = rest
first_fits (Takes n) kind others len h rest = h
first_fits Breaks kind others len h rest = tt

pub reading-bounded : (depth : ℕ) (text : List ℕ) → IsBoundedReading (reading depth text) (length text)
unfolding reading
reading-bounded depth text =
    let len = length text in
    first_fits (blank text) None _ len (blank-bounded text)
    (first_fits (joined_line text) None _ len (joined_line-bounded text)
    (first_fits (new_line text) (line_end_kind depth) _ len (new_line-bounded text)
    (first_fits (comment text) _ _ len (comment-bounded text)
    (first_fits (literal text) _ _ len (literal-bounded text)
    (first_fits (name text) _ _ len (name-bounded text)
    (first_fits (number text) _ _ len (number-bounded text)
    (first_fits (operator text) _ Stray len (operator-bounded text) tt)))))))

pub bounded : (depth : ℕ) (text : List ℕ) (r : Reading) → r ≡ reading depth text → IsBoundedReading r (length text)
bounded depth text r e =
    subst (λ (x : Reading). IsBoundedReading x (length text)) (sym e) (reading-bounded depth text)
