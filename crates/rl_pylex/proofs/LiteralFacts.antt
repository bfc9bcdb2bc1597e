-- The text of a literal token is a literal by itself: it has its prefix, its quotes, its body and the closing quotes.
use Rattle.std.proofs.Common.{◌≡◌, ℕ, zero, suc, ◌+◌, ◌-◌, ◌<◌, ◌≤◌, ◌⊎◌, Bool, true, false, cond, ◌&&◌, List, [], ◌∷◌, length, get_or, drop, take, replicate, refl, ap, sym, ◌∙◌, arith, Some, None, Option, subst, inl, inr}
use Rattle.std.specs.Prelude.{unwrap_or, option_map, nat_eq, ◌==◌, ◌≢◌}
use Rattle.std.specs.List.{starts_with}
use Rattle.std.specs.Str.{str_to_ascii_lowercase}
use Rattle.std.proofs.lemmas.Bool.{false≢true}
use Rattle.std.proofs.lemmas.Bool.Decides.{nat_tests}
use Rattle.std.proofs.lemmas.List.{length-drop}
use Rattle.std.proofs.Math.ListN.{length-replicate, length-take}
use lib.Pointwise.{pointwise, pointwise_long}
use Rattle.rl_pylex.specs.declared.token_list.TokenKind.{TokenKind}
use Rattle.rl_pylex.specs.declared.token_list.TokenKind.TheVariants as kind
use Rattle.rl_pylex.specs.declared.token_list.Token.{Token}
use Rattle.rl_pylex.specs.declared.rules.Fit.{Fit}
use Rattle.rl_pylex.specs.declared.rules.Fit.TheVariants.{Passes, Takes, Breaks}
use Rattle.rl_pylex.specs.declared.rules.Reading.{Reading}
use Rattle.rl_pylex.specs.declared.rules.Reading.TheVariants.{Piece, Unterminated, Stray}
use Rattle.rl_pylex.specs.Bytes.{has_at, begins, is_backslash, is_quote, ends_line}
use Rattle.rl_pylex.specs.Literals.{is_prefix, opens_after, prefix_size, quotes_at, quote_count, unit_size, close_from, size_after, IsLiteral}
use Rattle.rl_pylex.specs.Rules.{blank, joined_line, new_line, comment, literal, name, number, operator, reading_by, reading}
use Rattle.rl_pylex.specs.internal.Rows.{line_end_kind}
use Rattle.rl_pylex.proofs.Fits.{fit_of_size, fit_after}
use Rattle.rl_pylex.specs.Source.{text_of, IsReadAt}
use Rattle.rl_pylex.proofs.Sizes.{IsCloseOf, close_from-within, quote_count-some}

-- A prefix of a prefix of a list.
take-shorter : (k m : ℕ) (xs : List ℕ) → k ≤ m → take k (take m xs) ≡ take k xs
take-shorter zero m xs h = refl
take-shorter (suc k) zero xs h = absurd (omega arith)
take-shorter (suc k) (suc m) [] h = refl
take-shorter (suc k) (suc m) (x ∷ xs) h = ap (λ ys. x ∷ ys) (take-shorter k m xs (omega arith))

take-nil : (i : ℕ) → take {A = ℕ} i [] ≡ []
take-nil zero = refl
take-nil (suc i) = refl

drop-of-take : (n k : ℕ) (xs : List ℕ) → drop n (take (n + k) xs) ≡ take k (drop n xs)
drop-of-take zero k xs = ap (λ j. take j xs) (omega arith)
drop-of-take (suc n) k [] = ap (drop (suc n)) (take-nil (suc n + k)) ∙ sym (take-nil k)
drop-of-take (suc n) k (x ∷ xs) =
    ap (λ j. drop (suc n) (take j (x ∷ xs))) same ∙ drop-of-take n k xs
  where
    same : suc n + k ≡ suc (n + k)
    same = omega arith

starts-take : (needle xs : List ℕ) (m : ℕ) → length needle ≤ m → starts_with nat_eq (take m xs) needle ≡ starts_with nat_eq xs needle
starts-take needle xs m h = ap (pointwise nat_eq needle) (take-shorter (length needle) m xs h)

-- If the first m bytes of a text begin with something, so does the text.
starts-of_take : (needle xs : List ℕ) (m : ℕ) → starts_with nat_eq (take m xs) needle ≡ true → starts_with nat_eq xs needle ≡ true
starts-of_take needle xs m h =
    let inside : length needle ≤ m = omega (arith, pointwise_long nat_eq needle (take (length needle) (take m xs)) h, length-take (length needle) (take m xs), length-take m xs) in
    sym (starts-take needle xs m inside) ∙ h

quotes_at-take : (count quote m : ℕ) (xs : List ℕ) → count ≤ m → quotes_at count quote (take m xs) ≡ quotes_at count quote xs
quotes_at-take count quote m xs h = starts-take (replicate count quote) xs m (omega (arith, length-replicate count quote))

quotes_at-of_take : (count quote m : ℕ) (xs : List ℕ) → quotes_at count quote xs ≡ false → quotes_at count quote (take m xs) ≡ false
quotes_at-of_take count quote m xs e = by-test (quotes_at count quote (take m xs)) refl
  where
    by-test : (b : Bool) → quotes_at count quote (take m xs) ≡ b → b ≡ false
    by-test true h = absurd (false≢true (sym e ∙ starts-of_take (replicate count quote) xs m h))
    by-test false h = refl

has_at-take : (p : ℕ → Bool) (k m : ℕ) (xs : List ℕ) → k < m → has_at p k (take m xs) ≡ has_at p k xs
has_at-take p k zero xs h = absurd (omega arith)
has_at-take p k (suc m) [] h = refl
has_at-take p zero (suc m) (x ∷ xs) h = refl
has_at-take p (suc k) (suc m) (x ∷ xs) h = has_at-take p k m xs (omega arith)

get_or-of-take : (k m : ℕ) (xs : List ℕ) → k < m → get_or (take m xs) k 0 ≡ get_or xs k 0
get_or-of-take k zero xs h = absurd (omega arith)
get_or-of-take k (suc m) [] h = refl
get_or-of-take zero (suc m) (x ∷ xs) h = refl
get_or-of-take (suc k) (suc m) (x ∷ xs) h = get_or-of-take k m xs (omega arith)

-- The size of a unit, which is the same in the first bytes of a text if it lies within them.
escaped_size : Bool → ℕ
escaped_size b = cond b 3 2

two_at_least : (b : Bool) → 2 ≤ escaped_size b
unfolding escaped_size
two_at_least true = omega arith
two_at_least false = omega arith

unit-by : (back : Bool) (m : ℕ) (xs : List ℕ) → cond back (escaped_size (begins "\r\n" xs)) 1 ≤ m
    → cond back (escaped_size (begins "\r\n" (take m xs))) 1 ≡ cond back (escaped_size (begins "\r\n" xs)) 1
unit-by false m xs h = refl
unit-by true m xs h =
    ap escaped_size (starts-take (13 ∷ 10 ∷ []) xs m (omega (arith, two_at_least (begins "\r\n" xs))))

unit_size-take : (x m : ℕ) (xs : List ℕ) → unit_size (x ∷ xs) ≤ m → unit_size (x ∷ take m xs) ≡ unit_size (x ∷ xs)
unfolding unit_size escaped_size
unit_size-take x m xs h = unit-by (is_backslash x) m xs h

none_is_no : (o : Option ℕ) (m : ℕ) → o ≡ None → o ≡ Some m → ⊥
none_is_no o m none some = cc

one_value : (k m : ℕ) → Some k ≡ Some m → k ≡ m
one_value k m e = cc

pub suc_of : (o : Option ℕ) (m : ℕ) → option_map suc o ≡ Some m → (k : ℕ) × (o ≡ Some k) × (m ≡ suc k)
suc_of None m e = absurd (none_is_no None m refl e)
suc_of (Some k) m e = (k, refl, sym (one_value (suc k) m e))

cond-same : (b b' c c' : Bool) (x z z' : Option ℕ) → b ≡ b' → c ≡ c' → z ≡ z' → cond b x (cond c None z) ≡ cond b' x (cond c' None z')
cond-same b b' c c' x z z' e f g = cc

-- The cases of the search at the beginning of a body.
CloseCases : ℕ → ℕ → ℕ → List ℕ → ℕ → Type 0
CloseCases count quote x xs m =
    ((quotes_at count quote (x ∷ xs) ≡ true) × (count ≡ m))
    ⊎ ((quotes_at count quote (x ∷ xs) ≡ false) × ((count == 1 && ends_line x) ≡ false)
    × (option_map suc (close_from count quote (unit_size (x ∷ xs) - 1) xs) ≡ Some m))

close_cases : (count quote x : ℕ) (xs : List ℕ) (m : ℕ) → close_from count quote 0 (x ∷ xs) ≡ Some m → CloseCases count quote x xs m
unfolding CloseCases
close_cases count quote x xs m e =
    by-tests (quotes_at count quote (x ∷ xs)) (count == 1 && ends_line x) (option_map suc (close_from count quote (unit_size (x ∷ xs) - 1) xs)) e
  where
    by-tests : (b c : Bool) (o : Option ℕ) → cond b (Some count) (cond c None o) ≡ Some m → ((b ≡ true) × (count ≡ m)) ⊎ ((b ≡ false) × (c ≡ false) × (o ≡ Some m))
    by-tests true c o h = inl (refl, one_value count m h)
    by-tests false true o h = absurd (none_is_no None m refl h)
    by-tests false false o h = inr (refl, refl, h)

closes_in : (count quote x k : ℕ) (xs : List ℕ) → 0 < count → count ≡ suc k → quotes_at count quote (x ∷ xs) ≡ true → close_from count quote 0 (x ∷ take k xs) ≡ Some count
closes_in count quote x k xs some e q =
    ap (λ (b : Bool). cond b (Some count) (cond (count == 1 && ends_line x) None (option_map suc (close_from count quote (unit_size (x ∷ take k xs) - 1) (take k xs)))))
    (quotes_at-take count quote (suc k) (x ∷ xs) (omega arith) ∙ q)

goes_on_in : (count quote x k : ℕ) (xs : List ℕ) → quotes_at count quote (x ∷ xs) ≡ false → (count == 1 && ends_line x) ≡ false → unit_size (x ∷ xs) ≤ k
    → close_from count quote (unit_size (x ∷ xs) - 1) (take k xs) ≡ Some k → close_from count quote 0 (x ∷ take k xs) ≡ Some (suc k)
goes_on_in count quote x k xs q l u later =
    cond-same (quotes_at count quote (x ∷ take k xs)) false (count == 1 && ends_line x) false (Some count)
    (option_map suc (close_from count quote (unit_size (x ∷ take k xs) - 1) (take k xs))) (Some (suc k))
    (quotes_at-of_take count quote (suc k) (x ∷ xs) q) l
    (ap (λ n. option_map suc (close_from count quote (n - 1) (take k xs))) (unit_size-take x k xs u) ∙ ap (option_map suc) later)

within_close : (count quote skip k : ℕ) (xs : List ℕ) → close_from count quote skip xs ≡ Some k → (skip + count ≤ k) × (k ≤ length xs)
within_close count quote skip k xs e =
    subst (λ (o : Option ℕ). IsCloseOf count skip xs o) e (close_from-within count quote skip xs)

unit_size-some : (xs : List ℕ) → 0 < unit_size xs
unfolding unit_size
unit_size-some xs = grind (arith, nat_tests)

at_front : (count quote m x : ℕ) (xs : List ℕ) → 0 < count → CloseCases count quote x xs m
    → ((k : ℕ) → close_from count quote (unit_size (x ∷ xs) - 1) xs ≡ Some k → close_from count quote (unit_size (x ∷ xs) - 1) (take k xs) ≡ Some k)
    → close_from count quote 0 (take m (x ∷ xs)) ≡ Some m
unfolding CloseCases
at_front count quote m x xs some (inl here) later =
    let e : suc (count - 1) ≡ m = omega (arith, here.1) in
    subst (λ (n : ℕ). close_from count quote 0 (take n (x ∷ xs)) ≡ Some n) e
    (closes_in count quote x (count - 1) xs some (omega arith) here.0 ∙ ap Some (omega arith))
at_front count quote m x xs some (inr on) later =
    let next = suc_of (close_from count quote (unit_size (x ∷ xs) - 1) xs) m on.2 in
    let bound = within_close count quote (unit_size (x ∷ xs) - 1) next.0 xs next.1 in
    subst (λ (n : ℕ). close_from count quote 0 (take n (x ∷ xs)) ≡ Some n) (sym next.2)
    (goes_on_in count quote x next.0 xs on.0 on.1 (omega (arith, bound.0, unit_size-some (x ∷ xs))) (later next.0 next.1))

-- The closing quotes are also found in the part of the text that they end.
close_from-take : (count quote skip m : ℕ) (xs : List ℕ) → 0 < count → close_from count quote skip xs ≡ Some m → close_from count quote skip (take m xs) ≡ Some m
close_from-take count quote skip m [] some e = absurd (none_is_no None m refl e)
close_from-take count quote (suc skip) m (x ∷ xs) some e =
    let later = suc_of (close_from count quote skip xs) m e in
    subst (λ (n : ℕ). close_from count quote (suc skip) (take n (x ∷ xs)) ≡ Some n) (sym later.2)
    (ap (option_map suc) (close_from-take count quote skip later.0 xs some later.1))
close_from-take count quote zero m (x ∷ xs) some e =
    at_front count quote m x xs some (close_cases count quote x xs m e) (λ k f. close_from-take count quote (unit_size (x ∷ xs) - 1) k xs some f)

count_by : Bool → ℕ
count_by b = cond b 3 1

count_by-some : (b : Bool) → 0 < count_by b
unfolding count_by
count_by-some true = omega arith
count_by-some false = omega arith

count-take : (b : Bool) (quote k : ℕ) (ys : List ℕ) → quotes_at 3 quote ys ≡ b → count_by b ≤ k → quotes_at 3 quote (take k ys) ≡ b
unfolding count_by
count-take true quote k ys e h = quotes_at-take 3 quote k ys h ∙ e
count-take false quote k ys e h = quotes_at-of_take 3 quote k ys e

quote_count-take : (k : ℕ) (ys : List ℕ) → quote_count ys ≤ k → quote_count (take k ys) ≡ quote_count ys
unfolding quote_count count_by
quote_count-take k ys h =
    ap (λ q. count_by (quotes_at 3 q (take k ys))) (get_or-of-take 0 k ys (omega (arith, h, count_by-some (quotes_at 3 (get_or ys 0 0) ys))))
    ∙ ap count_by (count-take (quotes_at 3 (get_or ys 0 0) ys) (get_or ys 0 0) k ys refl h)

map_of : (f : ℕ → ℕ) (o : Option ℕ) (m : ℕ) → option_map f o ≡ Some m → (k : ℕ) × (o ≡ Some k) × (m ≡ f k)
map_of f None m e = absurd (none_is_no None m refl e)
map_of f (Some k) m e = (k, refl, sym (one_value (f k) m e))

-- The parts of a size: the quotes, and the bytes up to the end of the closing quotes.
pub record Sized (n : ℕ) (text : List ℕ) (m : ℕ) : Type 0 where
  pub close : ℕ
  pub found : close_from (quote_count (drop n text)) (get_or text n 0) 0 (drop (n + quote_count (drop n text)) text) ≡ Some close
  pub size : m ≡ n + quote_count (drop n text) + close
  pub room : quote_count (drop n text) ≤ close
  pub some : 0 < quote_count (drop n text)

pub Sized-from : (n : ℕ) (text : List ℕ) (m : ℕ) → size_after n text ≡ Some m → Sized n text m
unfolding size_after
Sized-from n text m e =
    let q = quote_count (drop n text) in
    let parts = map_of (λ j. n + q + j) (close_from q (get_or text n 0) 0 (drop (n + q) text)) m e in
    record {
      close = parts.0;
      found = parts.1;
      size = parts.2;
      room = omega (arith, (within_close q (get_or text n 0) 0 parts.0 (drop (n + q) text) parts.1).0);
      some = quote_count-some (drop n text);
    }

sized_by : ℕ → ℕ → ℕ → List ℕ → Option ℕ
sized_by n q c body = option_map (λ j. n + q + j) (close_from q c 0 body)

pub size_after-is : (n q c j : ℕ) (text body : List ℕ) → quote_count (drop n text) ≡ q → get_or text n 0 ≡ c → drop (n + q) text ≡ body → close_from q c 0 body ≡ Some j → size_after n text ≡ Some (n + q + j)
unfolding size_after sized_by
size_after-is n q c j text body quotes quote rest close =
    ap (λ k. sized_by n k (get_or text n 0) (drop (n + k) text)) quotes
    ∙ ap (λ d. sized_by n q d (drop (n + q) text)) quote
    ∙ ap (sized_by n q c) rest
    ∙ ap (option_map (λ k. n + q + k)) close

size_after-take : (n m : ℕ) (text : List ℕ) → size_after n text ≡ Some m → size_after n (take m text) ≡ Some m
size_after-take n m text e =
    let z = Sized-from n text m e in
    let q = quote_count (drop n text) in
    let from_quotes : drop n (take m text) ≡ take (q + z.close) (drop n text) =
    ap (λ k. drop n (take k text)) (z.size ∙ add_assoc' n q z.close) ∙ drop-of-take n (q + z.close) text in
    let body : drop (n + q) (take m text) ≡ take z.close (drop (n + q) text) =
    ap (λ k. drop (n + q) (take k text)) z.size ∙ drop-of-take (n + q) z.close text in
    size_after-is n q (get_or text n 0) z.close (take m text) (take z.close (drop (n + q) text))
    (ap quote_count from_quotes ∙ quote_count-take (q + z.close) (drop n text) (omega arith))
    (get_or-of-take n m text (omega (arith, z.size, z.some)))
    body
    (close_from-take q (get_or text n 0) 0 z.close (drop (n + q) text) z.some z.found)
    ∙ ap Some (sym z.size)
  where
    add_assoc' : (a b c : ℕ) → a + b + c ≡ a + (b + c)
    add_assoc' a b c = omega arith

opens_after-take : (k m : ℕ) (text : List ℕ) → k < m → opens_after (take m text) k ≡ opens_after text k
unfolding opens_after
opens_after-take k m text h =
    ap (λ (xs : List ℕ). is_prefix (str_to_ascii_lowercase xs) && has_at is_quote k (take m text)) (take-shorter k m text (omega arith))
    ∙ ap (λ (b : Bool). is_prefix (str_to_ascii_lowercase (take k text)) && b) (has_at-take is_quote k m text h)

first_of : Bool → Bool → Bool → Option ℕ
first_of a b c = cond a (Some 0) (cond b (Some 1) (cond c (Some 2) None))

first_of-same : (a b c a' b' c' : Bool) (n m : ℕ) → first_of a b c ≡ Some n → n < m → (0 < m → a' ≡ a) → (1 < m → b' ≡ b) → (2 < m → c' ≡ c) → first_of a' b' c' ≡ Some n
unfolding first_of
first_of-same true b c a' b' c' n m e h ea eb ec = rw (ea (omega arith)) e
first_of-same false true c a' b' c' n m e h ea eb ec =
    let one : 1 ≡ n = one_value 1 n e in
    rw (ea (omega arith), eb (omega arith)) e
first_of-same false false true a' b' c' n m e h ea eb ec =
    let two : 2 ≡ n = one_value 2 n e in
    rw (ea (omega arith), eb (omega arith), ec (omega arith)) e
first_of-same false false false a' b' c' n m e h ea eb ec = absurd (none_is_no None n refl e)

prefix_size-take : (n m : ℕ) (text : List ℕ) → prefix_size text ≡ Some n → n < m → prefix_size (take m text) ≡ Some n
unfolding prefix_size first_of
prefix_size-take n m text e h =
    first_of-same (opens_after text 0) (opens_after text 1) (opens_after text 2) (opens_after (take m text) 0) (opens_after (take m text) 1) (opens_after (take m text) 2) n m e h
    (λ k. opens_after-take 0 m text k) (λ k. opens_after-take 1 m text k) (λ k. opens_after-take 2 m text k)

passes_is_no : (f : Fit) (m : ℕ) → f ≡ Passes → f ≡ Takes m → ⊥
passes_is_no f m p t = cc

breaks_is_no : (f : Fit) (m : ℕ) → f ≡ Breaks → f ≡ Takes m → ⊥
breaks_is_no f m p t = cc

one_size : (k m : ℕ) → Takes k ≡ Takes m → k ≡ m
one_size k m e = cc

fit_of_size-takes : (o : Option ℕ) (m : ℕ) → fit_of_size o ≡ Takes m → o ≡ Some m
fit_of_size-takes None m e = absurd (breaks_is_no Breaks m refl e)
fit_of_size-takes (Some k) m e = ap Some (one_size k m e)

fit_after-takes : (o : Option ℕ) (text : List ℕ) (m : ℕ) → fit_after o text ≡ Takes m → (n : ℕ) × (o ≡ Some n) × (size_after n text ≡ Some m)
fit_after-takes None text m e = absurd (passes_is_no Passes m refl e)
fit_after-takes (Some n) text m e = (n, refl, fit_of_size-takes (size_after n text) m e)

-- A literal has a prefix and a size.
pub literal-takes : (text : List ℕ) (m : ℕ) → literal text ≡ Takes m → (n : ℕ) × (prefix_size text ≡ Some n) × (size_after n text ≡ Some m)
unfolding literal
literal-takes text m e = fit_after-takes (prefix_size text) text m e

-- The bytes that a literal takes are a literal by themselves.
pub IsLiteral-take : (text : List ℕ) (m : ℕ) → literal text ≡ Takes m → m ≤ length text → IsLiteral (take m text)
IsLiteral-take text m e h =
    let parts = literal-takes text m e in
    let z = Sized-from parts.0 text m parts.2 in
    let long : m ≡ length (take m text) = omega (arith, length-take m text) in
    record {
      prefix = parts.0;
      starts = prefix_size-take parts.0 m text parts.1 (omega (arith, z.size, z.some));
      closes = size_after-take parts.0 m text parts.2 ∙ ap Some long;
    }

-- The prefix of a literal, its quotes at both ends and its body fit in it.
pub IsLiteral-room : (text : List ℕ) (l : IsLiteral text) → l.prefix + quote_count (drop l.prefix text) + quote_count (drop l.prefix text) ≤ length text
IsLiteral-room text l =
    let z = Sized-from l.prefix text (length text) l.closes in omega (arith, z.size, z.room)

other_kind : (k : Option TokenKind) (f : Fit) (others : Reading) (m : ℕ) → k ≢ Some kind.Literal → unwrap_or (reading_by f k) others ≡ Piece (Some kind.Literal) m → others ≡ Piece (Some kind.Literal) m
other_kind k Passes others m never e = e
other_kind k (Takes n) others m never e = absurd (never (same k n m e))
  where
    same : (k : Option TokenKind) (n m : ℕ) → Piece k n ≡ Piece (Some kind.Literal) m → k ≡ Some kind.Literal
    same k n m e = cc
other_kind k Breaks others m never e = absurd (apart m e)
  where
    apart : (m : ℕ) → Unterminated ≡ Piece (Some kind.Literal) m → ⊥
    apart m e = cc

this_kind : (f : Fit) (others : Reading) (m : ℕ) → (others ≡ Piece (Some kind.Literal) m → ⊥) → unwrap_or (reading_by f (Some kind.Literal)) others ≡ Piece (Some kind.Literal) m → f ≡ Takes m
this_kind Passes others m never e = absurd (never e)
this_kind (Takes n) others m never e = ap Takes (same n m e)
  where
    same : (n m : ℕ) → Piece (Some kind.Literal) n ≡ Piece (Some kind.Literal) m → n ≡ m
    same n m e = cc
this_kind Breaks others m never e = absurd (apart m e)
  where
    apart : (m : ℕ) → Unterminated ≡ Piece (Some kind.Literal) m → ⊥
    apart m e = cc

stray_is_no : (m : ℕ) → Stray ≡ Piece (Some kind.Literal) m → ⊥
stray_is_no m e = cc

none_kind : None ≡ Some kind.Literal → ⊥
none_kind e = cc

line_kind : (depth : ℕ) → line_end_kind depth ≢ Some kind.Literal
line_kind depth e = by-test (depth == 0) e
  where
    by-test : (b : Bool) → cond b (Some kind.LineEnd) None ≡ Some kind.Literal → ⊥
    by-test true h = cc
    by-test false h = cc

comment_kind : Some kind.Comment ≡ Some kind.Literal → ⊥
comment_kind e = cc

name_kind : Some kind.Name ≡ Some kind.Literal → ⊥
name_kind e = cc

number_kind : Some kind.Number ≡ Some kind.Literal → ⊥
number_kind e = cc

operator_kind : Some kind.Op ≡ Some kind.Literal → ⊥
operator_kind e = cc

-- If a literal token is read, the rule of literals read it.
pub literal-read : (depth : ℕ) (text : List ℕ) (m : ℕ) → reading depth text ≡ Piece (Some kind.Literal) m → literal text ≡ Takes m
unfolding reading
literal-read depth text m e =
    this_kind (literal text) _ m
    (λ h. stray_is_no m
    (other_kind (Some kind.Op) (operator text) Stray m operator_kind
    (other_kind (Some kind.Number) (number text) _ m number_kind
    (other_kind (Some kind.Name) (name text) _ m name_kind h))))
    (other_kind (Some kind.Comment) (comment text) _ m comment_kind
    (other_kind (line_end_kind depth) (new_line text) _ m (line_kind depth)
    (other_kind None (joined_line text) _ m none_kind
    (other_kind None (blank text) _ m none_kind e))))

-- The text of a literal token of a source is a literal by itself.
pub IsLiteral-token : (s : List ℕ) (t : Token) → IsReadAt s t → t.kind ≡ kind.Literal → IsLiteral (text_of s t)
IsLiteral-token s t r e =
    IsLiteral-take (drop t.from s) (t.upto - t.from)
    (literal-read r.depth (drop t.from s) (t.upto - t.from) (r.read ∙ ap (λ k. Piece (Some k) (t.upto - t.from)) e))
    (omega (arith, length-drop t.from s, r.within, r.some))
