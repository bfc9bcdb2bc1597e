-- The places of the parts of a literal: its prefix and its quotes fit in it, and its body is UTF-8.
use Rattle.std.proofs.Common.{◌≡◌, ℕ, zero, suc, ◌+◌, ◌-◌, ◌<◌, ◌≤◌, Bool, true, false, cond, ◌&&◌, List, [], ◌∷◌, length, get_or, drop, take, refl, ap, sym, ◌∙◌, arith, Some, None, Option, subst}
use Rattle.std.specs.Prelude.{unwrap_or, option_map, nat_eq, ◌==◌, IsUtf8, find}
use Rattle.std.specs.Str.{IsCharBoundary}
use Rattle.std.proofs.lemmas.Bool.{false≢true}
use Rattle.std.proofs.lemmas.Bool.Decides.{nat_tests}
use Rattle.std.proofs.lemmas.List.{length-drop, length-take, take-take, drop-drop, drop-take, get_or-take, get_or-drop}
use Rattle.std.proofs.lemmas.Str.{IsUtf8-between, IsCharBoundary-before_ascii, IsCharBoundary-after_ascii}
use Rattle.rl_pylex.specs.declared.token_list.TokenKind.{TokenKind}
use Rattle.rl_pylex.specs.declared.token_list.TokenKind.TheVariants as kind
use Rattle.rl_pylex.specs.declared.token_list.Token.{Token}
use Rattle.rl_pylex.specs.Bytes.{has_at, is_quote, ends_line}
use Rattle.rl_pylex.specs.Literals.{opens_after, prefix_size, quotes_at, quote_count, unit_size, close_from, IsLiteral}
use Rattle.rl_pylex.specs.Source.{text_of, same_kind, IsReadAt}
use Rattle.rl_pylex.proofs.Fronts.{quote_at}
use Rattle.rl_pylex.proofs.LiteralFacts.{Sized-from, IsLiteral-room, IsLiteral-token, suc_of}
use Rattle.rl_pystr.specs.Runs.{letter_count, quotes_of, body_start, body_of, is_literal}

pub prefix-is : (text : List ℕ) (l : IsLiteral text) → letter_count text ≡ l.prefix
prefix-is text l = ap (λ (o : Option ℕ). unwrap_or o 0) l.starts

pub quotes-is : (text : List ℕ) (l : IsLiteral text) → quotes_of text ≡ quote_count (drop l.prefix text)
quotes-is text l = ap (λ n. quote_count (drop n text)) (prefix-is text l)

pub quotes-some : (text : List ℕ) → IsLiteral text → 0 < quotes_of text
quotes-some text l =
    omega (arith, (Sized-from l.prefix text (length text) l.closes).some, quotes-is text l)

-- The prefix of a literal and its quotes at both ends fit in it.
pub quotes_room : (text : List ℕ) → IsLiteral text → letter_count text + quotes_of text + quotes_of text ≤ length text
quotes_room text l = omega (arith, IsLiteral-room text l, prefix-is text l, quotes-is text l)

pub letters_room : (text : List ℕ) → IsLiteral text → letter_count text < length text
letters_room text l = omega (arith, quotes_room text l, quotes-some text l)

one_value : (k m : ℕ) → Some k ≡ Some m → k ≡ m
one_value k m e = cc

none_is_no : (m : ℕ) → None ≡ Some m → ⊥
none_is_no m e = cc

found : (f : ℕ → Bool) (n : ℕ) → find f (0 ∷ 1 ∷ 2 ∷ []) ≡ Some n → f n ≡ true
found f n e = by-test (f 0) (f 1) (f 2) refl refl refl e
  where
    by-test : (a b c : Bool) → f 0 ≡ a → f 1 ≡ b → f 2 ≡ c → cond a (Some 0) (cond b (Some 1) (cond c (Some 2) None)) ≡ Some n → f n ≡ true
    by-test true b c e0 e1 e2 h = ap f (sym (one_value 0 n h)) ∙ e0
    by-test false true c e0 e1 e2 h = ap f (sym (one_value 1 n h)) ∙ e1
    by-test false false true e0 e1 e2 h = ap f (sym (one_value 2 n h)) ∙ e2
    by-test false false false e0 e1 e2 h = absurd (none_is_no n h)

right-of : (b c : Bool) → (b && c) ≡ true → c ≡ true
right-of true c h = h
right-of false c h = absurd (false≢true h)

left-of : (b c : Bool) → (b && c) ≡ true → b ≡ true
left-of true c h = refl
left-of false c h = absurd (false≢true h)

quote_after : (text : List ℕ) (n : ℕ) → prefix_size text ≡ Some n → is_quote (get_or text n 0) ≡ true
unfolding prefix_size opens_after
quote_after text n e = quote_at n text (right-of _ (has_at is_quote n text) (found (opens_after text) n e))

quote_is_ascii : (c : ℕ) → is_quote c ≡ true → c < 128
quote_is_ascii c h = grind (arith, nat_tests)

-- Three equal quotes.
thrice : (quote : ℕ) (d : List ℕ) → quotes_at 3 quote d ≡ true → get_or d 2 0 ≡ quote
thrice quote [] h = absurd (false≢true h)
thrice quote (a ∷ []) h = grind (arith, nat_tests)
thrice quote (a ∷ b ∷ []) h = grind (arith, nat_tests)
thrice quote (a ∷ b ∷ c ∷ d) h = grind (arith, nat_tests)

-- The last of the opening quotes.
last_quote : (d : List ℕ) → get_or d (quote_count d - 1) 0 ≡ get_or d 0 0
unfolding quote_count
last_quote d = by-test (quotes_at 3 (get_or d 0 0) d) refl
  where
    by-test : (b : Bool) → quotes_at 3 (get_or d 0 0) d ≡ b → get_or d (cond b 3 1 - 1) 0 ≡ get_or d 0 0
    by-test true h = thrice (get_or d 0 0) d h
    by-test false h = refl

front_quote : (k quote x : ℕ) (xs : List ℕ) → quotes_at (suc k) quote (x ∷ xs) ≡ true → x ≡ quote
front_quote k quote x xs h =
    let e : nat_eq quote x ≡ true = left-of (nat_eq quote x) _ h in grind (arith, nat_tests)

IsClosed : ℕ → ℕ → ℕ → List ℕ → Type 0
IsClosed count quote m xs = (count ≤ m) × (get_or xs (m - count) 0 ≡ quote)

closed_later : (count quote x m : ℕ) (xs : List ℕ) (o : Option ℕ) → option_map suc o ≡ Some m → ((k : ℕ) → o ≡ Some k → IsClosed count quote k xs) → IsClosed count quote m (x ∷ xs)
unfolding IsClosed
closed_later count quote x m xs o e later =
    let next = suc_of o m e in
    let here = later next.0 next.1 in
    let place : m - count ≡ suc (next.0 - count) = omega (arith, next.2, here.0) in
    (omega (arith, next.2, here.0), ap (λ k. get_or (x ∷ xs) k 0) place ∙ here.1)

closed_here : (count quote x : ℕ) (xs : List ℕ) → 0 < count → quotes_at count quote (x ∷ xs) ≡ true → IsClosed count quote count (x ∷ xs)
unfolding IsClosed
closed_here zero quote x xs some h = absurd (omega arith)
closed_here (suc k) quote x xs some h =
    (omega arith, ap (λ n. get_or (x ∷ xs) n 0) (nothing k) ∙ front_quote k quote x xs h)
  where
    nothing : (j : ℕ) → suc j - suc j ≡ 0
    nothing j = omega arith

-- The closing quotes are at the end of what is found.
closed : (count quote skip m : ℕ) (xs : List ℕ) → 0 < count → close_from count quote skip xs ≡ Some m → IsClosed count quote m xs
closed count quote skip m [] some e = absurd (none_is_no m e)
closed count quote (suc skip) m (x ∷ xs) some e =
    closed_later count quote x m xs (close_from count quote skip xs) e (λ k h. closed count quote skip k xs some h)
closed count quote zero m (x ∷ xs) some e =
    by-tests (quotes_at count quote (x ∷ xs)) (count == 1 && ends_line x) refl e (λ k f. closed count quote (unit_size (x ∷ xs) - 1) k xs some f)
  where
    by-tests : (b c : Bool) → quotes_at count quote (x ∷ xs) ≡ b → cond b (Some count) (cond c None (option_map suc (close_from count quote (unit_size (x ∷ xs) - 1) xs))) ≡ Some m
        → ((k : ℕ) → close_from count quote (unit_size (x ∷ xs) - 1) xs ≡ Some k → IsClosed count quote k xs) → IsClosed count quote m (x ∷ xs)
    by-tests true c q h later =
        subst (λ n. IsClosed count quote n (x ∷ xs)) (one_value count m h) (closed_here count quote x xs some q)
    by-tests false true q h later = absurd (none_is_no m h)
    by-tests false false q h later =
        closed_later count quote x m xs (close_from count quote (unit_size (x ∷ xs) - 1) xs) h later

-- The byte before a literal's body is a quote, and so is the byte after it.
pub before_body : (text : List ℕ) → IsLiteral text → get_or text (body_start text - 1) 0 < 128
unfolding body_start
before_body text l =
    let n = l.prefix in
    let q = quote_count (drop n text) in
    let z = Sized-from n text (length text) l.closes in
    let place : letter_count text + quotes_of text - 1 ≡ n + (q - 1) = omega (arith, prefix-is text l, quotes-is text l, z.some) in
    let same : get_or text (letter_count text + quotes_of text - 1) 0 ≡ get_or text n 0 =
    ap (λ k. get_or text k 0) place ∙ sym (get_or-drop n text (q - 1) 0) ∙ last_quote (drop n text) ∙ get_or-drop n text 0 0 ∙ ap (λ k. get_or text k 0) (omega arith) in
    subst (λ c. c < 128) (sym same) (quote_is_ascii (get_or text n 0) (quote_after text n l.starts))

pub behind_body : (text : List ℕ) → IsLiteral text → get_or text (length text - quotes_of text) 0 < 128
unfolding IsClosed
behind_body text l =
    let n = l.prefix in
    let q = quote_count (drop n text) in
    let z = Sized-from n text (length text) l.closes in
    let end = closed q (get_or text n 0) 0 z.close (drop (n + q) text) z.some z.found in
    let place : length text - quotes_of text ≡ n + q + (z.close - q) = omega (arith, z.size, z.room, quotes-is text l) in
    let same : get_or text (length text - quotes_of text) 0 ≡ get_or text n 0 =
    ap (λ k. get_or text k 0) place ∙ sym (get_or-drop (n + q) text (z.close - q) 0) ∙ end.1 in
    subst (λ c. c < 128) (sym same) (quote_is_ascii (get_or text n 0) (quote_after text n l.starts))

pub body_room : (text : List ℕ) → IsLiteral text → (0 < body_start text) × (body_start text + quotes_of text ≤ length text)
unfolding body_start
body_room text l = (omega (arith, quotes-some text l), omega (arith, quotes_room text l))

body-in : (s : List ℕ) (from k : ℕ) → length (take k (drop from s)) ≡ k → IsLiteral (take k (drop from s))
    → body_of (take k (drop from s)) ≡ take (from + (k - quotes_of (take k (drop from s))) - (from + body_start (take k (drop from s)))) (drop (from + body_start (take k (drop from s))) s)
unfolding body_of
body-in s from k long l =
    let text = take k (drop from s) in
    let b = body_start text in
    let q = quotes_of text in
    let room = body_room text l in
    let split : k ≡ b + (k - b) = omega (arith, room.1, long) in
    ap (λ j. take (j - q - b) (drop b text)) long
    ∙ ap (λ j. take (k - q - b) (drop b (take j (drop from s)))) split
    ∙ ap (take (k - q - b)) (drop-take b (k - b) (drop from s))
    ∙ take-take (k - q - b) (k - b) (drop b (drop from s)) (omega arith)
    ∙ ap (take (k - q - b)) (drop-drop b from s)
    ∙ ap (λ j. take j (drop (from + b) s)) (omega arith)

utf8_in : (s : List ℕ) (from k : ℕ) → IsUtf8 s → from + k ≤ length s → length (take k (drop from s)) ≡ k → IsLiteral (take k (drop from s)) → IsUtf8 (body_of (take k (drop from s)))
utf8_in s from k utf8 within long l =
    let text = take k (drop from s) in
    let b = body_start text in
    let q = quotes_of text in
    let room = body_room text l in
    let some = quotes-some text l in
    let first : get_or text (b - 1) 0 ≡ get_or s (from + (b - 1)) 0 =
    get_or-take k (drop from s) (b - 1) 0 (omega (arith, room.0, room.1, long, some)) ∙ get_or-drop from s (b - 1) 0 in
    let last : get_or text (length text - q) 0 ≡ get_or s (from + (k - q)) 0 =
    ap (λ j. get_or text (j - q) 0) long ∙ get_or-take k (drop from s) (k - q) 0 (omega (arith, room.0, room.1, long, some)) ∙ get_or-drop from s (k - q) 0 in
    let opens = IsCharBoundary-after_ascii s (from + (b - 1)) utf8 (omega (arith, room.0, room.1, long, some)) (omega (arith, first, before_body text l)) in
    let next : from + (b - 1) + 1 ≡ from + b = omega (arith, room.0) in
    let closes = IsCharBoundary-before_ascii s (from + (k - q)) (omega (arith, room.0, room.1, long, some)) (omega (arith, last, behind_body text l)) in
    subst IsUtf8 (sym (body-in s from k long l))
    (IsUtf8-between s (from + b) (from + (k - q)) utf8 (omega (arith, room.1, long)) (subst (IsCharBoundary s) next opens) closes)

-- The body of a literal token in a source of UTF-8.
pub body_utf8 : (s : List ℕ) (t : Token) → IsUtf8 s → IsReadAt s t → IsLiteral (text_of s t) → IsUtf8 (body_of (text_of s t))
body_utf8 s t utf8 read l =
    let some = read.some in
    let within = read.within in
    utf8_in s t.from (t.upto - t.from) utf8 (omega arith) (omega (arith, length-take (t.upto - t.from) (drop t.from s), length-drop t.from s)) l

literal_kind : (k : TokenKind) → same_kind kind.Literal k ≡ true → k ≡ kind.Literal
literal_kind kind.Literal h = refl
literal_kind kind.Name h = absurd (false≢true h)
literal_kind kind.Number h = absurd (false≢true h)
literal_kind kind.Op h = absurd (false≢true h)
literal_kind kind.LineEnd h = absurd (false≢true h)
literal_kind kind.Comment h = absurd (false≢true h)

pub literal_token : (s : List ℕ) (t : Token) → IsReadAt s t → is_literal t ≡ true → IsLiteral (text_of s t)
literal_token s t read h = IsLiteral-token s t read (literal_kind t.kind h)

pub ruleset bounds = (quotes_room, letters_room, body_room, literal_token)
