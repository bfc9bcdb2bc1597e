-- The first piece of a run of ordinary bytes: it ends within the run, or it is a literal whose prefix ends the run.
use Rattle.std.proofs.Common.{◌≡◌, ℕ, suc, ◌+◌, ◌<◌, ◌≤◌, ◌⊎◌, inl, inr, Bool, true, false, cond, not, ◌&&◌, ◌||◌, List, [], ◌∷◌, length, drop, take, refl, ap, sym, ◌∙◌, arith, Some, None, Option}
use Rattle.std.specs.Prelude.{nat_eq, ◌==◌, ◌≢◌}
use Rattle.std.specs.List.{prefix_len, starts_with}
use Rattle.std.specs.Char.{is_ascii_alphabetic, is_ascii_digit, to_ascii_lowercase}
use Rattle.std.proofs.lemmas.Bool.{false≢true}
use Rattle.std.proofs.lemmas.Bool.Decides.{nat_tests}
use Rattle.std.proofs.lemmas.List.Folds.{length-prefix_len}
use lib.Pointwise.{pointwise, bytes_decides}
use Rattle.rl_pylex.specs.declared.token_list.TokenKind.{TokenKind}
use Rattle.rl_pylex.specs.declared.token_list.TokenKind.TheVariants as kinds
use Rattle.rl_pylex.specs.declared.rules.Fit.TheVariants.{Passes, Takes}
use Rattle.rl_pylex.specs.declared.rules.Reading.TheVariants.{Piece}
use Rattle.rl_pylex.specs.Bytes.{has_at, begins, is_in, is_blank, is_quote, ends_line, starts_name, in_name, in_number, is_operator, line_end}
use Rattle.rl_pylex.specs.Literals.{is_prefix, opens_after, prefix_size}
use Rattle.rl_pylex.specs.Rules.{takes_if, literal, name, number, operator, reading}
use Rattle.rl_pylex.specs.internal.Rows.{line_end_kind, starts_number, is_plain_operator}
use Rattle.rl_pylex.proofs.Fits.{fit_after}
use Rattle.rl_pylex.specs.internal.Absence.{is_ordinary, word_at, lacks_word}
use Rattle.rl_pylex.proofs.Firsts.{passed, taken, name-fits, blank_read, operator_read, name_is_no_blank, name_is_no_backslash, name_is_no_line_end, name_is_no_hash}
use Rattle.rl_pylex.proofs.FirstBytes.{literal_rows_left, new_line_read, number_rows_read}
use Rattle.rl_pylex.proofs.Words.{word_at-other, lacks_word-step}

-- What each class says about a byte.
blank_is : (x : ℕ) → is_blank x ≡ true → (is_ordinary x ≡ true) × (in_name x ≡ false)
unfolding is_ordinary
blank_is x e = (grind (arith, nat_tests), grind (arith, nat_tests))

line_end_is : (x : ℕ) → ends_line x ≡ true → (is_ordinary x ≡ true) × (in_name x ≡ false)
unfolding is_ordinary
line_end_is x e = (grind (arith, nat_tests), grind (arith, nat_tests))

operator_is : (x : ℕ) → is_plain_operator x ≡ true → (is_ordinary x ≡ true) × (in_name x ≡ false)
unfolding is_ordinary
operator_is x e = (grind (arith, nat_tests), grind (arith, nat_tests))

name_is : (x : ℕ) → in_name x ≡ true → is_ordinary x ≡ true
unfolding is_ordinary
name_is x e = grind (arith, nat_tests)

number_is : (x : ℕ) → in_number x ≡ true → is_ordinary x ≡ true
unfolding is_ordinary
number_is x e = grind (arith, nat_tests)

quote_is : (x : ℕ) → is_quote x ≡ true → is_ordinary x ≡ false
unfolding is_ordinary
quote_is x e = grind (arith, nat_tests)

letter_in_name : (x : ℕ) → is_ascii_alphabetic x ≡ true → in_name x ≡ true
letter_in_name x e = grind (arith, nat_tests)

letter_in_number : (x : ℕ) → is_ascii_alphabetic x ≡ true → in_number x ≡ true
letter_in_number x e = grind (arith, nat_tests)

-- An ordinary byte belongs to one of the classes of bytes that begin a piece.
IsOfClass : ℕ → Type 0
IsOfClass x = (is_blank x ≡ true) ⊎ (ends_line x ≡ true) ⊎ (is_plain_operator x ≡ true) ⊎ (starts_number x ≡ true) ⊎ (starts_name x ≡ true)

class_of : (x : ℕ) → is_ordinary x ≡ true → IsOfClass x
unfolding IsOfClass is_ordinary
class_of x e = by-tests (is_blank x) (ends_line x) (is_plain_operator x) (starts_number x) (starts_name x) refl refl refl refl refl
  where
    none : is_blank x ≡ false → ends_line x ≡ false → is_plain_operator x ≡ false → starts_number x ≡ false → starts_name x ≡ false → ⊥
    none b l o n s = grind (arith, nat_tests)

    by-tests : (b l o n s : Bool) → is_blank x ≡ b → ends_line x ≡ l → is_plain_operator x ≡ o → starts_number x ≡ n → starts_name x ≡ s
        → (is_blank x ≡ true) ⊎ (ends_line x ≡ true) ⊎ (is_plain_operator x ≡ true) ⊎ (starts_number x ≡ true) ⊎ (starts_name x ≡ true)
    by-tests true l o n s be le oe ne se = inl be
    by-tests false true o n s be le oe ne se = inr (inl le)
    by-tests false false true n s be le oe ne se = inr (inr (inl oe))
    by-tests false false false true s be le oe ne se = inr (inr (inr (inl ne)))
    by-tests false false false false true be le oe ne se = inr (inr (inr (inr se)))
    by-tests false false false false false be le oe ne se = absurd (none be le oe ne se)

-- The name begins with a letter.
abbrev pub HasLetter : List ℕ → Type 0
HasLetter name = has_at is_ascii_alphabetic 0 name ≡ true

and-split : (b c : Bool) → (b && c) ≡ true → (b ≡ true) × (c ≡ true)
and-split true c e = (refl, e)
and-split false c e = absurd (false≢true e)

-- The name doesn't begin at a byte that isn't a letter.
no_letter-no_word : (name xs : List ℕ) (x : ℕ) → HasLetter name → is_ascii_alphabetic x ≡ false → word_at name (x ∷ xs) ≡ false
no_letter-no_word [] xs x h e = absurd (false≢true h)
no_letter-no_word (y ∷ ys) xs x h e = word_at-other y x (y ∷ ys) xs (omega arith) refl (by-test (nat_eq y x) refl)
  where
    same_number : (m n : ℕ) → nat_eq m n ≡ true → m ≡ n
    same_number m n same = grind (arith, nat_tests)

    by-test : (b : Bool) → nat_eq y x ≡ b → b ≡ false
    by-test true same = absurd (false≢true (sym e ∙ ap is_ascii_alphabetic (sym (same_number y x same)) ∙ h))
    by-test false same = refl

and-right-false : (b c : Bool) → c ≡ false → (b && c) ≡ false
and-right-false true c e = e
and-right-false false c e = refl

-- It doesn't matter what comes before a byte that isn't a letter.
no_letter-outside : (name xs : List ℕ) (x : ℕ) (inside : Bool) → HasLetter name → is_ascii_alphabetic x ≡ false
    → lacks_word name inside (x ∷ xs) ≡ true → lacks_word name false (x ∷ xs) ≡ true
no_letter-outside name xs x inside h e lacks = by-test (is_ordinary x) refl
  where
    word : (b : Bool) → (b && word_at name (x ∷ xs)) ≡ false
    word b = and-right-false b (word_at name (x ∷ xs)) (no_letter-no_word name xs x h e)

    by-test : (b : Bool) → is_ordinary x ≡ b → lacks_word name false (x ∷ xs) ≡ true
    by-test true o =
        lacks_word-step name xs x false o (word true) ∙ sym (lacks_word-step name xs x inside o (word (not inside))) ∙ lacks
    by-test false o = rw o refl

-- A class of ordinary bytes that includes all letters.
pub record IsLetterClass (q : ℕ → Bool) : Type 0 where
  pub ordinary : (x : ℕ) → q x ≡ true → is_ordinary x ≡ true
  pub letters : (x : ℕ) → is_ascii_alphabetic x ≡ true → q x ≡ true

step_parts : (name xs : List ℕ) (x : ℕ) (inside : Bool) → is_ordinary x ≡ true → lacks_word name inside (x ∷ xs) ≡ true
    → ((not inside && word_at name (x ∷ xs)) ≡ false) × (lacks_word name (in_name x) xs ≡ true)
step_parts name xs x inside o lacks =
    by-test (not inside && word_at name (x ∷ xs)) refl
    (and-split (not (not inside && word_at name (x ∷ xs))) (lacks_word name (in_name x) xs) (opened ∙ lacks))
  where
    opened : (not (not inside && word_at name (x ∷ xs)) && lacks_word name (in_name x) xs) ≡ lacks_word name inside (x ∷ xs)
    opened = rw o refl

    by-test : (b : Bool) → (not inside && word_at name (x ∷ xs)) ≡ b → (not b ≡ true) × (lacks_word name (in_name x) xs ≡ true)
        → (b ≡ false) × (lacks_word name (in_name x) xs ≡ true)
    by-test true e parts = absurd (false≢true parts.0)
    by-test false e parts = (refl, parts.1)

-- The text after the longest run of such a class.
pub after_class : (q : ℕ → Bool) (name text : List ℕ) (inside : Bool) → IsLetterClass q → HasLetter name → lacks_word name inside text ≡ true
    → lacks_word name false (drop (prefix_len q text) text) ≡ true
after_class q name [] inside k h lacks = refl
after_class q name (x ∷ xs) inside k h lacks =
    by-test (q x) refl (λ inner more. after_class q name xs inner k h more)
  where
    no_letter : (b : Bool) → q x ≡ false → is_ascii_alphabetic x ≡ b → b ≡ false
    no_letter true out letter = absurd (false≢true (sym out ∙ k.letters x letter))
    no_letter false out letter = refl

    one-more : (n : ℕ) → 1 + n ≡ suc n
    one-more n = omega arith

    by-test : (b : Bool) → q x ≡ b → ((inner : Bool) → lacks_word name inner xs ≡ true → lacks_word name false (drop (prefix_len q xs) xs) ≡ true)
        → lacks_word name false (drop (cond b (1 + prefix_len q xs) 0) (x ∷ xs)) ≡ true
    by-test true e later =
        ap (λ n. lacks_word name false (drop n (x ∷ xs))) (one-more (prefix_len q xs))
        ∙ later (in_name x) (step_parts name xs x inside (k.ordinary x e) lacks).1
    by-test false e later = no_letter-outside name xs x inside h (no_letter (is_ascii_alphabetic x) e refl) lacks

-- A run of a smaller class is no longer than one of a larger class.
shorter_run : (q : ℕ → Bool) (xs : List ℕ) → ((x : ℕ) → q x ≡ true → is_ordinary x ≡ true) → prefix_len q xs ≤ prefix_len is_ordinary xs
shorter_run q [] f = omega arith
shorter_run q (x ∷ xs) f = by-test (q x) refl (shorter_run q xs f)
  where
    by-test : (b : Bool) → q x ≡ b → prefix_len q xs ≤ prefix_len is_ordinary xs → cond b (1 + prefix_len q xs) 0 ≤ cond (is_ordinary x) (1 + prefix_len is_ordinary xs) 0
    by-test true e later = rw (f x e) (omega (arith, later))
    by-test false e later = omega arith

-- A piece of ordinary bytes that the text begins with, which isn't a name with this text. After it the text begins anew.
pub record OrdinaryPiece (name text : List ℕ) (depth : ℕ) : Type 0 where
  pub kind : Option TokenKind
  pub size : ℕ
  pub read : reading depth text ≡ Piece kind size
  pub some : 0 < size
  pub inside : size ≤ prefix_len is_ordinary text
  pub other : kind ≡ Some kinds.Name → take size text ≢ name
  pub later : lacks_word name false (drop size text) ≡ true

some_run : (x : ℕ) (xs : List ℕ) → is_ordinary x ≡ true → 1 ≤ prefix_len is_ordinary (x ∷ xs)
some_run x xs o = rw o (omega arith)

-- A piece of one byte that can't belong to a name.
one_byte : (name xs : List ℕ) (x depth : ℕ) (k : Option TokenKind) → reading depth (x ∷ xs) ≡ Piece k 1 → is_ordinary x ≡ true → in_name x ≡ false → k ≢ Some kinds.Name
    → lacks_word name false (x ∷ xs) ≡ true → OrdinaryPiece name (x ∷ xs) depth
one_byte name xs x depth k e o n never lacks =
    record {
      kind = k;
      size = 1;
      read = e;
      some = omega arith;
      inside = some_run x xs o;
      other = λ same _. never same;
      later = ap (λ (b : Bool). lacks_word name b xs) (sym n) ∙ (step_parts name xs x false o lacks).1;
    }

-- A piece that is the longest run of a class.
class_run : (q : ℕ → Bool) (name text : List ℕ) (depth : ℕ) (k : Option TokenKind) → reading depth text ≡ Piece k (prefix_len q text) → has_at q 0 text ≡ true
    → IsLetterClass q → HasLetter name → (k ≡ Some kinds.Name → take (prefix_len q text) text ≢ name) → lacks_word name false text ≡ true → OrdinaryPiece name text depth
class_run q name text depth k e begins class h other lacks =
    record {
      kind = k;
      size = prefix_len q text;
      read = e;
      some = run_some text begins;
      inside = shorter_run q text class.ordinary;
      other = other;
      later = after_class q name text false class h lacks;
    }
  where
    run_some : (text : List ℕ) → has_at q 0 text ≡ true → 0 < prefix_len q text
    run_some [] begins = absurd (false≢true begins)
    run_some (x ∷ xs) begins = rw begins (omega arith)

pub none_is_no_name : None ≡ Some kinds.Name → ⊥
none_is_no_name e = cc

operator_is_no_name : Some kinds.Op ≡ Some kinds.Name → ⊥
operator_is_no_name e = cc

number_is_no_name : Some kinds.Number ≡ Some kinds.Name → ⊥
number_is_no_name e = cc

line_end_is_no_name : (depth : ℕ) → line_end_kind depth ≢ Some kinds.Name
line_end_is_no_name depth e = by-test (depth == 0) e
  where
    by-test : (b : Bool) → cond b (Some kinds.LineEnd) None ≡ Some kinds.Name → ⊥
    by-test true h = cc
    by-test false h = cc

blank_piece : (name xs : List ℕ) (x depth : ℕ) → is_blank x ≡ true → lacks_word name false (x ∷ xs) ≡ true → OrdinaryPiece name (x ∷ xs) depth
blank_piece name xs x depth e lacks =
    one_byte name xs x depth None (blank_read depth x xs e) (blank_is x e).0 (blank_is x e).1 none_is_no_name lacks

operator_piece : (name xs : List ℕ) (x depth : ℕ) → is_plain_operator x ≡ true → lacks_word name false (x ∷ xs) ≡ true → OrdinaryPiece name (x ∷ xs) depth
operator_piece name xs x depth e lacks =
    one_byte name xs x depth (Some kinds.Op) (operator_read depth x xs e) (operator_is x e).0 (operator_is x e).1 operator_is_no_name lacks

-- The text begins with a line end of two bytes, or of one.
LineEndCases : ℕ → List ℕ → Type 0
LineEndCases x xs = (line_end (x ∷ xs) ≡ 1) ⊎ ((line_end (x ∷ xs) ≡ 2) × (has_at ends_line 0 xs ≡ true))

line_end_cases : (x : ℕ) (xs : List ℕ) → ends_line x ≡ true → LineEndCases x xs
unfolding LineEndCases line_end
line_end_cases x [] e = inl (grind (arith, nat_tests))
line_end_cases x (y ∷ ys) e = by-test (begins "\r\n" (x ∷ y ∷ ys)) refl
  where
    second : begins "\r\n" (x ∷ y ∷ ys) ≡ true → ends_line y ≡ true
    second b = grind (arith, nat_tests)

    by-test : (b : Bool) → begins "\r\n" (x ∷ y ∷ ys) ≡ b → LineEndCases x (y ∷ ys)
    by-test true b = inr (rw b refl, second b)
    by-test false b = inl (rw (b, e) refl)

two_bytes : (name ys : List ℕ) (x y depth : ℕ) (k : Option TokenKind) → reading depth (x ∷ y ∷ ys) ≡ Piece k 2 → ends_line x ≡ true → ends_line y ≡ true → k ≢ Some kinds.Name
    → lacks_word name false (x ∷ y ∷ ys) ≡ true → OrdinaryPiece name (x ∷ y ∷ ys) depth
two_bytes name ys x y depth k e first second never lacks =
    let on : lacks_word name false (y ∷ ys) ≡ true = ap (λ (b : Bool). lacks_word name b (y ∷ ys)) (sym (line_end_is x first).1) ∙ (step_parts name (y ∷ ys) x false (line_end_is x first).0 lacks).1 in
    record {
      kind = k;
      size = 2;
      read = e;
      some = omega arith;
      inside = rw ((line_end_is x first).0, (line_end_is y second).0) (omega arith);
      other = λ same _. never same;
      later = ap (λ (b : Bool). lacks_word name b ys) (sym (line_end_is y second).1) ∙ (step_parts name ys y false (line_end_is y second).0 on).1;
    }

line_end_piece : (name xs : List ℕ) (x depth : ℕ) → ends_line x ≡ true → lacks_word name false (x ∷ xs) ≡ true → OrdinaryPiece name (x ∷ xs) depth
unfolding LineEndCases
line_end_piece name xs x depth e lacks = by-cases xs (line_end_cases x xs e) lacks
  where
    by-cases : (xs : List ℕ) → LineEndCases x xs → lacks_word name false (x ∷ xs) ≡ true → OrdinaryPiece name (x ∷ xs) depth
    by-cases xs (inl one) lacks =
        one_byte name xs x depth (line_end_kind depth) (new_line_read depth x xs e ∙ ap (Piece (line_end_kind depth)) one) (line_end_is x e).0 (line_end_is x e).1 (line_end_is_no_name depth) lacks
    by-cases [] (inr two) lacks = absurd (false≢true two.1)
    by-cases (y ∷ ys) (inr two) lacks =
        two_bytes name ys x y depth (line_end_kind depth) (new_line_read depth x (y ∷ ys) e ∙ ap (Piece (line_end_kind depth)) two.0) e two.1 (line_end_is_no_name depth) lacks

number_class : IsLetterClass in_number
number_class = record { ordinary = number_is; letters = letter_in_number }

name_class : IsLetterClass in_name
name_class = record { ordinary = name_is; letters = letter_in_name }

number_starts : (x : ℕ) → starts_number x ≡ true → in_number x ≡ true
number_starts x e = grind (arith, nat_tests)

-- A `.` that doesn't begin a number.
point_is : (x : ℕ) (b : Bool) → starts_number x ≡ true → (is_ascii_digit x || b) ≡ false → (is_operator x ≡ true) × (in_name x ≡ false)
point_is x b e f = (grind (arith, nat_tests), grind (arith, nat_tests))

is_number : List ℕ → Bool
is_number text = has_at is_ascii_digit 0 text || (begins "." text && has_at is_ascii_digit 1 text)

number_by : (text : List ℕ) (b : Bool) → is_number text ≡ b → number text ≡ takes_if b (prefix_len in_number text)
unfolding is_number number
number_by text b e = ap (λ c. takes_if c (prefix_len in_number text)) e

operator-fits : (x : ℕ) (xs : List ℕ) → is_operator x ≡ true → operator (x ∷ xs) ≡ Takes 1
unfolding operator
operator-fits x xs e = ap (λ b. takes_if b 1) e

number_piece : (name xs : List ℕ) (x depth : ℕ) → HasLetter name → starts_number x ≡ true → lacks_word name false (x ∷ xs) ≡ true → OrdinaryPiece name (x ∷ xs) depth
unfolding is_number
number_piece name xs x depth h e lacks = by-test (is_number (x ∷ xs)) refl
  where
    point : is_number (x ∷ xs) ≡ false → (is_operator x ≡ true) × (in_name x ≡ false)
    point b = point_is x (begins "." (x ∷ xs) && has_at is_ascii_digit 1 (x ∷ xs)) e b

    by-test : (b : Bool) → is_number (x ∷ xs) ≡ b → OrdinaryPiece name (x ∷ xs) depth
    by-test true b =
        class_run in_number name (x ∷ xs) depth (Some kinds.Number)
        (number_rows_read depth x xs e ∙ taken (number (x ∷ xs)) (Some kinds.Number) (prefix_len in_number (x ∷ xs)) _ (number_by (x ∷ xs) true b))
        (number_starts x e) number_class h (λ same _. number_is_no_name same) lacks
    by-test false b =
        one_byte name xs x depth (Some kinds.Op)
        (number_rows_read depth x xs e ∙ passed (number (x ∷ xs)) (Some kinds.Number) _ (number_by (x ∷ xs) false b)
        ∙ taken (operator (x ∷ xs)) (Some kinds.Op) 1 _ (operator-fits x xs (point b).0))
        (number_is x (number_starts x e)) (point b).1 operator_is_no_name lacks

-- The text of a name token is a word.
run_stops : (q : ℕ → Bool) (xs : List ℕ) → has_at q (prefix_len q xs) xs ≡ false
run_stops q [] = refl
run_stops q (x ∷ xs) = by-test (q x) refl (run_stops q xs)
  where
    one-more : (n : ℕ) → 1 + n ≡ suc n
    one-more n = omega arith

    by-test : (b : Bool) → q x ≡ b → has_at q (prefix_len q xs) xs ≡ false → has_at q (cond b (1 + prefix_len q xs) 0) (x ∷ xs) ≡ false
    by-test true e later = ap (λ n. has_at q n (x ∷ xs)) (one-more (prefix_len q xs)) ∙ later
    by-test false e later = e

word-of : (name text : List ℕ) → take (prefix_len in_name text) text ≡ name → word_at name text ≡ true
unfolding word_at
word-of name text e =
    let long : length name ≡ prefix_len in_name text = ap length (sym e) ∙ length-prefix_len in_name text in
    let front : take (length name) text ≡ name = ap (λ n. take n text) long ∙ e in
    let begun : starts_with nat_eq text name ≡ true = ap (pointwise nat_eq name) front ∙ (bytes_decides name name).1 refl in
    let ends : has_at in_name (length name) text ≡ false = ap (λ n. has_at in_name n text) long ∙ run_stops in_name text in
    rw (begun, ends) refl

name_starts : (x : ℕ) → starts_name x ≡ true → in_name x ≡ true
name_starts x e = grind (arith, nat_tests)

no_literal : (text : List ℕ) → prefix_size text ≡ None → literal text ≡ Passes
unfolding literal
no_literal text e = ap (λ o. fit_after o text) e

name_read_at : (depth x : ℕ) (xs : List ℕ) → starts_name x ≡ true → prefix_size (x ∷ xs) ≡ None → reading depth (x ∷ xs) ≡ Piece (Some kinds.Name) (prefix_len in_name (x ∷ xs))
name_read_at depth x xs e none =
    literal_rows_left depth x xs (name_is_no_blank x e) (name_is_no_backslash x e) (name_is_no_line_end x e) (name_is_no_hash x e)
    ∙ passed (literal (x ∷ xs)) (Some kinds.Literal) _ (no_literal (x ∷ xs) none)
    ∙ taken (name (x ∷ xs)) (Some kinds.Name) (prefix_len in_name (x ∷ xs)) _ (name-fits x xs e)

name_piece : (word xs : List ℕ) (x depth : ℕ) → HasLetter word → starts_name x ≡ true → prefix_size (x ∷ xs) ≡ None → lacks_word word false (x ∷ xs) ≡ true → OrdinaryPiece word (x ∷ xs) depth
name_piece word xs x depth h e none lacks =
    class_run in_name word (x ∷ xs) depth (Some kinds.Name) (name_read_at depth x xs e none) (name_starts x e) name_class h
    (λ _ same. false≢true (sym (step_parts word xs x false (name_is x (name_starts x e)) lacks).0 ∙ word-of word (x ∷ xs) same)) lacks

-- A literal with a prefix: its quote directly follows the run of ordinary bytes.
pub record Prefixed (text : List ℕ) : Type 0 where
  pub size : ℕ
  pub prefix : prefix_size text ≡ Some size
  pub whole : size ≡ prefix_len is_ordinary text
  pub quote : has_at is_quote size text ≡ true

name_is_no_quote : (x : ℕ) → starts_name x ≡ true → is_quote x ≡ false
name_is_no_quote x e = grind (arith, nat_tests)

second_letter : (y z : ℕ) → is_prefix (y ∷ z ∷ []) ≡ true → is_in "rubf" z ≡ true
second_letter y z e = grind (arith, nat_tests)

lower_in_name : (z : ℕ) → is_in "rubf" (to_ascii_lowercase z) ≡ true → in_name z ≡ true
lower_in_name z e = grind (arith, nat_tests)

opens_first : (x : ℕ) (xs : List ℕ) → starts_name x ≡ true → opens_after (x ∷ xs) 0 ≡ true → ⊥
unfolding opens_after
opens_first x xs e o = false≢true (sym (name_is_no_quote x e) ∙ o)

opens_second : (x : ℕ) (xs : List ℕ) → starts_name x ≡ true → opens_after (x ∷ xs) 1 ≡ true → (1 ≡ prefix_len is_ordinary (x ∷ xs)) × (has_at is_quote 1 (x ∷ xs) ≡ true)
unfolding opens_after
opens_second x [] e o = absurd (false≢true (and-split (is_prefix (to_ascii_lowercase x ∷ [])) false o).1)
opens_second x (y ∷ ys) e o =
    let quote : is_quote y ≡ true = (and-split (is_prefix (to_ascii_lowercase x ∷ [])) (is_quote y) o).1 in
    (rw (name_is x (name_starts x e), quote_is y quote) refl, quote)

opens_third : (x : ℕ) (xs : List ℕ) → starts_name x ≡ true → opens_after (x ∷ xs) 2 ≡ true → (2 ≡ prefix_len is_ordinary (x ∷ xs)) × (has_at is_quote 2 (x ∷ xs) ≡ true)
unfolding opens_after
opens_third x [] e o = absurd (false≢true (and-split (is_prefix (to_ascii_lowercase x ∷ [])) false o).1)
opens_third x (y ∷ []) e o = absurd (false≢true (and-split (is_prefix (to_ascii_lowercase x ∷ to_ascii_lowercase y ∷ [])) false o).1)
opens_third x (y ∷ z ∷ zs) e o =
    let parts = and-split (is_prefix (to_ascii_lowercase x ∷ to_ascii_lowercase y ∷ [])) (is_quote z) o in
    let letter : is_ordinary y ≡ true = name_is y (lower_in_name y (second_letter (to_ascii_lowercase x) (to_ascii_lowercase y) parts.0)) in
    (rw (name_is x (name_starts x e), letter, quote_is z parts.1) refl, parts.1)

-- The prefix before a quote is empty, or it ends the run of ordinary bytes.
PrefixCases : List ℕ → Type 0
PrefixCases text = (prefix_size text ≡ None) ⊎ Prefixed text

prefix_cases : (x : ℕ) (xs : List ℕ) → starts_name x ≡ true → PrefixCases (x ∷ xs)
unfolding PrefixCases prefix_size
prefix_cases x xs e = by-tests (opens_after (x ∷ xs) 0) (opens_after (x ∷ xs) 1) (opens_after (x ∷ xs) 2) refl refl refl
  where
    by-tests : (a b c : Bool) → opens_after (x ∷ xs) 0 ≡ a → opens_after (x ∷ xs) 1 ≡ b → opens_after (x ∷ xs) 2 ≡ c → (prefix_size (x ∷ xs) ≡ None) ⊎ Prefixed (x ∷ xs)
    by-tests true b c ea eb ec = absurd (opens_first x xs e ea)
    by-tests false true c ea eb ec =
        let parts = opens_second x xs e eb in
        inr (record { size = 1; prefix = rw (ea, eb) refl; whole = parts.0; quote = parts.1 })
    by-tests false false true ea eb ec =
        let parts = opens_third x xs e ec in
        inr (record { size = 2; prefix = rw (ea, eb, ec) refl; whole = parts.0; quote = parts.1 })
    by-tests false false false ea eb ec = inl (rw (ea, eb, ec) refl)

-- The first piece of the run.
pub first_piece : (name xs : List ℕ) (x depth : ℕ) → HasLetter name → is_ordinary x ≡ true → lacks_word name false (x ∷ xs) ≡ true → OrdinaryPiece name (x ∷ xs) depth ⊎ Prefixed (x ∷ xs)
unfolding PrefixCases IsOfClass
first_piece name xs x depth h o lacks = by-class (class_of x o)
  where
    by-prefix : starts_name x ≡ true → PrefixCases (x ∷ xs) → OrdinaryPiece name (x ∷ xs) depth ⊎ Prefixed (x ∷ xs)
    by-prefix e (inl none) = inl (name_piece name xs x depth h e none lacks)
    by-prefix e (inr some) = inr some

    by-class : IsOfClass x → OrdinaryPiece name (x ∷ xs) depth ⊎ Prefixed (x ∷ xs)
    by-class (inl e) = inl (blank_piece name xs x depth e lacks)
    by-class (inr (inl e)) = inl (line_end_piece name xs x depth e lacks)
    by-class (inr (inr (inl e))) = inl (operator_piece name xs x depth e lacks)
    by-class (inr (inr (inr (inl e)))) = inl (number_piece name xs x depth h e lacks)
    by-class (inr (inr (inr (inr e)))) = by-prefix e (prefix_cases x xs e)
