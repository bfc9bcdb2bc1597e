-- A run of ordinary bytes, skipped step by step, in which no word is the name.
use Rattle.std.proofs.Common.{◌≡◌, ℕ, zero, suc, ◌+◌, ◌<◌, ◌≤◌, Bool, true, false, not, ◌&&◌, ◌||◌, List, [], ◌∷◌, length, get_or, drop, refl, ap, sym, ◌∙◌, arith, subst}
use Rattle.std.proofs.Common.{add-zero, add_assoc, add-one}
use Rattle.std.specs.Prelude.{nat_eq, ◌==◌}
use Rattle.std.specs.Char.{is_ascii_lowercase}
use Rattle.std.specs.List.{prefix_len, starts_with}
use Rattle.std.proofs.lemmas.Bool.{false≢true}
use Rattle.std.proofs.lemmas.Bool.Decides.{nat_tests}
use Rattle.std.proofs.lemmas.List.{drop_more, drop-drop, get_or-drop}
use Rattle.rl_pylex.specs.Bytes.{has_at, in_name}
use Rattle.rl_pylex.specs.internal.Absence.{is_ordinary, word_at, lacks_word, is_inside, IsFree, IsSkipped, IsFreeRun}
use Rattle.rl_pylex.specs.internal.Blocks.{stops_at}
use Rattle.rl_pylex.proofs.Fronts.{has_at-within, has_at-read}
use Rattle.rl_pylex.proofs.Cuts.{next_rest}

and-false : (b c : Bool) → b ≡ false → (b && c) ≡ false
and-false b c e = rw e refl

and-right : (b c : Bool) → c ≡ false → (b && c) ≡ false
and-right true c e = e
and-right false c e = refl

-- A text that begins with another byte than the name.
pub word_at-other : (first x : ℕ) (name xs : List ℕ) → 0 < length name → get_or name 0 0 ≡ first → nat_eq first x ≡ false → word_at name (x ∷ xs) ≡ false
unfolding word_at
word_at-other first x [] xs some same other = absurd (omega arith)
word_at-other first x (y ∷ ys) xs some same other =
    let differs : nat_eq y x ≡ false = ap (λ k. nat_eq k x) same ∙ other in rw differs refl

both_same : (a b x y : ℕ) → nat_eq a x ≡ true → nat_eq b y ≡ true → (x == a && y == b) ≡ false → ⊥
both_same a b x y first second apart = grind (arith, nat_tests)

-- A text that doesn't begin with the first two bytes of the name.
word_at-pair : (name text : List ℕ) → 2 ≤ length name → (get_or text 0 0 == get_or name 0 0 && get_or text 1 0 == get_or name 1 0) ≡ false → word_at name text ≡ false
unfolding word_at
word_at-pair [] text long apart = absurd (omega arith)
word_at-pair (a ∷ []) text long apart = absurd (omega arith)
word_at-pair (a ∷ b ∷ name) [] long apart = refl
word_at-pair (a ∷ b ∷ name) (x ∷ []) long apart = by-test (nat_eq a x) refl
  where
    by-test : (t : Bool) → nat_eq a x ≡ t → word_at (a ∷ b ∷ name) (x ∷ []) ≡ false
    by-test true e = rw e refl
    by-test false e = rw e refl
word_at-pair (a ∷ b ∷ name) (x ∷ y ∷ text) long apart = by-tests (nat_eq a x) (nat_eq b y) refl refl
  where
    by-tests : (t u : Bool) → nat_eq a x ≡ t → nat_eq b y ≡ u → word_at (a ∷ b ∷ name) (x ∷ y ∷ text) ≡ false
    by-tests false u e f = rw e refl
    by-tests true false e f = rw (e, f) refl
    by-tests true true e f = absurd (both_same a b x y e f apart)

small_in_name : (c : ℕ) → is_ascii_lowercase c ≡ true → in_name c ≡ true
small_in_name c e = grind (arith, nat_tests)

has_small : (n : ℕ) (text : List ℕ) → is_ascii_lowercase (get_or text n 0) ≡ true → has_at in_name n text ≡ true
has_small n [] e = absurd (false≢true e)
has_small zero (x ∷ text) e = small_in_name x e
has_small (suc n) (x ∷ text) e = has_small n text e

-- A text with a lower-case letter where the name would end.
word_at-inside : (name text : List ℕ) → is_ascii_lowercase (get_or text (length name) 0) ≡ true → word_at name text ≡ false
unfolding word_at
word_at-inside name text e = and-right (starts_with nat_eq text name) _ (ap not (has_small (length name) text e))

no_pair : (b c : Bool) → (b && c && true) ≡ false → (b && c) ≡ false
no_pair true true e = e
no_pair true false e = refl
no_pair false c e = refl

stop_parts : (b c : Bool) → (not b || c) ≡ false → (b ≡ true) × (c ≡ false)
stop_parts true c e = (refl, e)
stop_parts false c e = absurd (false≢true (sym e))

word_at-unless : (name text : List ℕ) → 2 ≤ length name
    → (get_or text 0 0 == get_or name 0 0 && get_or text 1 0 == get_or name 1 0 && not (is_ascii_lowercase (get_or text (length name) 0))) ≡ false → word_at name text ≡ false
word_at-unless name text long apart = by-test (is_ascii_lowercase (get_or text (length name) 0)) refl
  where
    pair : Bool → Bool
    pair b = get_or text 0 0 == get_or name 0 0 && get_or text 1 0 == get_or name 1 0 && not b

    by-test : (b : Bool) → is_ascii_lowercase (get_or text (length name) 0) ≡ b → word_at name text ≡ false
    by-test true e = word_at-inside name text e
    by-test false e = word_at-pair name text long (no_pair (get_or text 0 0 == get_or name 0 0) (get_or text 1 0 == get_or name 1 0) (ap pair (sym e) ∙ apart))

-- Bytes at which the search doesn't stop.
pub free-run : (name text : List ℕ) (n : ℕ) → 2 ≤ length name → ((k : ℕ) → k < n → stops_at name text k ≡ false) → IsFree name text n
free-run name text n long clear k below =
    let parts = stop_parts (is_ordinary (get_or text k 0)) _ (clear k below) in
    let rest = drop k text in
    let here : get_or rest 0 0 ≡ get_or text k 0 = get_or-drop k text 0 0 ∙ ap (λ p. get_or text p 0) (add-zero k) in
    let next : get_or rest 1 0 ≡ get_or text (k + 1) 0 = get_or-drop k text 1 0 in
    let end : get_or rest (length name) 0 ≡ get_or text (k + length name) 0 = get_or-drop k text (length name) 0 in (
      parts.0,
      word_at-unless name rest long
          ((λ i. here i == get_or name 0 0 && next i == get_or name 1 0 && not (is_ascii_lowercase (end i))) ∙ parts.1),
    )

pub lacks_word-step : (name xs : List ℕ) (x : ℕ) (inside : Bool) → is_ordinary x ≡ true → (not inside && word_at name (x ∷ xs)) ≡ false
    → lacks_word name inside (x ∷ xs) ≡ lacks_word name (in_name x) xs
lacks_word-step name xs x inside o w = rw (o, w) refl

no_cons : (x : ℕ) (xs : List ℕ) → [] ≡ x ∷ xs → ⊥
no_cons x xs e = cc

has_at-of_drop : (p : ℕ → Bool) (n x : ℕ) (text xs : List ℕ) → drop n text ≡ x ∷ xs → has_at p n text ≡ p x
has_at-of_drop p zero x text xs e = ap (has_at p 0) e
has_at-of_drop p (suc n) x [] xs e = absurd (no_cons x xs e)
has_at-of_drop p (suc n) x (c ∷ cs) xs e = has_at-of_drop p n x cs xs e

inside_after : (text xs : List ℕ) (x at : ℕ) → drop at text ≡ x ∷ xs → is_inside (at + 1) text ≡ in_name x
inside_after text xs x at e = ap (λ n. is_inside n text) (add-one at) ∙ has_at-of_drop in_name at x text xs e

passed-one : (name text xs : List ℕ) (x at : ℕ) → drop at text ≡ x ∷ xs → is_ordinary x ≡ true → (not (is_inside at text) && word_at name (x ∷ xs)) ≡ false
    → IsSkipped name text at → IsSkipped name text (at + 1)
passed-one name text xs x at e o w p =
    let later : drop (at + 1) text ≡ xs = next_rest text xs x at e in
    let one : prefix_len is_ordinary (x ∷ xs) ≡ 1 + prefix_len is_ordinary xs = rw o refl in
    record {
      run = p.run ∙ ap (λ ys. at + prefix_len is_ordinary ys) e ∙ ap (λ n. at + n) one ∙ sym (add_assoc at 1 (prefix_len is_ordinary xs))
          ∙ ap (λ ys. at + 1 + prefix_len is_ordinary ys) (sym later);
      free = p.free ∙ ap (lacks_word name (is_inside at text)) e
          ∙ lacks_word-step name xs x (is_inside at text) o w
          ∙ ap (lacks_word name (in_name x)) (sym later)
          ∙ ap (λ (b : Bool). lacks_word name b (drop (at + 1) text)) (sym (inside_after text xs x at e));
    }

free-on : (name text : List ℕ) (at n : ℕ) → n ≤ length (drop at text) → IsFree name (drop at text) n → IsSkipped name text at → IsSkipped name text (at + n)
free-on name text at zero within free p = subst (λ (k : ℕ). IsSkipped name text k) (sym (add-zero at)) p
free-on name text at (suc n) within free p =
    let rest = drop at text in
    let here : drop (at + n) text ≡ get_or rest n 0 ∷ drop (n + 1) rest = sym (drop-drop n at text) ∙ drop_more rest n 0 within in
    let word : word_at name (get_or rest n 0 ∷ drop (n + 1) rest) ≡ false =
    ap (word_at name) (sym (drop_more rest n 0 within)) ∙ (free n (omega arith)).1 in
    let step : at + n + 1 ≡ at + suc n = omega arith in
    subst (λ (k : ℕ). IsSkipped name text k) step
    (passed-one name text (drop (n + 1) rest) (get_or rest n 0) (at + n) here (free n (omega arith)).0 (and-right (not (is_inside (at + n) text)) (word_at name (get_or rest n 0 ∷ drop (n + 1) rest)) word)
    (free-on name text at n (omega (arith, within)) (λ k below. free k (omega (arith, below))) p))

pub passed-start : (name text : List ℕ) (n : ℕ) → n ≤ length text → IsFree name text n → IsSkipped name text n
passed-start name text n within free =
    let none : IsSkipped name text 0 = record { run = sym (zero-add (prefix_len is_ordinary text)); free = refl } in
    subst (λ (k : ℕ). IsSkipped name text k) (zero-add n) (free-on name text 0 n within free none)
  where
    zero-add : (k : ℕ) → 0 + k ≡ k
    zero-add k = omega arith

pub passed-on : (name text : List ℕ) (at n : ℕ) → IsSkipped name text at → has_at is_ordinary at text ≡ true → false ≡ (not (is_inside at text) && word_at name (drop at text))
    → n ≤ length (drop (at + 1) text) → IsFree name (drop (at + 1) text) n → IsSkipped name text (at + (1 + n))
passed-on name text at n p o w within free =
    let below : at < length text = has_at-within is_ordinary at text o in
    let here : drop at text ≡ get_or text at 0 ∷ drop (at + 1) text = drop_more text at 0 below in
    let one : IsSkipped name text (at + 1) =
    passed-one name text (drop (at + 1) text) (get_or text at 0) at here (has_at-read is_ordinary at text o)
    (ap (λ ys. not (is_inside at text) && word_at name ys) (sym here) ∙ sym w) p in
    subst (λ (k : ℕ). IsSkipped name text k) (add_assoc at 1 n) (free-on name text (at + 1) n within free one)

-- A run ends at a byte that isn't ordinary, or at the end of the text.
ended : (name rest : List ℕ) (inside : Bool) → has_at is_ordinary 0 rest ≡ false → (prefix_len is_ordinary rest ≡ 0) × (lacks_word name inside rest ≡ true)
ended name [] inside o = (refl, refl)
ended name (x ∷ xs) inside o = (rw o refl, rw o refl)

pub has_at-drop : (p : ℕ → Bool) (n : ℕ) (xs : List ℕ) → has_at p 0 (drop n xs) ≡ has_at p n xs
has_at-drop p zero xs = refl
has_at-drop p (suc n) [] = refl
has_at-drop p (suc n) (x ∷ xs) = has_at-drop p n xs

pub passed-end : (name text : List ℕ) (at : ℕ) → IsSkipped name text at → has_at is_ordinary at text ≡ false → IsFreeRun name text at
passed-end name text at p o =
    let parts = ended name (drop at text) (is_inside at text) (has_at-drop is_ordinary at text ∙ o) in
    record {
      run = sym (p.run ∙ ap (λ n. at + n) parts.0 ∙ add-zero at);
      free = p.free ∙ parts.1;
    }
