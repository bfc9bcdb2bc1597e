-- A walk over the tokens of an argument, and over arguments.
use Rattle.std.proofs.Common.{◌≡◌, ℕ, zero, suc, ◌+◌, ◌<◌, ◌≤◌, Bool, true, false, not, ◌&&◌, ◌||◌, cond, List, [], ◌∷◌, take, drop, length, get_or, refl, ap, sym, ◌∙◌, arith, subst}
use Rattle.std.specs.List.{onto_first}
use Rattle.rl_sites.specs.declared.significant.SignificantToken.{SignificantToken}
use Rattle.rl_sites.specs.Arguments.{opens, closes, lambda_after, arguments_from, arguments_of}
use Rattle.rl_sites.specs.internal.Parts.{separates}
use Rattle.rl_sites.specs.internal.Walks.{inside_size, argument_size, others_from, IsTable}
use Rattle.std.proofs.lemmas.List.{length-drop}
use Rattle.rl_sites.proofs.Tables.{table_drop, three_split}

-- An argument includes everything inside its brackets.
pub size-group : (s : List ℕ) (e d deep : ℕ) (lambda : Bool) (ms : List SignificantToken) → deep ≡ e + d + 1
    → argument_size s deep lambda ms ≡ inside_size s e ms + argument_size s d lambda (drop (inside_size s e ms) ms)
size-group s e d deep lambda [] h = omega arith
size-group s e d zero lambda (m ∷ ms) h = absurd (omega arith)
size-group s (suc e) d (suc deep) lambda (m ∷ ms) h =
    three_split (opens s m) (closes s m) (argument_size s (suc (suc deep)) lambda ms) (argument_size s deep lambda ms) (argument_size s (suc deep) lambda ms)
    (inside_size s (suc (suc e)) ms) (inside_size s e ms) (inside_size s (suc e) ms) (λ n. argument_size s d lambda (drop n ms))
    (size-group s (suc (suc e)) d (suc (suc deep)) lambda ms (omega arith)) (size-group s e d deep lambda ms (omega arith)) (size-group s (suc e) d (suc deep) lambda ms (omega arith))
size-group s zero d (suc deep) lambda (m ∷ ms) h =
    let same : deep ≡ d = omega arith in
    three_split (opens s m) (closes s m) (argument_size s (suc (suc deep)) lambda ms) (argument_size s deep lambda ms) (argument_size s (suc deep) lambda ms)
    (inside_size s 1 ms) 0 (inside_size s 0 ms) (λ n. argument_size s d lambda (drop n ms))
    (size-group s 1 d (suc (suc deep)) lambda ms (omega arith)) (omega (arith, ap (λ n. argument_size s n lambda ms) same)) (size-group s 0 d (suc deep) lambda ms (omega arith))

three_cuts : (b c : Bool) (x y z : List (List SignificantToken)) (k l n : ℕ) (f : ℕ → List (List SignificantToken)) → x ≡ f k → y ≡ f l → z ≡ f n
    → cond b x (cond c y z) ≡ f (cond b k (cond c l n))
three_cuts true c x y z k l n f h i j = h
three_cuts false true x y z k l n f h i j = i
three_cuts false false x y z k l n f h i j = j

outer_cuts : (s : List ℕ) (m : SignificantToken) (ms : List SignificantToken) (o c p : Bool) (x y : List (List SignificantToken)) (k l : ℕ)
    → closes s m ≡ c → x ≡ take k ms ∷ others_from s (drop k ms) → y ≡ take l ms ∷ others_from s (drop l ms)
    → cond o (onto_first m x) (cond c ([] ∷ []) (cond p ([] ∷ arguments_of s ms) (onto_first m y)))
    ≡ take (cond o (suc k) (cond c 0 (cond p 0 (suc l)))) (m ∷ ms) ∷ others_from s (drop (cond o (suc k) (cond c 0 (cond p 0 (suc l)))) (m ∷ ms))
outer_cuts s m ms true c p x y k l e h i = ap (onto_first m) h
outer_cuts s m ms false true p x y k l e h i = ap (λ b. [] ∷ cond b [] (arguments_of s ms)) (sym e)
outer_cuts s m ms false false true x y k l e h i = ap (λ b. [] ∷ cond b [] (arguments_of s ms)) (sym e)
outer_cuts s m ms false false false x y k l e h i = ap (onto_first m) i

-- The arguments are the first one and those after it.
pub arguments-front : (s : List ℕ) (d : ℕ) (lambda : Bool) (ms : List SignificantToken)
    → arguments_from s d lambda ms ≡ take (argument_size s d lambda ms) ms ∷ others_from s (drop (argument_size s d lambda ms) ms)
arguments-front s d lambda [] = refl
arguments-front s (suc d) lambda (m ∷ ms) =
    ap (onto_first m)
    (three_cuts (opens s m) (closes s m) (arguments_from s (suc (suc d)) lambda ms) (arguments_from s d lambda ms) (arguments_from s (suc d) lambda ms)
    (argument_size s (suc (suc d)) lambda ms) (argument_size s d lambda ms) (argument_size s (suc d) lambda ms) (λ k. take k ms ∷ others_from s (drop k ms))
    (arguments-front s (suc (suc d)) lambda ms) (arguments-front s d lambda ms) (arguments-front s (suc d) lambda ms))
arguments-front s zero lambda (m ∷ ms) =
    outer_cuts s m ms (opens s m) (closes s m) (separates s lambda m) (arguments_from s 1 (lambda_after s lambda m) ms) (arguments_from s 0 (lambda_after s lambda m) ms)
    (argument_size s 1 (lambda_after s lambda m) ms) (argument_size s 0 (lambda_after s lambda m) ms) refl
    (arguments-front s 1 (lambda_after s lambda m) ms) (arguments-front s 0 (lambda_after s lambda m) ms)

ends_case : (o c p : Bool) (x y : ℕ) → (not o && (c || p)) ≡ true → cond o x (cond c 0 (cond p 0 y)) ≡ 0
ends_case true c p x y h = absurd (no h)
  where
    no : false ≡ true → ⊥
    no e = cc
ends_case false true p x y h = refl
ends_case false false true x y h = refl
ends_case false false false x y h = absurd (no h)
  where
    no : false ≡ true → ⊥
    no e = cc

goes_case : (s : List ℕ) (ms : List SignificantToken) (lambda o c p : Bool) → (not o && (c || p)) ≡ false
    → cond o (suc (argument_size s 1 lambda ms)) (cond c 0 (cond p 0 (suc (argument_size s 0 lambda ms))))
    ≡ suc (cond o (inside_size s 0 ms) 0 + argument_size s 0 lambda (drop (cond o (inside_size s 0 ms) 0) ms))
goes_case s ms lambda true c p h = omega (arith, size-group s 0 0 1 lambda ms (omega arith))
goes_case s ms lambda false true p h = cc
goes_case s ms lambda false false true h = cc
goes_case s ms lambda false false false h = omega arith

-- The argument ends before this token.
pub size_ends : (s : List ℕ) (lambda : Bool) (ms : List SignificantToken) (m d : SignificantToken) → 0 < length ms → m ≡ get_or ms 0 d
    → (not (opens s m) && (closes s m || separates s lambda m)) ≡ true → argument_size s 0 lambda ms ≡ 0
size_ends s lambda [] m d some e h = absurd (omega arith)
size_ends s lambda (x ∷ ms) m d some e h =
    ends_case (opens s x) (closes s x) (separates s lambda x) (suc (argument_size s 1 (lambda_after s lambda x) ms)) (suc (argument_size s 0 (lambda_after s lambda x) ms))
    (subst (λ (y : SignificantToken). (not (opens s y) && (closes s y || separates s lambda y)) ≡ true) e h)

-- The argument goes on after this token, and after its brackets if it opens any.
pub size_goes : (s : List ℕ) (lambda : Bool) (ms after next : List SignificantToken) (m d : SignificantToken) (inner : ℕ) → 0 < length ms → m ≡ get_or ms 0 d
    → (not (opens s m) && (closes s m || separates s lambda m)) ≡ false → after ≡ drop 1 ms → inner ≡ cond (opens s m) (inside_size s 0 after) 0 → next ≡ drop inner after
    → argument_size s 0 lambda ms ≡ 1 + inner + argument_size s 0 (lambda_after s lambda m) next
size_goes s lambda [] after next m d inner some e h a b n = absurd (omega arith)
size_goes s lambda (x ∷ ms) after next m d inner some e h a b n =
    let here = goes_case s ms (lambda_after s lambda x) (opens s x) (closes s x) (separates s lambda x) (subst (λ (y : SignificantToken). (not (opens s y) && (closes s y || separates s lambda y)) ≡ false) e h) in
    let size : inner ≡ cond (opens s x) (inside_size s 0 ms) 0 =
    b ∙ ap (λ (y : List SignificantToken). cond (opens s m) (inside_size s 0 y) 0) a ∙ ap (λ (y : SignificantToken). cond (opens s y) (inside_size s 0 ms) 0) e in
    let rest : next ≡ drop (cond (opens s x) (inside_size s 0 ms) 0) ms = n ∙ ap (drop inner) a ∙ ap (λ k. drop k ms) size in
    let lambdas : argument_size s 0 (lambda_after s lambda m) next ≡ argument_size s 0 (lambda_after s lambda x) (drop (cond (opens s x) (inside_size s 0 ms) 0) ms) =
    ap (λ (y : SignificantToken). argument_size s 0 (lambda_after s lambda y) next) e ∙ ap (argument_size s 0 (lambda_after s lambda x)) rest in
    omega (arith, here, size, lambdas)

pub step_size : (ms after next : List SignificantToken) (inner : ℕ) → 0 < length ms → after ≡ drop 1 ms → inner ≤ length after → next ≡ drop inner after
    → length next + inner + 1 ≡ length ms
step_size ms after next inner some a h n =
    omega (arith, ap length a, ap length n, length-drop 1 ms, length-drop inner after)

pub step_table : (s : List ℕ) (ms after next : List SignificantToken) (t : List ℕ) (inner : ℕ) → IsTable s ms t → after ≡ drop 1 ms → next ≡ drop inner after → IsTable s next t
step_table s ms after next t inner h a n =
    subst (λ (xs : List SignificantToken). IsTable s xs t) (sym n) (table_drop s after t inner (subst (λ (xs : List SignificantToken). IsTable s xs t) (sym a) (table_drop s ms t 1 h)))

pub ruleset walks = (table_drop)

-- What follows an argument.
pub others_token : (s : List ℕ) (ms : List SignificantToken) (m d : SignificantToken) → 0 < length ms → m ≡ get_or ms 0 d → closes s m ≡ false → others_from s ms ≡ arguments_of s (drop 1 ms)
others_token s [] m d some e h = absurd (omega arith)
others_token s (x ∷ ms) m d some e h = ap (λ b. cond b [] (arguments_of s ms)) (subst (λ (y : SignificantToken). closes s y ≡ false) e h)

pub others_closed : (s : List ℕ) (ms : List SignificantToken) (m d : SignificantToken) → 0 < length ms → m ≡ get_or ms 0 d → closes s m ≡ true → others_from s ms ≡ []
others_closed s [] m d some e h = absurd (omega arith)
others_closed s (x ∷ ms) m d some e h = ap (λ b. cond b [] (arguments_of s ms)) (subst (λ (y : SignificantToken). closes s y ≡ true) e h)

pub others_none : (s : List ℕ) (ms : List SignificantToken) → length ms ≤ 0 → others_from s ms ≡ []
others_none s [] h = refl
others_none s (x ∷ ms) h = absurd (omega arith)

pub ruleset others = (others_token, others_closed, others_none)
