-- The table of the sizes inside brackets.
use Rattle.std.proofs.Common.{◌≡◌, ℕ, zero, suc, ◌+◌, ◌-◌, ◌<◌, ◌≤◌, Bool, true, false, not, ◌&&◌, cond, List, [], ◌∷◌, ◌++◌, drop, length, get_or, refl, ap, sym, ◌∙◌, arith, subst, Some, None}
use Rattle.std.specs.Prelude.{slice_get}
use Rattle.std.proofs.lemmas.List.{drop-drop}
use Rattle.rl_sites.specs.declared.significant.SignificantToken.{SignificantToken}
use Rattle.rl_sites.specs.Arguments.{opens, closes}
use Rattle.rl_sites.specs.internal.Walks.{inside_size, IsTable}

-- Three numbers, each at most n.
three_within : (b c : Bool) (x y z n : ℕ) → x ≤ n → y ≤ n → z ≤ n → suc (cond b x (cond c y z)) ≤ suc n
three_within true c x y z n h k l = omega arith
three_within false true x y z n h k l = omega arith
three_within false false x y z n h k l = omega arith

pub inside_within : (s : List ℕ) (d : ℕ) (ms : List SignificantToken) → inside_size s d ms ≤ length ms
inside_within s d [] = omega arith
inside_within s (suc d) (m ∷ ms) =
    three_within (opens s m) (closes s m) (inside_size s (suc (suc d)) ms) (inside_size s d ms) (inside_size s (suc d) ms) (length ms)
    (inside_within s (suc (suc d)) ms) (inside_within s d ms) (inside_within s (suc d) ms)
inside_within s zero (m ∷ ms) =
    three_within (opens s m) (closes s m) (inside_size s 1 ms) 0 (inside_size s 0 ms) (length ms)
    (inside_within s 1 ms) (omega arith) (inside_within s 0 ms)

-- A choice of three numbers, each of which is a sum.
pub three_split : (b c : Bool) (x y z k l n : ℕ) (f : ℕ → ℕ) → x ≡ k + f k → y ≡ l + f l → z ≡ n + f n
    → suc (cond b x (cond c y z)) ≡ suc (cond b k (cond c l n)) + f (cond b k (cond c l n))
three_split true c x y z k l n f h i j = omega arith
three_split false true x y z k l n f h i j = omega arith
three_split false false x y z k l n f h i j = omega arith

-- Brackets inside brackets.
pub inside-group : (s : List ℕ) (e d deep : ℕ) (ms : List SignificantToken) → deep ≡ e + d + 1
    → inside_size s deep ms ≡ inside_size s e ms + inside_size s d (drop (inside_size s e ms) ms)
inside-group s e d deep [] h = omega arith
inside-group s e d zero (m ∷ ms) h = absurd (omega arith)
inside-group s (suc e) d (suc deep) (m ∷ ms) h =
    three_split (opens s m) (closes s m) (inside_size s (suc (suc deep)) ms) (inside_size s deep ms) (inside_size s (suc deep) ms)
    (inside_size s (suc (suc e)) ms) (inside_size s e ms) (inside_size s (suc e) ms) (λ n. inside_size s d (drop n ms))
    (inside-group s (suc (suc e)) d (suc (suc deep)) ms (omega arith)) (inside-group s e d deep ms (omega arith)) (inside-group s (suc e) d (suc deep) ms (omega arith))
inside-group s zero d (suc deep) (m ∷ ms) h =
    let same : deep ≡ d = omega arith in
    three_split (opens s m) (closes s m) (inside_size s (suc (suc deep)) ms) (inside_size s deep ms) (inside_size s (suc deep) ms)
    (inside_size s 1 ms) 0 (inside_size s 0 ms) (λ n. inside_size s d (drop n ms))
    (inside-group s 1 d (suc (suc deep)) ms (omega arith)) (omega (arith, ap (λ n. inside_size s n ms) same)) (inside-group s 0 d (suc deep) ms (omega arith))

get_some : (t : List ℕ) (i v : ℕ) → slice_get t i ≡ Some v → (i < length t) × (get_or t i 0 ≡ v)
get_some [] i v h = absurd (none_is_no v h)
  where
    none_is_no : (v : ℕ) → None ≡ Some v → ⊥
    none_is_no v e = cc
get_some (x ∷ t) zero v h = (omega arith, same_value x v h)
  where
    same_value : (x v : ℕ) → Some x ≡ Some v → x ≡ v
    same_value x v e = cc
get_some (x ∷ t) (suc i) v h = let later = get_some t i v h in (omega (arith, later.0), later.1)

pub table_get : (s : List ℕ) (ms : List SignificantToken) (t : List ℕ) → IsTable s ms t → slice_get t (length ms) ≡ Some (inside_size s 0 ms)
table_get s [] t h = h
table_get s (m ∷ ms) t h = h.0

pub table_in : (s : List ℕ) (ms : List SignificantToken) (t : List ℕ) → IsTable s ms t → length ms < length t
table_in s ms t h = (get_some t (length ms) (inside_size s 0 ms) (table_get s ms t h)).0

pub table_at : (s : List ℕ) (ms : List SignificantToken) (t : List ℕ) → IsTable s ms t → get_or t (length ms) 0 ≡ inside_size s 0 ms
table_at s ms t h = (get_some t (length ms) (inside_size s 0 ms) (table_get s ms t h)).1

pub table_drop : (s : List ℕ) (ms : List SignificantToken) (t : List ℕ) (k : ℕ) → IsTable s ms t → IsTable s (drop k ms) t
table_drop s ms t zero h = h
table_drop s [] t (suc k) h = h
table_drop s (m ∷ ms) t (suc k) h = table_drop s ms t k h.1

get_left : (t : List ℕ) (x i v : ℕ) → slice_get t i ≡ Some v → slice_get (t ++ x ∷ []) i ≡ Some v
get_left [] x i v h = cc
get_left (y ∷ t) x zero v h = h
get_left (y ∷ t) x (suc i) v h = get_left t x i v h

get_last : (t : List ℕ) (x i : ℕ) → length t ≡ i → slice_get (t ++ x ∷ []) i ≡ Some x
get_last [] x zero h = refl
get_last [] x (suc i) h = absurd (omega arith)
get_last (y ∷ t) x zero h = absurd (omega arith)
get_last (y ∷ t) x (suc i) h = get_last t x i (omega arith)

table_push : (s : List ℕ) (ms : List SignificantToken) (t : List ℕ) (x : ℕ) → IsTable s ms t → IsTable s ms (t ++ x ∷ [])
table_push s [] t x h = get_left t x 0 0 h
table_push s (m ∷ ms) t x h = (get_left t x (length (m ∷ ms)) (inside_size s 0 (m ∷ ms)) h.0, table_push s ms t x h.1)

table_cons : (s : List ℕ) (m : SignificantToken) (ms : List SignificantToken) (t : List ℕ) (x : ℕ) → IsTable s ms t → length t ≡ length ms + 1 → x ≡ inside_size s 0 (m ∷ ms) → IsTable s (m ∷ ms) (t ++ x ∷ [])
table_cons s m ms t x h n e =
    (get_last t x (length (m ∷ ms)) (omega arith) ∙ ap Some e, table_push s ms t x h)

-- One more token, counted from the end.
table_back : (s : List ℕ) (ms : List SignificantToken) (t : List ℕ) (next x : ℕ) → next < length ms
    → IsTable s (drop (suc next) ms) t → length t + next ≡ length ms → x ≡ inside_size s 0 (drop next ms)
    → IsTable s (drop next ms) (t ++ x ∷ [])
table_back s [] t next x within b h n = absurd (omega arith)
table_back s (m ∷ ms) t zero x within b h n = table_cons s m ms t x b (omega arith) n
table_back s (m ∷ ms) t (suc next) x within b h n = table_back s ms t next x (omega arith) b (omega arith) n

pub table_more : (s : List ℕ) (ms rest : List SignificantToken) (t more : List ℕ) (left x : ℕ) → 0 < left → left ≤ length ms
    → IsTable s (drop left ms) t → length t + left ≡ length ms + 1 → rest ≡ drop (left - 1) ms → x ≡ inside_size s 0 rest → more ≡ t ++ x ∷ []
    → IsTable s (drop (left - 1) ms) more
table_more s ms rest t more left x some within b h r n e =
    let same : left ≡ suc (left - 1) = omega arith in
    subst (IsTable s (drop (left - 1) ms)) (sym e)
    (table_back s ms t (left - 1) x (omega arith) (subst (λ k. IsTable s (drop k ms) t) same b) (omega arith) (n ∙ ap (inside_size s 0) r))

pub table_next : (s : List ℕ) (ms rest : List SignificantToken) (t u : List ℕ) (left : ℕ) → 0 < left
    → IsTable s (drop left ms) t → rest ≡ drop (left - 1) ms → u ≡ t → IsTable s (drop 1 rest) u
table_next s ms rest t u left some b r e =
    let same : left ≡ left - 1 + 1 = omega arith in
    subst (λ (xs : List SignificantToken). IsTable s (drop 1 xs) u) (sym r)
    (subst (λ (xs : List SignificantToken). IsTable s xs u) (sym (drop-drop 1 (left - 1) ms)) (subst (λ k. IsTable s (drop k ms) u) same (subst (IsTable s (drop left ms)) (sym e) b)))

one_case : (o c : Bool) (x y : ℕ) → (not o && c) ≡ true → suc (cond o x (cond c 0 y)) ≡ 1
one_case true c x y h = cc
one_case false true x y h = refl
one_case false false x y h = cc

-- The tokens begin with the closing bracket.
pub next_one : (s : List ℕ) (m d : SignificantToken) (ms : List SignificantToken) → 0 < length ms → m ≡ get_or ms 0 d → (not (opens s m) && closes s m) ≡ true → 1 ≡ inside_size s 0 ms
next_one s m d [] some e h = absurd (omega arith)
next_one s m d (x ∷ ms) some e h =
    sym (one_case (opens s x) (closes s x) (inside_size s 1 ms) (inside_size s 0 ms) (subst (λ (y : SignificantToken). (not (opens s y) && closes s y) ≡ true) e h))

more_case : (s : List ℕ) (ms : List SignificantToken) (o c : Bool) → (not o && c) ≡ false
    → cond o (inside_size s 1 ms) (cond c 0 (inside_size s 0 ms)) ≡ cond o (inside_size s 0 ms) 0 + inside_size s 0 (drop (cond o (inside_size s 0 ms) 0) ms)
more_case s ms true c h = inside-group s 0 0 1 ms (omega arith)
more_case s ms false true h = cc
more_case s ms false false h = omega arith

-- The tokens begin with another token, and with its brackets if it opens any.
pub next_more : (s : List ℕ) (m d : SignificantToken) (ms after : List SignificantToken) (inner : ℕ) → 0 < length ms → m ≡ get_or ms 0 d → (not (opens s m) && closes s m) ≡ false
    → after ≡ drop 1 ms → inner ≡ cond (opens s m) (inside_size s 0 after) 0 → 1 + inner + inside_size s 0 (drop inner after) ≡ inside_size s 0 ms
next_more s m d [] after inner some e h a b = absurd (omega arith)
next_more s m d (x ∷ ms) after inner some e h a b =
    let here = more_case s ms (opens s x) (closes s x) (subst (λ (y : SignificantToken). (not (opens s y) && closes s y) ≡ false) e h) in
    let size : inner ≡ cond (opens s x) (inside_size s 0 ms) 0 =
    b ∙ ap (λ (y : List SignificantToken). cond (opens s m) (inside_size s 0 y) 0) a ∙ ap (λ (y : SignificantToken). cond (opens s y) (inside_size s 0 ms) 0) e in
    let rest : drop inner after ≡ drop (cond (opens s x) (inside_size s 0 ms) 0) ms = ap (drop inner) a ∙ ap (λ n. drop n ms) size in
    omega (arith, here, size, ap (inside_size s 0) rest)

pub ruleset tables = (inside_within, table_in, table_at, table_drop)
