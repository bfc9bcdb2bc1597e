-- Laws of rising lists: lists with the same members are equal, and the numbers below a bound that pass a test are such
-- a list.
use Rattle.std.proofs.Common.{◌≡◌, ◌∙◌, ℕ, zero, suc, ◌<◌, ◌≤◌, inl, inr, List, [], ◌∷◌, ◌++◌, filter, Bool, true, false, cond, ◌||◌, ◌&&◌, nat_le, nat_lt, eqb, eqb-true, eq-eqb, ltb-true, leb-true, lt-ltb, le-leb, refl, sym, ap, ap₂, subst, arith}
use Rattle.std.specs.List.{list_any, list_all}
use Rattle.std.proofs.lemmas.Bool.{false≢true, and_parts, and_from, cases_lt, or_cases, or_left, or_right}
use Rattle.std.proofs.lemmas.List.{append-nil}
use Rattle.rl_sets.specs.Live.{below, holds}
use Rattle.rl_sets.proofs.SetLemmas.{same_tests, filter-below_suc}
use Rattle.rl_equiv.specs.SetPairs.{rises}

-- ---- one more number

pub rises-parts : (low high x : ℕ) (l : List ℕ) → rises low high (x ∷ l) ≡ true → (low ≤ x) × (x < high) × (rises (suc x) high l ≡ true)
rises-parts low high x l e =
    let p = and_parts (nat_le low x) (nat_lt x high && rises (suc x) high l) e in
    let q = and_parts (nat_lt x high) (rises (suc x) high l) p.1 in
    (leb-true low x p.0, ltb-true x high q.0, q.1)

pub rises-cons : (low high x : ℕ) (l : List ℕ) → low ≤ x → x < high → rises (suc x) high l ≡ true → rises low high (x ∷ l) ≡ true
rises-cons low high x l le lt e =
    and_from (nat_le low x) (nat_lt x high && rises (suc x) high l) (le-leb low x le)
    (and_from (nat_lt x high) (rises (suc x) high l) (lt-ltb x high lt) e)

-- ---- other bounds

pub rises-lower : (from low high : ℕ) (l : List ℕ) → from ≤ low → rises low high l ≡ true → rises from high l ≡ true
rises-lower from low high [] le e = refl
rises-lower from low high (x ∷ l) le e =
    let p = rises-parts low high x l e in
    rises-cons from high x l (omega (arith, p.0)) p.1 p.2

pub rises-all : (low high : ℕ) (l : List ℕ) → rises low high l ≡ true → list_all (λ q. nat_lt q high) l ≡ true
rises-all low high [] e = refl
rises-all low high (x ∷ l) e =
    let p = rises-parts low high x l e in
    and_from (nat_lt x high) (list_all (λ q. nat_lt q high) l) (lt-ltb x high p.1) (rises-all (suc x) high l p.2)

pub rises-under : (low n high : ℕ) (l : List ℕ) → rises low n l ≡ true → list_all (λ q. nat_lt q high) l ≡ true → rises low high l ≡ true
rises-under low n high [] e all = refl
rises-under low n high (x ∷ l) e all =
    let p = rises-parts low n x l e in
    let q = and_parts (nat_lt x high) (list_all (λ y. nat_lt y high) l) all in
    rises-cons low high x l p.0 (ltb-true x high q.0) (rises-under (suc x) n high l p.2 q.1)

pub rises-higher : (low n high : ℕ) (l : List ℕ) → n ≤ high → rises low n l ≡ true → rises low high l ≡ true
rises-higher low n high [] le e = refl
rises-higher low n high (x ∷ l) le e =
    let p = rises-parts low n x l e in
    rises-cons low high x l p.0 (omega (arith, p.1)) (rises-higher (suc x) n high l le p.2)

-- ---- the numbers below a bound that pass a test

pub rises-push : (low n high : ℕ) (l : List ℕ) → low ≤ n → n < high → rises low n l ≡ true → rises low high (l ++ n ∷ []) ≡ true
rises-push low n high [] le lt e = rises-cons low high n [] le lt refl
rises-push low n high (x ∷ l) le lt e =
    let p = rises-parts low n x l e in
    rises-cons low high x (l ++ n ∷ []) p.0 (omega (arith, p.1)) (rises-push (suc x) n high l (omega (arith, p.1)) lt p.2)

pub rises-below : (p : ℕ → Bool) (n : ℕ) → rises 0 n (filter p (below n)) ≡ true
rises-below p zero = refl
rises-below p (suc n) = ap (rises 0 (suc n)) (filter-below_suc p n) ∙ by (p n) (rises-below p n)
  where
    by : (b : Bool) → rises 0 n (filter p (below n)) ≡ true → rises 0 (suc n) (filter p (below n) ++ cond b (n ∷ []) []) ≡ true
    by true e = rises-push 0 n (suc n) (filter p (below n)) (omega arith) (omega arith) e
    by false e = ap (rises 0 (suc n)) (append-nil (filter p (below n))) ∙ rises-higher 0 n (suc n) (filter p (below n)) (omega arith) e

pub rises-filter : (p : ℕ → Bool) (low high : ℕ) (l : List ℕ) → rises low high l ≡ true → rises low high (filter p l) ≡ true
rises-filter p low high [] e = refl
rises-filter p low high (x ∷ l) e =
    let q = rises-parts low high x l e in
    by (p x) q.0 q.1 (rises-filter p (suc x) high l q.2)
  where
    by : (b : Bool) → low ≤ x → x < high → rises (suc x) high (filter p l) ≡ true → rises low high (cond b (x ∷ filter p l) (filter p l)) ≡ true
    by true le lt h = rises-cons low high x (filter p l) le lt h
    by false le lt h = rises-lower low (suc x) high (filter p l) (omega arith) h

-- ---- rising lists are sets

pub rises-holds : (low high : ℕ) (l : List ℕ) (q : ℕ) → rises low high l ≡ true → holds l q ≡ true → (low ≤ q) × (q < high)
rises-holds low high [] q e in' = absurd (false≢true in')
rises-holds low high (x ∷ l) q e in' =
    let p = rises-parts low high x l e in
    elim (or_cases (eqb x q) (holds l q) in') [
      | inl here ↦ let same = eqb-true x q here in (omega (arith, p.0, same), omega (arith, p.1, same))
      | inr later ↦ let r = rises-holds (suc x) high l q p.2 later in (omega (arith, p.0, r.0), r.1)
    ]

-- If a list has a number, its first number isn't greater.
first-least : (low high x y : ℕ) (l m : List ℕ) → rises low high (y ∷ m) ≡ true → holds (y ∷ m) x ≡ true → y ≤ x
first-least low high x y l m e in' =
    let p = rises-parts low high y m e in
    (rises-holds y high (y ∷ m) x (rises-cons y high y m (omega arith) p.1 p.2) in').0

pub rises-one : (low high : ℕ) (l m : List ℕ) → rises low high l ≡ true → rises low high m ≡ true → ((q : ℕ) → holds l q ≡ holds m q) → l ≡ m
rises-one low high [] [] e f same = refl
rises-one low high [] (y ∷ m) e f same = absurd (false≢true (same y ∙ or_left (eqb y y) (holds m y) (eq-eqb y y refl)))
rises-one low high (x ∷ l) [] e f same = absurd (false≢true (sym (same x) ∙ or_left (eqb x x) (holds l x) (eq-eqb x x refl)))
rises-one low high (x ∷ l) (y ∷ m) e f same =
    let p = rises-parts low high x l e in
    let q = rises-parts low high y m f in
    let there : y ≤ x = first-least low high x y l m f (sym (same x) ∙ or_left (eqb x x) (holds l x) (eq-eqb x x refl)) in
    let back : x ≤ y = first-least low high y x m l e (same y ∙ or_left (eqb y y) (holds m y) (eq-eqb y y refl)) in
    let first : x ≡ y = omega arith in
    let tail : rises (suc x) high m ≡ true = subst (λ (k : ℕ). rises (suc k) high m ≡ true) (sym first) q.2 in
    let rest = λ (k : ℕ). same_tests (holds l k) (holds m k)
    (λ in'. elim (or_cases (eqb y k) (holds m k) (sym (same k) ∙ or_right (eqb x k) (holds l k) in')) [
      | inl here ↦ absurd (omega (arith, eqb-true y k here, first, (rises-holds (suc x) high l k p.2 in').0))
      | inr later ↦ later
    ])
    (λ in'. elim (or_cases (eqb x k) (holds l k) (same k ∙ or_right (eqb y k) (holds m k) in')) [
      | inl here ↦ absurd (omega (arith, eqb-true x k here, (rises-holds (suc x) high m k tail in').0))
      | inr later ↦ later
    ]) in
    ap₂ (λ (k : ℕ) (ks : List ℕ). k ∷ ks) first (rises-one (suc x) high l m p.2 tail rest)
