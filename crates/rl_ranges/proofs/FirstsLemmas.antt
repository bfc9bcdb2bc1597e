-- The codes that aren't like any smaller code, for any likeness that is an equivalence.
-- The first index whose item satisfies the test is within the list.
use Rattle.std.proofs.Common.{Bool, List, [], add-one, add-suc, add-zero, ap, ap₂, arith, false, get_or, inl, inr, le_of_suc-le-suc, le_refl, le_trans, length, not-suc-le-zero, refl, subst, suc, suc-le-suc, sym, true, zero, zero-lt-suc, ℕ, ◌++◌, ◌+◌, ◌<◌, ◌||◌, ◌∙◌, ◌∷◌, ◌≡◌, ◌≤◌}
use Rattle.std.proofs.lemmas.Bool.{both_ways, cases_Bool, cases_lt, false_from_ne_true, or_left, or_parts, or_right}
use Rattle.std.proofs.lemmas.List.{get_or_append_left, get_or_at, length_push}
use Rattle.std.specs.List.{list_any}
use Rattle.std.specs.Prelude.{if◌then◌else◌}
use Rattle.rl_ranges.proofs.SetLemmas.{or-false, or_assoc}
use Rattle.rl_ranges.specs.Letters.{alike, place_where}
use Rattle.rl_ranges.specs.Numbering.{firsts}

pub place-lt : (p : ℕ → Bool) (xs : List ℕ) → list_any p xs ≡ true → place_where p xs < length xs
place-lt p [] h = cc
place-lt p (x ∷ xs) h = elim (cases_Bool (p x)) [
  | inl hit ↦ rw hit (zero-lt-suc _)
  | inr miss ↦ rw miss (suc-le-suc (place-lt p xs (rw miss at h)))
]

pub place-hit : (p : ℕ → Bool) (xs : List ℕ) → list_any p xs ≡ true → p (get_or xs (place_where p xs) 0) ≡ true
place-hit p [] h = cc
place-hit p (x ∷ xs) h = elim (cases_Bool (p x)) [
  | inl hit ↦ ap (λ b. p (get_or (x ∷ xs) (if b then zero else suc (place_where p xs)) 0)) hit ∙ hit
  | inr miss ↦ ap (λ b. p (get_or (x ∷ xs) (if b then zero else suc (place_where p xs)) 0)) miss ∙ place-hit p xs (rw miss at h)
]

pub place-none : (p : ℕ → Bool) (xs : List ℕ) → list_any p xs ≡ false → place_where p xs ≡ length xs
place-none p [] h = refl
place-none p (x ∷ xs) h =
    let parts = or_parts (p x) (list_any p xs) h in
    ap (λ b. if b then zero else suc (place_where p xs)) parts.0 ∙ ap suc (place-none p xs parts.1)

pub place-append : (p : ℕ → Bool) (xs ys : List ℕ) → list_any p xs ≡ true → place_where p (xs ++ ys) ≡ place_where p xs
place-append p [] ys h = cc
place-append p (x ∷ xs) ys h = elim (cases_Bool (p x)) [
  | inl hit ↦ rw hit refl
  | inr miss ↦ rw miss (ap suc (place-append p xs ys (rw miss at h)))
]

pub place-push : (p : ℕ → Bool) (xs : List ℕ) (y : ℕ) → list_any p xs ≡ false → p y ≡ true → place_where p (xs ++ y ∷ []) ≡ length xs
place-push p [] y h hit = ap (λ b. if b then zero else 1) hit
place-push p (x ∷ xs) y h hit =
    let parts = or_parts (p x) (list_any p xs) h in
    ap (λ b. if b then zero else suc (place_where p (xs ++ y ∷ []))) parts.0 ∙ ap suc (place-push p xs y parts.1 hit)

-- The first index is the one whose item satisfies the test while no earlier item does.
pub place-unique : (p : ℕ → Bool) (xs : List ℕ) (k : ℕ) → k < length xs → p (get_or xs k 0) ≡ true → ((i : ℕ) → i < k → p (get_or xs i 0) ≡ false) → place_where p xs ≡ k
place-unique p [] k lt hit before = absurd (not-suc-le-zero lt)
place-unique p (x ∷ xs) zero lt hit before = ap (λ b. if b then zero else suc (place_where p xs)) hit
place-unique p (x ∷ xs) (suc k) lt hit before =
    ap (λ b. if b then zero else suc (place_where p xs)) (before zero (zero-lt-suc _))
    ∙ ap suc (place-unique p xs k (le_of_suc-le-suc lt) hit (λ i h. before (suc i) (suc-le-suc h)))

pub place-same : (p q : ℕ → Bool) (xs : List ℕ) → ((k : ℕ) → k < length xs → p (get_or xs k 0) ≡ q (get_or xs k 0)) → place_where p xs ≡ place_where q xs
place-same p q [] h = refl
place-same p q (x ∷ xs) h =
    ap₂ (λ b k. if b then zero else suc k) (h zero (zero-lt-suc _)) (place-same p q xs (λ k lt. h (suc k) (suc-le-suc lt)))

pub any-same : (p q : ℕ → Bool) (xs : List ℕ) → ((k : ℕ) → k < length xs → p (get_or xs k 0) ≡ q (get_or xs k 0)) → list_any p xs ≡ list_any q xs
any-same p q [] h = refl
any-same p q (x ∷ xs) h = ap₂ ◌||◌ (h zero (zero-lt-suc _)) (any-same p q xs (λ k lt. h (suc k) (suc-le-suc lt)))

pub any-append : (p : ℕ → Bool) (xs ys : List ℕ) → list_any p (xs ++ ys) ≡ (list_any p xs || list_any p ys)
any-append p [] ys = refl
any-append p (x ∷ xs) ys = ap (λ b. p x || b) (any-append p xs ys) ∙ or_assoc (p x) (list_any p xs) (list_any p ys)

pub any-push : (p : ℕ → Bool) (xs : List ℕ) (y : ℕ) → list_any p (xs ++ y ∷ []) ≡ (list_any p xs || p y)
any-push p xs y = any-append p xs (y ∷ []) ∙ ap (λ b. list_any p xs || b) (or-false (p y))

pub any-at : (p : ℕ → Bool) (xs : List ℕ) (k : ℕ) → k < length xs → p (get_or xs k 0) ≡ true → list_any p xs ≡ true
any-at p [] k lt h = absurd (not-suc-le-zero lt)
any-at p (x ∷ xs) zero lt h = or_left _ _ h
any-at p (x ∷ xs) (suc k) lt h = or_right _ _ (any-at p xs k (le_of_suc-le-suc lt) h)

pub none-at : (p : ℕ → Bool) (xs : List ℕ) (k : ℕ) → list_any p xs ≡ false → k < length xs → p (get_or xs k 0) ≡ false
none-at p xs k h lt = elim (cases_Bool (p (get_or xs k 0))) [
  | inl hit ↦ absurd (both_ways _ h (any-at p xs k lt hit))
  | inr miss ↦ miss
]

-- A likeness: an equivalence of codes.
pub record IsLikeness (like : ℕ → ℕ → Bool) : Type 0 where
  pub itself : (c : ℕ) → like c c ≡ true
  pub back : (c d : ℕ) → like c d ≡ true → like d c ≡ true
  pub onward : (c d e : ℕ) → like c d ≡ true → like d e ≡ true → like c e ≡ true

-- Codes that are alike are like the same codes.
pub like-same : (like : ℕ → ℕ → Bool) → IsLikeness like → (c d e : ℕ) → like c d ≡ true → like c e ≡ like d e
like-same like laws c d e h = elim (cases_Bool (like d e)) [
  | inl hit ↦ laws.onward c d e h hit ∙ sym hit
  | inr miss ↦ false_from_ne_true _ (λ hit. both_ways _ miss (laws.onward d c e (laws.back c d h) hit)) ∙ sym miss
]

-- How one more code changes the list.
pub firsts-known : (like : ℕ → ℕ → Bool) (n : ℕ) → list_any (like n) (firsts like n) ≡ true → firsts like (suc n) ≡ firsts like n
unfolding firsts
firsts-known like n h = ap (λ b. if b then firsts like n else firsts like n ++ n ∷ []) h

pub firsts-new : (like : ℕ → ℕ → Bool) (n : ℕ) → list_any (like n) (firsts like n) ≡ false → firsts like (suc n) ≡ firsts like n ++ n ∷ []
unfolding firsts
firsts-new like n h = ap (λ b. if b then firsts like n else firsts like n ++ n ∷ []) h

pub firsts-zero : (like : ℕ → ℕ → Bool) → firsts like 0 ≡ []
unfolding firsts
firsts-zero like = refl

pub below-push : (xs : List ℕ) (n k : ℕ) → ((i : ℕ) → i < length xs → get_or xs i 0 < n) → k < length (xs ++ n ∷ []) → get_or (xs ++ n ∷ []) k 0 < suc n
below-push xs n k h lt = elim (cases_lt k (length xs)) [
  | inl less ↦ rw (get_or_append_left xs (n ∷ []) 0 k less) (omega (arith, h k less))
  | inr more ↦ let at : length xs ≡ k = omega (arith, length_push xs n) in rw (get_or_at xs n [] 0 k at) (omega arith)
]

pub firsts-below : (like : ℕ → ℕ → Bool) (n k : ℕ) → k < length (firsts like n) → get_or (firsts like n) k 0 < n
firsts-below like zero k lt = absurd (not-suc-le-zero (subst (λ l. k < length l) (firsts-zero like) lt))
firsts-below like (suc n) k lt = elim (cases_Bool (list_any (like n) (firsts like n))) [
  | inl hit ↦
      let e = firsts-known like n hit in
      let h = firsts-below like n k (subst (λ l. k < length l) e lt) in
      rw e (omega arith)
  | inr miss ↦
      let e = firsts-new like n miss in
      rw e (below-push (firsts like n) n k (firsts-below like n) (subst (λ l. k < length l) e lt))
]

-- Every smaller code has a code like it in the list.
pub firsts-found : (like : ℕ → ℕ → Bool) → IsLikeness like → (n c : ℕ) → c < n → list_any (like c) (firsts like n) ≡ true
firsts-found like laws zero c lt = absurd (not-suc-le-zero lt)
firsts-found like laws (suc n) c lt = elim (cases_Bool (list_any (like n) (firsts like n))) [
  | inl hit ↦ rw (firsts-known like n hit) (elim (cases_lt c n) [
    | inl less ↦ firsts-found like laws n c less
    | inr more ↦ let at : n ≡ c = omega arith in subst (λ x. list_any (like x) (firsts like n) ≡ true) at hit
  ])
  | inr miss ↦ rw (firsts-new like n miss, any-push (like c) (firsts like n) n) (elim (cases_lt c n) [
    | inl less ↦ or_left _ _ (firsts-found like laws n c less)
    | inr more ↦ let at : n ≡ c = omega arith in or_right _ _ (subst (λ x. like x n ≡ true) at (laws.itself n))
  ])
]

-- No item is like an earlier one.
pub firsts-apart : (like : ℕ → ℕ → Bool) (n i j : ℕ) → i < j → j < length (firsts like n) → like (get_or (firsts like n) j 0) (get_or (firsts like n) i 0) ≡ false
firsts-apart like zero i j ij lt = absurd (not-suc-le-zero (subst (λ l. j < length l) (firsts-zero like) lt))
firsts-apart like (suc n) i j ij lt = elim (cases_Bool (list_any (like n) (firsts like n))) [
  | inl hit ↦ let e = firsts-known like n hit in rw e (firsts-apart like n i j ij (subst (λ l. j < length l) e lt))
  | inr miss ↦
      let e = firsts-new like n miss in
      let l = firsts like n in
      let short : j < length (l ++ n ∷ []) = subst (λ xs. j < length xs) e lt in
      let i_in : i < length l = omega (arith, length_push l n) in
      rw (e, get_or_append_left l (n ∷ []) 0 i i_in) (elim (cases_lt j (length l)) [
        | inl less ↦ rw (get_or_append_left l (n ∷ []) 0 j less) (firsts-apart like n i j ij less)
        | inr more ↦ let at : length l ≡ j = omega (arith, length_push l n) in rw (get_or_at l n [] 0 j at) (none-at (like n) l i miss i_in)
      ])
]

pub firsts-rising : (like : ℕ → ℕ → Bool) (n i j : ℕ) → i < j → j < length (firsts like n) → get_or (firsts like n) i 0 < get_or (firsts like n) j 0
firsts-rising like zero i j ij lt = absurd (not-suc-le-zero (subst (λ l. j < length l) (firsts-zero like) lt))
firsts-rising like (suc n) i j ij lt = elim (cases_Bool (list_any (like n) (firsts like n))) [
  | inl hit ↦ let e = firsts-known like n hit in rw e (firsts-rising like n i j ij (subst (λ l. j < length l) e lt))
  | inr miss ↦
      let e = firsts-new like n miss in
      let l = firsts like n in
      let short : j < length (l ++ n ∷ []) = subst (λ xs. j < length xs) e lt in
      let i_in : i < length l = omega (arith, length_push l n) in
      rw (e, get_or_append_left l (n ∷ []) 0 i i_in) (elim (cases_lt j (length l)) [
        | inl less ↦ rw (get_or_append_left l (n ∷ []) 0 j less) (firsts-rising like n i j ij less)
        | inr more ↦ let at : length l ≡ j = omega (arith, length_push l n) in rw (get_or_at l n [] 0 j at) (firsts-below like n i i_in)
      ])
]

-- The number of a code: the index of the item that is like it.
pub number-lt : (like : ℕ → ℕ → Bool) → IsLikeness like → (n c : ℕ) → c < n → place_where (like c) (firsts like n) < length (firsts like n)
number-lt like laws n c lt = place-lt (like c) (firsts like n) (firsts-found like laws n c lt)

pub number-hit : (like : ℕ → ℕ → Bool) → IsLikeness like → (n c : ℕ) → c < n → like c (get_or (firsts like n) (place_where (like c) (firsts like n)) 0) ≡ true
number-hit like laws n c lt = place-hit (like c) (firsts like n) (firsts-found like laws n c lt)

pub number-same : (like : ℕ → ℕ → Bool) → IsLikeness like → (n c d : ℕ) → like c d ≡ true → place_where (like c) (firsts like n) ≡ place_where (like d) (firsts like n)
number-same like laws n c d h = place-same (like c) (like d) (firsts like n) (λ k lt. like-same like laws c d (get_or (firsts like n) k 0) h)

pub number-only : (like : ℕ → ℕ → Bool) → IsLikeness like → (n c d : ℕ) → c < n → d < n → place_where (like c) (firsts like n) ≡ place_where (like d) (firsts like n) → like c d ≡ true
number-only like laws n c d hc hd same =
    let x = get_or (firsts like n) (place_where (like c) (firsts like n)) 0 in
    let at_d : like d x ≡ true = subst (λ k. like d (get_or (firsts like n) k 0) ≡ true) (sym same) (number-hit like laws n d hd) in
    laws.onward c x d (number-hit like laws n c hc) (laws.back d x at_d)

pub number-of_first : (like : ℕ → ℕ → Bool) → IsLikeness like → (n k : ℕ) → k < length (firsts like n) → place_where (like (get_or (firsts like n) k 0)) (firsts like n) ≡ k
number-of_first like laws n k lt =
    place-unique (like (get_or (firsts like n) k 0)) (firsts like n) k lt (laws.itself _) (λ i h. firsts-apart like n i k h lt)

-- The item that is like a code isn't greater than the code.
pub number-least : (like : ℕ → ℕ → Bool) → IsLikeness like → (n c : ℕ) → c < n → get_or (firsts like n) (place_where (like c) (firsts like n)) 0 ≤ c
number-least like laws zero c lt = absurd (not-suc-le-zero lt)
number-least like laws (suc n) c lt = elim (cases_Bool (list_any (like n) (firsts like n))) [
  | inl hit ↦ rw (firsts-known like n hit) (elim (cases_lt c n) [
    | inl less ↦ number-least like laws n c less
    | inr more ↦
        let at : n ≡ c = omega arith in
        let hit = subst (λ x. list_any (like x) (firsts like n) ≡ true) at hit in
        let h = firsts-below like n (place_where (like c) (firsts like n)) (place-lt (like c) (firsts like n) hit) in
        omega arith
  ])
  | inr miss ↦ rw (firsts-new like n miss) (elim (cases_lt c n) [
    | inl less ↦
        let l = firsts like n in
        let known = firsts-found like laws n c less in
        rw (place-append (like c) l (n ∷ []) known, get_or_append_left l (n ∷ []) 0 (place_where (like c) l) (place-lt (like c) l known))
        (number-least like laws n c less)
    | inr more ↦
        let at : n ≡ c = omega arith in
        let l = firsts like n in
        let none = subst (λ x. list_any (like x) l ≡ false) at miss in
        let own : like c n ≡ true = subst (λ x. like x n ≡ true) at (laws.itself n) in
        rw (place-push (like c) l n none own, get_or_at l n [] 0 (length l) refl) (omega arith)
  ])
]

-- ---- a run of codes that are all alike

pub piece-known : (like : ℕ → ℕ → Bool) → IsLikeness like → (from more : ℕ) → list_any (like from) (firsts like from) ≡ true
    → ((c : ℕ) → from ≤ c → c < from + more → like from c ≡ true) → firsts like (from + more) ≡ firsts like from
piece-known like laws from zero h alike = ap (firsts like) (add-zero from)
piece-known like laws from (suc more) h alike =
    let before = piece-known like laws from more h (λ c low high. alike c low (omega arith)) in
    let one = alike (from + more) (omega arith) (omega arith) in
    let hit : list_any (like (from + more)) (firsts like (from + more)) ≡ true =
    rw before (sym (any-same (like from) (like (from + more)) (firsts like from) (λ k lt. like-same like laws from (from + more) _ one)) ∙ h) in
    ap (firsts like) (add-suc from more) ∙ firsts-known like (from + more) hit ∙ before

pub piece-new : (like : ℕ → ℕ → Bool) → IsLikeness like → (from more : ℕ) → list_any (like from) (firsts like from) ≡ false
    → ((c : ℕ) → from ≤ c → c < from + suc more → like from c ≡ true) → firsts like (from + suc more) ≡ firsts like from ++ from ∷ []
piece-new like laws from zero h alike = ap (firsts like) (add-suc from zero ∙ ap suc (add-zero from)) ∙ firsts-new like from h
piece-new like laws from (suc more) h alike =
    let before = piece-new like laws from more h (λ c low high. alike c low (omega arith)) in
    let one = alike (from + suc more) (omega arith) (omega arith) in
    let hit : list_any (like (from + suc more)) (firsts like (from + suc more)) ≡ true =
    rw (before, any-push (like (from + suc more)) (firsts like from) from) (or_right _ _ (laws.back _ _ one)) in
    ap (firsts like) (add-suc from (suc more)) ∙ firsts-known like (from + suc more) hit ∙ before

-- ---- two likenesses

pub firsts-congr : (like like' : ℕ → ℕ → Bool) (n : ℕ) → ((c d : ℕ) → c < n → d < n → like c d ≡ like' c d) → firsts like n ≡ firsts like' n
unfolding firsts
firsts-congr like like' zero h = refl
firsts-congr like like' (suc n) h =
    let before = firsts-congr like like' n (λ c d p q. h c d (omega arith) (omega arith)) in
    let any : list_any (like n) (firsts like n) ≡ list_any (like' n) (firsts like' n) =
    any-same (like n) (like' n) (firsts like n) (λ k lt. let below = firsts-below like n k lt in h n _ (omega arith) (omega arith)) ∙ ap (list_any (like' n)) before in
    ap₂ (λ b l. if b then l else l ++ n ∷ []) any before

pub firsts-longer : (like : ℕ → ℕ → Bool) (m more : ℕ) → length (firsts like m) ≤ length (firsts like (m + more))
firsts-longer like m zero = rw (add-zero m) (le_refl _)
firsts-longer like m (suc more) =
    let before = firsts-longer like m more in
    rw (add-suc m more) (elim (cases_Bool (list_any (like (m + more)) (firsts like (m + more)))) [
      | inl hit ↦ rw (firsts-known like (m + more) hit) before
      | inr miss ↦ rw (firsts-new like (m + more) miss, length_push (firsts like (m + more)) (m + more)) (omega arith)
    ])

-- A finer likeness has at least as many first codes.
pub firsts-finer : (like finer : ℕ → ℕ → Bool) → IsLikeness like → ((c d : ℕ) → finer c d ≡ true → like c d ≡ true) → (n : ℕ) → length (firsts like n) ≤ length (firsts finer n)
firsts-finer like finer laws h zero = rw (firsts-zero like, firsts-zero finer) (le_refl _)
firsts-finer like finer laws h (suc n) =
    let before = firsts-finer like finer laws h n in
    elim (cases_Bool (list_any (like n) (firsts like n))) [
      | inl hit ↦ rw (firsts-known like n hit) (le_trans before (subst (λ k. length (firsts finer n) ≤ length (firsts finer k)) (add-one n) (firsts-longer finer n 1)))
      | inr miss ↦
          let none : list_any (finer n) (firsts finer n) ≡ false = elim (cases_Bool (list_any (finer n) (firsts finer n))) [
            | inr miss2 ↦ miss2
            | inl hit ↦
                let x = get_or (firsts finer n) (place_where (finer n) (firsts finer n)) 0 in
                let x_in : x < n = firsts-below finer n _ (place-lt (finer n) (firsts finer n) hit) in
                let near : like n x ≡ true = h n x (place-hit (finer n) (firsts finer n) hit) in
                let found = firsts-found like laws n x x_in in
                absurd (both_ways _ miss (any-same (like n) (like x) (firsts like n) (λ k lt. like-same like laws n x _ near) ∙ found))
          ] in
          rw (firsts-new like n miss, length_push (firsts like n) n, firsts-new finer n none, length_push (firsts finer n) n) (omega arith)
    ]
