-- What a list of ranges holds, and what it means for the list to be sorted.
use Rattle.std.proofs.Common.{Bool, List, [], add-one, ap, ap₂, arith, drop, false, get_or, inl, inr, le_of_suc-le-suc, le_refl, length, ltb, max, min, not, not-suc-le-zero, refl, set, subst, suc, suc-le-suc, sym, take, true, zero, zero-lt-suc, ℕ, ◌&&◌, ◌++◌, ◌+◌, ◌-◌, ◌<◌, ◌||◌, ◌∙◌, ◌∷◌, ◌≡◌, ◌≤◌, ◌⊎◌}
use Rattle.std.proofs.lemmas.Bool.{cases_lt, or_from, or_left, or_right}
use Rattle.std.proofs.lemmas.Bool.Decides.{nat_tests}
use Rattle.std.proofs.lemmas.List.{drop_more, length-set, take_all, take_more, take_more_set}
use Rattle.rl_ranges.specs.Building.{range_at}
use Rattle.rl_ranges.specs.internal.Ordering.{ComeInOrder, last_first_or}
use Rattle.rl_ranges.specs.Codes.{Above, has, is_between}

-- The test of a range, and what its result means.
pub within_tells : (a b c : ℕ) → ((is_between a b c ≡ true) × (a ≤ c) × (c ≤ b)) ⊎ ((is_between a b c ≡ false) × ((c < a) ⊎ (b < c)))
unfolding is_between
within_tells a b c = grind (arith, nat_tests)

pub within-true : (a b c : ℕ) → a ≤ c → c ≤ b → is_between a b c ≡ true
within-true a b c low high = grind (arith, within_tells a b c)

pub within-below : (a b c : ℕ) → c < a → is_between a b c ≡ false
within-below a b c h = grind (arith, within_tells a b c)

pub within-above : (a b c : ℕ) → b < c → is_between a b c ≡ false
within-above a b c h = grind (arith, within_tells a b c)

pub or_assoc : (x y z : Bool) → (x || (y || z)) ≡ ((x || y) || z)
or_assoc true y z = refl
or_assoc false y z = refl

pub or-false : (x : Bool) → (x || false) ≡ x
or-false true = refl
or-false false = refl

pub has-nil : (c : ℕ) → has [] c ≡ false
unfolding has
has-nil c = refl

pub has-cons : (r : ℕ × ℕ) (rs : List (ℕ × ℕ)) (c : ℕ) → has (r ∷ rs) c ≡ (is_between r.0 r.1 c || has rs c)
unfolding has is_between
has-cons r rs c = refl

pub has-append : (xs ys : List (ℕ × ℕ)) (c : ℕ) → has (xs ++ ys) c ≡ (has xs c || has ys c)
unfolding has is_between
has-append [] ys c = refl
has-append (x ∷ xs) ys c =
    ap (λ b. is_between x.0 x.1 c || b) (has-append xs ys c) ∙ or_assoc (is_between x.0 x.1 c) (has xs c) (has ys c)

pub has-push : (xs : List (ℕ × ℕ)) (r : ℕ × ℕ) (c : ℕ) → has (xs ++ r ∷ []) c ≡ (has xs c || is_between r.0 r.1 c)
has-push xs r c =
    has-append xs (r ∷ []) c ∙ ap (λ b. has xs c || b) (has-cons r [] c ∙ ap (λ b. is_between r.0 r.1 c || b) (has-nil c) ∙ or-false (is_between r.0 r.1 c))

pub has-more : (xs : List (ℕ × ℕ)) (i c : ℕ) → i < length xs → has (take (i + 1) xs) c ≡ (has (take i xs) c || is_between (range_at xs i).0 (range_at xs i).1 c)
has-more xs i c h = ap (λ l. has l c) (take_more xs i (0, 0) h) ∙ has-push (take i xs) (range_at xs i) c

pub has-rest : (xs : List (ℕ × ℕ)) (i c : ℕ) → i < length xs → has (drop i xs) c ≡ (is_between (range_at xs i).0 (range_at xs i).1 c || has (drop (i + 1) xs) c)
has-rest xs i c h = ap (λ l. has l c) (drop_more xs i (0, 0) h) ∙ has-cons (range_at xs i) (drop (i + 1) xs) c

-- A sorted list holds no code below its start.
pub has-below : (n : ℕ) (rs : List (ℕ × ℕ)) (c : ℕ) → Above n rs → c < n → has rs c ≡ false
has-below n [] c h lt = has-nil c
has-below n (r ∷ rs) c h lt =
    has-cons r rs c ∙ ap₂ ◌||◌ (within-below r.0 r.1 c (omega (arith, h.0))) (has-below (r.1 + 2) rs c h.2 (omega (arith, h.0, h.1)))

-- Where the next range may begin.
unfoldable pub free_from : ℕ → List (ℕ × ℕ) → ℕ
free_from n [] = n
free_from n (r ∷ rs) = free_from (r.1 + 2) rs

pub free_from-push : (n : ℕ) (xs : List (ℕ × ℕ)) (r : ℕ × ℕ) → free_from n (xs ++ r ∷ []) ≡ r.1 + 2
unfolding free_from
free_from-push n [] r = refl
free_from-push n (x ∷ xs) r = free_from-push (x.1 + 2) xs r

pub free_from-nil : (n : ℕ) → free_from n [] ≡ n
unfolding free_from
free_from-nil n = refl

pub last_first_or-push : (n : ℕ) (xs : List (ℕ × ℕ)) (r : ℕ × ℕ) → last_first_or n (xs ++ r ∷ []) ≡ r.0
unfolding last_first_or
last_first_or-push n [] r = refl
last_first_or-push n (x ∷ xs) r = last_first_or-push x.0 xs r

pub last_first_or-nil : (n : ℕ) → last_first_or n [] ≡ n
unfolding last_first_or
last_first_or-nil n = refl

pub Above-push : (n : ℕ) (xs : List (ℕ × ℕ)) (r : ℕ × ℕ) → Above n xs → free_from n xs ≤ r.0 → r.0 ≤ r.1 → Above n (xs ++ r ∷ [])
unfolding free_from
Above-push n [] r h free filled = (free, filled, tt)
Above-push n (x ∷ xs) r h free filled = (h.0, h.1, Above-push (x.1 + 2) xs r h.2 free filled)

pub Above-parts : (n : ℕ) (xs : List (ℕ × ℕ)) (r : ℕ × ℕ) → Above n (xs ++ r ∷ []) → Above n xs × (free_from n xs ≤ r.0) × (r.0 ≤ r.1)
unfolding free_from
Above-parts n [] r h = (tt, h.0, h.1)
Above-parts n (x ∷ xs) r h = let rest = Above-parts (x.1 + 2) xs r h.2 in ((h.0, h.1, rest.0), rest.1, rest.2)

pub Above-at : (n : ℕ) (rs : List (ℕ × ℕ)) (k : ℕ) → Above n rs → k < length rs → (n ≤ (range_at rs k).0) × ((range_at rs k).0 ≤ (range_at rs k).1)
Above-at n [] k h lt = absurd (not-suc-le-zero lt)
Above-at n (r ∷ rs) zero h lt = (h.0, h.1)
Above-at n (r ∷ rs) (suc k) h lt =
    let rest = Above-at (r.1 + 2) rs k h.2 (le_of_suc-le-suc lt) in (omega (arith, h.0, h.1), rest.1)

-- What begins after a range.
pub Above-rest : (n : ℕ) (rs : List (ℕ × ℕ)) (k : ℕ) → Above n rs → k < length rs → Above ((range_at rs k).1 + 2) (drop (k + 1) rs)
Above-rest n [] k h lt = absurd (not-suc-le-zero lt)
Above-rest n (r ∷ rs) zero h lt = h.2
Above-rest n (r ∷ rs) (suc k) h lt = simp add-one (simp add-one at (Above-rest (r.1 + 2) rs k h.2 (le_of_suc-le-suc lt)))

pub Above-gap : (n : ℕ) (rs : List (ℕ × ℕ)) (i j : ℕ) → Above n rs → i < j → j < length rs → (range_at rs i).1 + 2 ≤ (range_at rs j).0
Above-gap n [] i j h lt hj = absurd (not-suc-le-zero hj)
Above-gap n (r ∷ rs) i zero h lt hj = absurd (not-suc-le-zero lt)
Above-gap n (r ∷ rs) zero (suc j) h lt hj = (Above-at (r.1 + 2) rs j h.2 (le_of_suc-le-suc hj)).0
Above-gap n (r ∷ rs) (suc i) (suc j) h lt hj = Above-gap (r.1 + 2) rs i j h.2 (le_of_suc-le-suc lt) (le_of_suc-le-suc hj)

pub ComeInOrder-from_Above : (n : ℕ) (rs : List (ℕ × ℕ)) → Above n rs → ComeInOrder rs
ComeInOrder-from_Above n rs h = record {
  filled = λ k lt. (Above-at n rs k h lt).1;
  rising = λ j k le lt. elim (cases_lt j k) [
    | inl less ↦
        let at = Above-at n rs j h (omega arith) in
        let gap = Above-gap n rs j k h less lt in omega arith
    | inr more ↦ let same : j ≡ k = omega arith in omega (arith, ap (λ i. (range_at rs i).0) same)
  ];
}

pub has-at : (rs : List (ℕ × ℕ)) (k c : ℕ) → k < length rs → is_between (range_at rs k).0 (range_at rs k).1 c ≡ true → has rs c ≡ true
has-at [] k c lt h = absurd (not-suc-le-zero lt)
has-at (r ∷ rs) zero c lt h = has-cons r rs c ∙ or_left _ _ h
has-at (r ∷ rs) (suc k) c lt h = has-cons r rs c ∙ or_right _ _ (has-at rs k c (le_of_suc-le-suc lt) h)

-- ---- how the tests of the parts are combined

-- A range moves from the rest of the left or the right list to the list being built.
pub or_left_moves : (r w l m : Bool) → (r || ((w || l) || m)) ≡ ((r || w) || (l || m))
or_left_moves true w l m = refl
or_left_moves false true l m = refl
or_left_moves false false l m = refl

pub or_right_moves : (r w l m : Bool) → (r || (l || (w || m))) ≡ ((r || w) || (l || m))
or_right_moves true w l m = refl
or_right_moves false true true m = refl
or_right_moves false true false m = refl
or_right_moves false false l m = refl

-- Of two ranges, the one that ends first is skipped; what they share moves to the list being built.
pub and_left_passes : (a b e f c : ℕ) (r l m : Bool) → b ≤ f → (c < f + 2 → m ≡ false)
    → (r || ((is_between a b c || l) && (is_between e f c || m))) ≡ ((r || is_between (max a e) (min b f) c) || (l && (is_between e f c || m)))
and_left_passes a b e f c true l m le past = refl
and_left_passes a b e f c false l m le past = grind (arith, within_tells a b c, within_tells e f c, within_tells (max a e) (min b f) c)

pub and_right_passes : (a b e f c : ℕ) (r l m : Bool) → f ≤ b → (c < b + 2 → l ≡ false)
    → (r || ((is_between a b c || l) && (is_between e f c || m))) ≡ ((r || is_between (max a e) (min b f) c) || ((is_between a b c || l) && m))
and_right_passes a b e f c true l m le past = refl
and_right_passes a b e f c false l m le past = grind (arith, within_tells a b c, within_tells e f c, within_tells (max a e) (min b f) c)

-- One more range has been skipped, and the gap before it has been added.
pub gap_added : (next first last c : ℕ) (r t : Bool) → next ≤ first → first ≤ last → r ≡ (ltb c next && not t) → (t ≡ true → c < next)
    → (r || (ltb next first && is_between next (first - 1) c)) ≡ (ltb c (last + 1) && not (t || is_between first last c))
gap_added next first last c r true le filled is behind =
    grind (arith, nat_tests, within_tells next (first - 1) c, within_tells first last c, behind refl)
gap_added next first last c r false le filled is behind =
    grind (arith, nat_tests, within_tells next (first - 1) c, within_tells first last c)

-- The gap after the last range has been added.
pub last_gap_added : (next count c : ℕ) (r t : Bool) → next ≤ count → r ≡ (ltb c next && not t) → (t ≡ true → c < next)
    → (r || (ltb next count && is_between next (count - 1) c)) ≡ (ltb c count && not t)
last_gap_added next count c r true le is behind = grind (arith, nat_tests, within_tells next (count - 1) c, behind refl)
last_gap_added next count c r false le is behind = grind (arith, nat_tests, within_tells next (count - 1) c)

-- ---- the steps of a walk along two lists, where `built` gets one more range and becomes `new`

pub left_moves : (left right built new : List (ℕ × ℕ)) (i j x : ℕ) → i < length left → has new x ≡ (has built x || is_between (range_at left i).0 (range_at left i).1 x)
    → (has built x || (has (drop i left) x || has (drop j right) x)) ≡ (has new x || (has (drop (i + 1) left) x || has (drop j right) x))
left_moves left right built new i j x lt is =
    ap (λ b. has built x || (b || has (drop j right) x)) (has-rest left i x lt)
    ∙ or_left_moves (has built x) (is_between (range_at left i).0 (range_at left i).1 x) (has (drop (i + 1) left) x) (has (drop j right) x)
    ∙ ap (λ b. b || (has (drop (i + 1) left) x || has (drop j right) x)) (sym is)

pub right_moves : (left right built new : List (ℕ × ℕ)) (i j x : ℕ) → j < length right → has new x ≡ (has built x || is_between (range_at right j).0 (range_at right j).1 x)
    → (has built x || (has (drop i left) x || has (drop j right) x)) ≡ (has new x || (has (drop i left) x || has (drop (j + 1) right) x))
right_moves left right built new i j x lt is =
    ap (λ b. has built x || (has (drop i left) x || b)) (has-rest right j x lt)
    ∙ or_right_moves (has built x) (is_between (range_at right j).0 (range_at right j).1 x) (has (drop i left) x) (has (drop (j + 1) right) x)
    ∙ ap (λ b. b || (has (drop i left) x || has (drop (j + 1) right) x)) (sym is)

pub left_passes : (left right built new : List (ℕ × ℕ)) (i j x : ℕ) → Above 0 right → i < length left → j < length right → (range_at left i).1 ≤ (range_at right j).1
    → has new x ≡ (has built x || is_between (max (range_at left i).0 (range_at right j).0) (min (range_at left i).1 (range_at right j).1) x)
    → (has built x || (has (drop i left) x && has (drop j right) x)) ≡ (has new x || (has (drop (i + 1) left) x && has (drop j right) x))
left_passes left right built new i j x sorted i_in j_in le is =
    let a = range_at left i in
    let e = range_at right j in
    ap₂ (λ l m. has built x || (l && m)) (has-rest left i x i_in) (has-rest right j x j_in)
    ∙ and_left_passes a.0 a.1 e.0 e.1 x (has built x) (has (drop (i + 1) left) x) (has (drop (j + 1) right) x) le (has-below (e.1 + 2) (drop (j + 1) right) x (Above-rest 0 right j sorted j_in))
    ∙ ap₂ (λ r m. r || (has (drop (i + 1) left) x && m)) (sym is) (sym (has-rest right j x j_in))

pub right_passes : (left right built new : List (ℕ × ℕ)) (i j x : ℕ) → Above 0 left → i < length left → j < length right → (range_at right j).1 ≤ (range_at left i).1
    → has new x ≡ (has built x || is_between (max (range_at left i).0 (range_at right j).0) (min (range_at left i).1 (range_at right j).1) x)
    → (has built x || (has (drop i left) x && has (drop j right) x)) ≡ (has new x || (has (drop i left) x && has (drop (j + 1) right) x))
right_passes left right built new i j x sorted i_in j_in le is =
    let a = range_at left i in
    let e = range_at right j in
    ap₂ (λ l m. has built x || (l && m)) (has-rest left i x i_in) (has-rest right j x j_in)
    ∙ and_right_passes a.0 a.1 e.0 e.1 x (has built x) (has (drop (i + 1) left) x) (has (drop (j + 1) right) x) le (has-below (a.1 + 2) (drop (i + 1) left) x (Above-rest 0 left i sorted i_in))
    ∙ ap₂ (λ r m. r || (m && has (drop (j + 1) right) x)) (sym is) (sym (has-rest left i x i_in))

-- Nothing is added if the range would end before it begins.
pub within-empty : (first last x : ℕ) (b : Bool) → last < first → b ≡ (b || is_between first last x)
within-empty first last x b lt = let none : is_between first last x ≡ false = grind (arith, within_tells first last x) in sym (ap (λ t. b || t) none ∙ or-false b)

-- The least code of a sorted list.
pub has-first : (n : ℕ) (rs : List (ℕ × ℕ)) (r : ℕ × ℕ) → Above n rs → 0 < length rs → get_or rs 0 r ≡ r → (has rs r.0 ≡ true) × ((c : ℕ) → c < r.0 → has rs c ≡ false)
has-first n [] r h lt is = absurd (not-suc-le-zero lt)
has-first n (x ∷ rs) r h lt is =
    let P : ℕ × ℕ → Type 0 = λ y. (has (x ∷ rs) y.0 ≡ true) × ((c : ℕ) → c < y.0 → has (x ∷ rs) c ≡ false) in
    subst P is
    (has-cons x rs x.0 ∙ or_left _ _ (within-true x.0 x.1 x.0 (le_refl _) h.1), λ c below. has-below x.0 (x ∷ rs) c (le_refl _, h.1, h.2) below)

-- A list consists of its front and its last item, even after that item is replaced.
pub front_last : (xs : List (ℕ × ℕ)) (n : ℕ) (last : ℕ × ℕ) → n ≡ length xs → 0 < n → last ≡ get_or xs (n - 1) last → xs ≡ take (n - 1) xs ++ last ∷ []
front_last xs n last len some is =
    sym (take_all (n - 1 + 1) xs (omega arith)) ∙ take_more xs (n - 1) last (omega arith)
    ∙ ap (λ (r : ℕ × ℕ). take (n - 1) xs ++ r ∷ []) (sym is)

pub front_new : (xs : List (ℕ × ℕ)) (n : ℕ) (new : ℕ × ℕ) → n ≡ length xs → 0 < n → set xs (n - 1) new ≡ take (n - 1) xs ++ new ∷ []
front_new xs n new len some =
    sym (take_all (n - 1 + 1) (set xs (n - 1) new) (omega (arith, length-set xs (n - 1) new)))
    ∙ take_more_set xs (n - 1) new (omega arith)

pub and-true : (x : Bool) → (x && true) ≡ x
and-true true = refl
and-true false = refl

pub and_assoc : (x y z : Bool) → (x && (y && z)) ≡ ((x && y) && z)
and_assoc true y z = refl
and_assoc false y z = refl

-- If a code lies before or after every range, the list doesn't hold it.
pub has-outside : (rs : List (ℕ × ℕ)) (c : ℕ) → ((k : ℕ) → k < length rs → (c < (range_at rs k).0) ⊎ ((range_at rs k).1 < c)) → has rs c ≡ false
has-outside [] c h = has-nil c
has-outside (r ∷ rs) c h =
    let here : is_between r.0 r.1 c ≡ false = elim (h zero (zero-lt-suc _)) [
      | inl below ↦ within-below r.0 r.1 c below
      | inr above ↦ within-above r.0 r.1 c above
    ] in
    has-cons r rs c ∙ or_from _ _ here (has-outside rs c (λ k lt. h (suc k) (suc-le-suc lt)))
