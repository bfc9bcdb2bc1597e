-- Images of sets under pairs of codes, and what the tables of pairs say about case.
-- ---- lists of pairs
use Rattle.std.proofs.Common.{Bool, Contains, List, [], ap, ap₂, arith, drop, false, get_or, inl, inr, le_of_suc-le-suc, le_refl, le_trans, leb-true, length, nat_le, nat_lt, not-suc-le-zero, refl, subst, suc, suc-le-suc, sym, take, true, zero, zero-lt-suc, ℕ, ◌&&◌, ◌++◌, ◌+◌, ◌<◌, ◌==◌, ◌||◌, ◌∙◌, ◌∷◌, ◌≡◌, ◌≤◌}
use Rattle.std.proofs.lemmas.Bool.{agree_below, agree_below_at, and_from, and_left, and_parts, cases_eq, eq-eqb, eqb-true, ltb-true, or_cases, or_from, or_left, or_right}
use Rattle.std.proofs.lemmas.Bool.Decides.{nat_tests}
use Rattle.std.proofs.lemmas.List.{get_or-drop, get_or-take, length-drop, length-take, take-append-drop, take_more}
use Rattle.std.proofs.lemmas.List.Folds.{list_any-append, list_any_more}
use Rattle.std.proofs.lemmas.List.Sorted.{list_any-IsPermutation}
use Rattle.std.specs.List.{list_all, list_any}
use Rattle.std.specs.List.Sorted.{IsPermutation}
use Rattle.ucd_case.proofs.FoldPairsLemmas.{IsFoldPairs-fold_pairs}
use Rattle.ucd_case.specs.CaseFolding.{fold_pairs, simple_fold}
use Rattle.ucd_case.specs.FoldOtherRows.{fold_other_rows}
use Rattle.rl_ranges.proofs.FirstsLemmas.{any-push}
use Rattle.rl_ranges.proofs.SetLemmas.{has-more, has-nil, or-false, within-above, within-below, within-true, within_tells}
use Rattle.rl_ranges.specs.Building.{range_at}
use Rattle.rl_ranges.specs.Case.{is_case_kin, is_letter_i}
use Rattle.rl_ranges.specs.Codes.{has, is_between}
use Rattle.rl_ranges.specs.internal.Images.{IsLowerBound, KeysRise, has_kin, in_image, in_range_image, is_among}
use Rattle.rl_ranges.specs.Named.{goes_by_ascii}
use Rattle.rl_ranges.specs.Text.{code_count}
use Rattle.rl_ranges.specs.declared.tables.TheConstants.{ASCII_PAIRS, I_PAIRS}
use Rattle.rl_ranges.specs.declared.universe.Universe.{Universe}
use Rattle.rl_ranges.specs.declared.universe.Universe.TheVariants.{Bytes, Str}

pub any-equal : {X : Type 0} (p q : X → Bool) (xs : List X) → ((x : X) → p x ≡ q x) → list_any p xs ≡ list_any q xs
any-equal p q [] h = refl
any-equal p q (x ∷ xs) h = ap₂ ◌||◌ (h x) (any-equal p q xs h)

or_swap : (a b x y : Bool) → ((a || b) || (x || y)) ≡ ((a || x) || (b || y))
or_swap true b x y = refl
or_swap false true true y = refl
or_swap false true false y = refl
or_swap false false x y = refl

pub any-or : {X : Type 0} (p q : X → Bool) (xs : List X) → list_any (λ x. p x || q x) xs ≡ (list_any p xs || list_any q xs)
any-or p q [] = refl
any-or p q (x ∷ xs) = ap (λ b. (p x || q x) || b) (any-or p q xs) ∙ or_swap (p x) (q x) (list_any p xs) (list_any q xs)

pub any-none : (p : ℕ × ℕ → Bool) (xs : List (ℕ × ℕ)) → ((k : ℕ) → k < length xs → p (range_at xs k) ≡ false) → list_any p xs ≡ false
any-none p [] h = refl
any-none p (x ∷ xs) h = or_from _ _ (h zero (zero-lt-suc _)) (any-none p xs (λ k lt. h (suc k) (suc-le-suc lt)))

pub any-weaker : {X : Type 0} (p q : X → Bool) (xs : List X) → ((x : X) → p x ≡ true → q x ≡ true) → list_any p xs ≡ true → list_any q xs ≡ true
any-weaker p q [] h found = found
any-weaker p q (x ∷ xs) h found = elim (or_cases (p x) (list_any p xs) found) [
  | inl here ↦ or_left _ _ (h x here)
  | inr later ↦ or_right _ _ (any-weaker p q xs h later)
]

-- What follows from an item that satisfies a test, if all items satisfy another test.
pub any-then : {X : Type 0} {P : Type 0} (p all : X → Bool) (xs : List X) → list_all all xs ≡ true → ((x : X) → p x ≡ true → all x ≡ true → P) → list_any p xs ≡ true → P
any-then p all [] every h found = cc
any-then p all (x ∷ xs) every h found =
    let parts = and_parts (all x) (list_all all xs) every in
    elim (or_cases (p x) (list_any p xs) found) [
      | inl here ↦ h x here parts.0
      | inr later ↦ any-then p all xs parts.1 h later
    ]

and_or : (a b t : Bool) → ((a || b) && t) ≡ ((a && t) || (b && t))
and_or true true true = refl
and_or true true false = refl
and_or true false true = refl
and_or true false false = refl
and_or false b t = refl

-- ---- images

pub is_among-nil : (c : ℕ) → is_among [] c ≡ false
unfolding is_among
is_among-nil c = refl

pub is_among-push : (xs : List ℕ) (x c : ℕ) → is_among (xs ++ x ∷ []) c ≡ (is_among xs c || (x == c))
unfolding is_among
is_among-push xs x c = any-push (λ y. y == c) xs x

pub is_among-more : (xs : List ℕ) (i c : ℕ) → i < length xs → is_among (take (i + 1) xs) c ≡ (is_among (take i xs) c || (get_or xs i 0 == c))
is_among-more xs i c lt = ap (λ l. is_among l c) (take_more xs i 0 lt) ∙ is_among-push (take i xs) (get_or xs i 0) c

pub is_among-IsPermutation : (xs ys : List ℕ) (c : ℕ) → IsPermutation xs ys → is_among ys c ≡ is_among xs c
unfolding is_among
is_among-IsPermutation xs ys c h = sym (list_any-IsPermutation (λ x. x == c) xs ys h)

pub within_single : (a c : ℕ) → is_between a a c ≡ (a == c)
within_single a c = grind (arith, nat_tests, within_tells a a c)

pub in_image-nil : (pairs : List (ℕ × ℕ)) (c : ℕ) → in_image pairs [] c ≡ false
unfolding in_image
in_image-nil pairs c = any-none (λ p. has [] p.0 && p.1 == c) pairs (λ k lt. and_left _ _ (has-nil _))

pub in_image-more : (pairs ranges : List (ℕ × ℕ)) (i c : ℕ) → i < length ranges
    → in_image pairs (take (i + 1) ranges) c ≡ (in_image pairs (take i ranges) c || in_range_image pairs (range_at ranges i).0 (range_at ranges i).1 c)
unfolding in_image in_range_image
in_image-more pairs ranges i c lt =
    any-equal (λ p. has (take (i + 1) ranges) p.0 && p.1 == c) (λ p. (has (take i ranges) p.0 && p.1 == c) || (is_between (range_at ranges i).0 (range_at ranges i).1 p.0 && p.1 == c)) pairs
    (λ p. ap (λ b. b && p.1 == c) (has-more ranges i p.0 lt) ∙ and_or (has (take i ranges) p.0) (is_between (range_at ranges i).0 (range_at ranges i).1 p.0) (p.1 == c))
    ∙ any-or (λ p. has (take i ranges) p.0 && p.1 == c) (λ p. is_between (range_at ranges i).0 (range_at ranges i).1 p.0 && p.1 == c) pairs

-- The pairs before a lower bound lead from no code of the range.
pub in_range_image-before : (pairs : List (ℕ × ℕ)) (first last place c : ℕ) → IsLowerBound pairs first place → in_range_image (take place pairs) first last c ≡ false
unfolding in_range_image
in_range_image-before pairs first last place c h =
    any-none (λ p. is_between first last p.0 && p.1 == c) (take place pairs) (λ k lt.
    let k_in : k < place = omega (arith, length-take place pairs) in
    ap (λ (p : ℕ × ℕ). is_between first last p.0 && p.1 == c) (get_or-take place pairs k (0, 0) k_in)
    ∙ and_left _ _ (within-below first last (range_at pairs k).0 (h.before k k_in)))

pub in_range_image-more : (pairs : List (ℕ × ℕ)) (first last i c : ℕ) → i < length pairs → first ≤ (range_at pairs i).0 → (range_at pairs i).0 ≤ last
    → in_range_image (take (i + 1) pairs) first last c ≡ (in_range_image (take i pairs) first last c || ((range_at pairs i).1 == c))
unfolding in_range_image
in_range_image-more pairs first last i c lt low high =
    list_any_more (λ p. is_between first last p.0 && p.1 == c) pairs i (0, 0) lt
    ∙ ap (λ b. list_any (λ p. is_between first last p.0 && p.1 == c) (take i pairs) || (b && (range_at pairs i).1 == c)) (within-true first last (range_at pairs i).0 low high)

pub in_range_image-after : (pairs : List (ℕ × ℕ)) (first last end place c : ℕ) → IsLowerBound pairs (last + 1) end → end ≤ place → in_range_image (take place pairs) first last c ≡ in_range_image pairs first last c
unfolding in_range_image
in_range_image-after pairs first last end place c h le =
    let test : ℕ × ℕ → Bool = λ p. is_between first last p.0 && p.1 == c in
    let rest : list_any test (drop place pairs) ≡ false = any-none test (drop place pairs) (λ k lt.
    let k_in : place + k < length pairs = omega (arith, length-drop place pairs) in
    ap test (get_or-drop place pairs k (0, 0))
    ∙ and_left _ _ (within-above first last (range_at pairs (place + k)).0 (omega (arith, h.after (place + k) (omega arith) k_in)))) in
    sym (or-false _) ∙ ap (λ b. list_any test (take place pairs) || b) (sym rest)
    ∙ sym (list_any-append test (take place pairs) (drop place pairs)) ∙ ap (list_any test) (take-append-drop place pairs)

-- ---- the tables of pairs

unfoldable pub keys_rise_from : ℕ → List (ℕ × ℕ) → Bool
keys_rise_from n [] = true
keys_rise_from n (p ∷ ps) = nat_le n p.0 && keys_rise_from p.0 ps

keys_rise_from-parts : (n : ℕ) (p : ℕ × ℕ) (ps : List (ℕ × ℕ)) → keys_rise_from n (p ∷ ps) ≡ true → (n ≤ p.0) × (keys_rise_from p.0 ps ≡ true)
unfolding keys_rise_from
keys_rise_from-parts n p ps h = (leb-true _ _ (and_parts _ _ h).0, (and_parts _ _ h).1)

keys_rise_from-at : (n : ℕ) (ps : List (ℕ × ℕ)) (k : ℕ) → keys_rise_from n ps ≡ true → k < length ps → n ≤ (range_at ps k).0
keys_rise_from-at n [] k h hk = absurd (not-suc-le-zero hk)
keys_rise_from-at n (p ∷ ps) zero h hk = (keys_rise_from-parts n p ps h).0
keys_rise_from-at n (p ∷ ps) (suc k) h hk =
    let parts = keys_rise_from-parts n p ps h in
    le_trans parts.0 (keys_rise_from-at p.0 ps k parts.1 (le_of_suc-le-suc hk))

KeysRise-from_test : (n : ℕ) (ps : List (ℕ × ℕ)) → keys_rise_from n ps ≡ true → KeysRise ps
KeysRise-from_test n [] h i j le hj = absurd (not-suc-le-zero hj)
KeysRise-from_test n (p ∷ ps) h zero zero le hj = le_refl _
KeysRise-from_test n (p ∷ ps) h (suc i) zero le hj = absurd (not-suc-le-zero le)
KeysRise-from_test n (p ∷ ps) h zero (suc j) le hj =
    keys_rise_from-at p.0 ps j (keys_rise_from-parts n p ps h).1 (le_of_suc-le-suc hj)
KeysRise-from_test n (p ∷ ps) h (suc i) (suc j) le hj =
    KeysRise-from_test p.0 ps (keys_rise_from-parts n p ps h).1 i j (le_of_suc-le-suc le) (le_of_suc-le-suc hj)

pub KeysRise-fold_pairs : KeysRise fold_pairs
unfolding keys_rise_from fold_pairs fold_other_rows
KeysRise-fold_pairs = KeysRise-from_test 0 fold_pairs refl

pub KeysRise-ASCII_PAIRS : KeysRise ASCII_PAIRS
unfolding keys_rise_from
KeysRise-ASCII_PAIRS = KeysRise-from_test 0 ASCII_PAIRS refl

pub KeysRise-I_PAIRS : KeysRise I_PAIRS
unfolding keys_rise_from
KeysRise-I_PAIRS = KeysRise-from_test 0 I_PAIRS refl

-- The pairs lead to codes below `n`.
leads_below : ℕ → ℕ × ℕ → Bool
leads_below n p = nat_lt p.1 n

image_inside : (n : ℕ) (pairs ranges : List (ℕ × ℕ)) (c : ℕ) → list_all (leads_below n) pairs ≡ true → in_image pairs ranges c ≡ true → c < n
unfolding in_image leads_below
image_inside n pairs ranges c every found =
    any-then (λ p. has ranges p.0 && p.1 == c) (leads_below n) pairs every
    (λ p hit below. omega (arith, eqb-true p.1 c (and_parts (has ranges p.0) (p.1 == c) hit).1, ltb-true p.1 n below)) found

pub kin_inside : (ascii : Bool) (u : Universe) (ranges : List (ℕ × ℕ)) (c : ℕ) → has_kin (goes_by_ascii ascii u) ranges c ≡ true → c < code_count u
unfolding leads_below fold_pairs fold_other_rows
kin_inside true Str ranges c h = omega (arith, image_inside 256 ASCII_PAIRS ranges c refl h)
kin_inside ascii Bytes ranges c h = image_inside 256 ASCII_PAIRS ranges c refl h
kin_inside false Str ranges c h = elim (or_cases (in_image fold_pairs ranges c) (in_image I_PAIRS ranges c) h) [
  | inl folds ↦ image_inside 1114112 fold_pairs ranges c refl folds
  | inr is_i ↦ image_inside 1114112 I_PAIRS ranges c refl is_i
]

-- ---- a code in the ranges is case kin to the code

abbrev pub HasKin : Bool → List (ℕ × ℕ) → ℕ → Type 0
HasKin ascii ranges c = (d : ℕ) × (has ranges d ≡ true) × (is_case_kin ascii d c ≡ true)

kin_itself : (ascii : Bool) (c : ℕ) → is_case_kin ascii c c ≡ true
unfolding is_case_kin
kin_itself true c = or_left _ _ (or_left _ _ (eq-eqb c c refl))
kin_itself false c = or_left _ _ (eq-eqb (simple_fold c) (simple_fold c) refl)

-- If all pairs of a table are case kin, every code of an image is case kin to a code of the ranges.
image_kin : (ascii : Bool) (pairs ranges : List (ℕ × ℕ)) (c : ℕ) → list_all (λ p. is_case_kin ascii p.0 p.1) pairs ≡ true → in_image pairs ranges c ≡ true → HasKin ascii ranges c
unfolding in_image
image_kin ascii pairs ranges c every found =
    any-then (λ p. has ranges p.0 && p.1 == c) (λ p. is_case_kin ascii p.0 p.1) pairs every
    (λ p hit kin.
    let parts = and_parts (has ranges p.0) (p.1 == c) hit in
    (p.0, parts.0, subst (λ x. is_case_kin ascii p.0 x ≡ true) (eqb-true p.1 c parts.1) kin)) found

-- If the table contains the pair, the image contains its second code.
leads : ℕ → ℕ → ℕ × ℕ → Bool
leads d c p = p.0 == d && p.1 == c

image_from : (pairs ranges : List (ℕ × ℕ)) (d c : ℕ) → has ranges d ≡ true → list_any (leads d c) pairs ≡ true → in_image pairs ranges c ≡ true
unfolding in_image leads
image_from pairs ranges d c held found =
    any-weaker (leads d c) (λ p. has ranges p.0 && p.1 == c) pairs
    (λ p hit.
    let parts = and_parts (p.0 == d) (p.1 == c) hit in
    and_from _ _ (ap (has ranges) (eqb-true p.0 d parts.0) ∙ held) parts.1) found

ascii_pairs_kin : list_all (λ p. is_case_kin true p.0 p.1) ASCII_PAIRS ≡ true
unfolding is_case_kin is_between
ascii_pairs_kin = refl

i_pairs_kin : list_all (λ p. is_letter_i p.0 && is_letter_i p.1) I_PAIRS ≡ true
i_pairs_kin = refl

-- Each letter leads to its other case.
ascii_up : ℕ → Bool
ascii_up d = is_between 65 90 d && list_any (leads d (d + 32)) ASCII_PAIRS

ascii_down : ℕ → Bool
ascii_down d = is_between 65 90 d && list_any (leads (d + 32) d) ASCII_PAIRS

ascii_up_all : agree_below ascii_up (is_between 65 90) 128 ≡ true
unfolding ascii_up is_between leads
ascii_up_all = refl

ascii_down_all : agree_below ascii_down (is_between 65 90) 128 ≡ true
unfolding ascii_down is_between leads
ascii_down_all = refl

letter_below : (d : ℕ) → is_between 65 90 d ≡ true → d < 128
unfolding is_between
letter_below d h = let high = leb-true d 90 (and_parts (nat_le 65 d) (nat_le d 90) h).1 in omega arith

ascii_up_found : (d : ℕ) → is_between 65 90 d ≡ true → list_any (leads d (d + 32)) ASCII_PAIRS ≡ true
unfolding ascii_up
ascii_up_found d h =
    (and_parts (is_between 65 90 d) (list_any (leads d (d + 32)) ASCII_PAIRS) (agree_below_at ascii_up (is_between 65 90) 128 d ascii_up_all (letter_below d h) ∙ h)).1

ascii_down_found : (d : ℕ) → is_between 65 90 d ≡ true → list_any (leads (d + 32) d) ASCII_PAIRS ≡ true
unfolding ascii_down
ascii_down_found d h =
    (and_parts (is_between 65 90 d) (list_any (leads (d + 32) d) ASCII_PAIRS) (agree_below_at ascii_down (is_between 65 90) 128 d ascii_down_all (letter_below d h) ∙ h)).1

-- The letters i.
letters_i : List ℕ
letters_i = 73 ∷ 105 ∷ 304 ∷ 305 ∷ []

i_linked : list_all (λ d. list_all (λ c. d == c || list_any (leads d c) I_PAIRS) letters_i) letters_i ≡ true
unfolding letters_i leads
i_linked = refl

i_listed : (c : ℕ) → is_letter_i c ≡ true → list_any (λ x. x == c) letters_i ≡ true
unfolding letters_i
i_listed c h = grind (arith, nat_tests)

i_pair : (d c : ℕ) → is_letter_i d ≡ true → is_letter_i c ≡ true → (d == c || list_any (leads d c) I_PAIRS) ≡ true
i_pair d c hd hc =
    any-then (λ x. x == d) (λ x. list_all (λ y. x == y || list_any (leads x y) I_PAIRS) letters_i) letters_i i_linked
    (λ x x_is row. any-then (λ y. y == c) (λ y. x == y || list_any (leads x y) I_PAIRS) letters_i row
    (λ y y_is pair. subst (λ v. (v == c || list_any (leads v c) I_PAIRS) ≡ true) (eqb-true x d x_is)
    (subst (λ w. (x == w || list_any (leads x w) I_PAIRS) ≡ true) (eqb-true y c y_is) pair))
    (i_listed c hc))
    (i_listed d hd)

-- A pair of the list is found in it.
contains_leads : (pairs : List (ℕ × ℕ)) (d c : ℕ) → Contains pairs (d, c) → list_any (leads d c) pairs ≡ true
unfolding leads
contains_leads [] d c (k, lt, at) = absurd (not-suc-le-zero lt)
contains_leads (p ∷ pairs) d c (zero, lt, at) =
    or_left _ _ (and_from _ _ (eq-eqb p.0 d (ap (λ (x : ℕ × ℕ). x.0) at)) (eq-eqb p.1 c (ap (λ (x : ℕ × ℕ). x.1) at)))
contains_leads (p ∷ pairs) d c (suc k, lt, at) = or_right _ _ (contains_leads pairs d c (k, le_of_suc-le-suc lt, at))

leads_contains : (pairs : List (ℕ × ℕ)) (d c : ℕ) → list_any (leads d c) pairs ≡ true → Contains pairs (d, c)
unfolding leads
leads_contains [] d c found = cc
leads_contains (p ∷ pairs) d c found = elim (or_cases (p.0 == d && p.1 == c) (list_any (leads d c) pairs) found) [
  | inl here ↦
      let parts = and_parts (p.0 == d) (p.1 == c) here in
      (zero, zero-lt-suc _, ap₂ (λ (x y : ℕ). (x, y)) (eqb-true p.0 d parts.0) (eqb-true p.1 c parts.1))
  | inr later ↦ let rest = leads_contains pairs d c later in (suc rest.0, suc-le-suc rest.1, rest.2)
]

image_source : (pairs ranges : List (ℕ × ℕ)) (c : ℕ) → in_image pairs ranges c ≡ true → (d : ℕ) × (has ranges d ≡ true) × (list_any (leads d c) pairs ≡ true)
unfolding in_image leads
image_source [] ranges c found = cc
image_source (p ∷ pairs) ranges c found = elim (or_cases (has ranges p.0 && p.1 == c) (list_any (λ q. has ranges q.0 && q.1 == c) pairs) found) [
  | inl here ↦
      let parts = and_parts (has ranges p.0) (p.1 == c) here in
      (p.0, parts.0, or_left _ _ (and_from _ _ (eq-eqb p.0 p.0 refl) parts.1))
  | inr later ↦ let rest = image_source pairs ranges c later in (rest.0, rest.1, or_right _ _ rest.2)
]

-- ---- the closed set

pub kin_sound : (ascii : Bool) (ranges : List (ℕ × ℕ)) (c : ℕ) → (has ranges c || has_kin ascii ranges c) ≡ true → HasKin ascii ranges c
unfolding is_case_kin in_image
kin_sound true ranges c h = elim (or_cases (has ranges c) (in_image ASCII_PAIRS ranges c) h) [
  | inl held ↦ (c, held, kin_itself true c)
  | inr image ↦ image_kin true ASCII_PAIRS ranges c ascii_pairs_kin image
]
kin_sound false ranges c h = elim (or_cases (has ranges c) (in_image fold_pairs ranges c || in_image I_PAIRS ranges c) h) [
  | inl held ↦ (c, held, kin_itself false c)
  | inr image ↦ elim (or_cases (in_image fold_pairs ranges c) (in_image I_PAIRS ranges c) image) [
    | inl folds ↦
        let source = image_source fold_pairs ranges c folds in
        let same = ((IsFoldPairs-fold_pairs source.0 c).0 (leads_contains fold_pairs source.0 c source.2)).1 in
        (source.0, source.1, or_left _ _ (eq-eqb (simple_fold source.0) (simple_fold c) same))
    | inr is_i ↦
        any-then (λ p. has ranges p.0 && p.1 == c) (λ p. is_letter_i p.0 && is_letter_i p.1) I_PAIRS i_pairs_kin
        (λ p hit letters.
        let parts = and_parts (has ranges p.0) (p.1 == c) hit in
        (p.0, parts.0, or_right _ _ (subst (λ x. (is_letter_i p.0 && is_letter_i x) ≡ true) (eqb-true p.1 c parts.1) letters)))
        is_i
  ]
]

kin_ascii : (ranges : List (ℕ × ℕ)) (c d : ℕ) → has ranges d ≡ true → is_case_kin true d c ≡ true → (has ranges c || in_image ASCII_PAIRS ranges c) ≡ true
unfolding is_case_kin
kin_ascii ranges c d held kin = elim (or_cases (d == c || (is_between 65 90 d && c == d + 32)) (is_between 65 90 c && d == c + 32) kin) [
  | inl first ↦ elim (or_cases (d == c) (is_between 65 90 d && c == d + 32) first) [
    | inl same ↦ or_left _ _ (ap (has ranges) (sym (eqb-true d c same)) ∙ held)
    | inr up ↦
        let parts = and_parts (is_between 65 90 d) (c == d + 32) up in
        or_right _ _ (image_from ASCII_PAIRS ranges d c held (subst (λ x. list_any (leads d x) ASCII_PAIRS ≡ true) (sym (eqb-true c (d + 32) parts.1)) (ascii_up_found d parts.0)))
  ]
  | inr down ↦
      let parts = and_parts (is_between 65 90 c) (d == c + 32) down in
      or_right _ _ (image_from ASCII_PAIRS ranges d c held (subst (λ x. list_any (leads x c) ASCII_PAIRS ≡ true) (sym (eqb-true d (c + 32) parts.1)) (ascii_down_found c parts.0)))
]

kin_unicode : (ranges : List (ℕ × ℕ)) (c d : ℕ) → has ranges d ≡ true → is_case_kin false d c ≡ true → (has ranges c || (in_image fold_pairs ranges c || in_image I_PAIRS ranges c)) ≡ true
unfolding is_case_kin
kin_unicode ranges c d held kin = elim (cases_eq d c) [
  | inl same ↦ or_left _ _ (ap (has ranges) (sym same) ∙ held)
  | inr other ↦ elim (or_cases (simple_fold d == simple_fold c) (is_letter_i d && is_letter_i c) kin) [
    | inl folds ↦
        let pair = (IsFoldPairs-fold_pairs d c).1 (other, eqb-true (simple_fold d) (simple_fold c) folds) in
        or_right _ _ (or_left _ _ (image_from fold_pairs ranges d c held (contains_leads fold_pairs d c pair)))
    | inr is_i ↦
        let parts = and_parts (is_letter_i d) (is_letter_i c) is_i in
        elim (or_cases (d == c) (list_any (leads d c) I_PAIRS) (i_pair d c parts.0 parts.1)) [
          | inl same ↦ absurd (other (eqb-true d c same))
          | inr pair ↦ or_right _ _ (or_right _ _ (image_from I_PAIRS ranges d c held pair))
        ]
  ]
]

pub kin_complete : (ascii : Bool) (ranges : List (ℕ × ℕ)) (c : ℕ) → HasKin ascii ranges c → (has ranges c || has_kin ascii ranges c) ≡ true
kin_complete true ranges c (d, held, kin) = kin_ascii ranges c d held kin
kin_complete false ranges c (d, held, kin) = kin_unicode ranges c d held kin
