-- The states of a tree without some of its branches are the kept ones of the whole tree, and its moves are those between them.
use Rattle.std.proofs.Common.{◌≡◌, ℕ, zero, suc, ◌+◌, ◌*◌, ◌/◌, ◌<◌, ◌≤◌, Bool, true, false, ◌==◌, ◌||◌, ◌&&◌, nat_lt, if◌then◌else◌, List, [], ◌∷◌, ◌++◌, length, slice_index_or, slice_get, Option, Some, None, refl, sym, ap, ap₂, ◌∙◌, subst, arith}
use Rattle.std.proofs.lemmas.Bool.{and_parts, and_from, cond-true, cond-false, cond_both, lt-ltb, le-ltb, eq-eqb, ne_eqb, cases_eq, cases_lt}
use Rattle.std.proofs.Math.Nat.{div-one}
use mathlib.Core.Logic.{⊎_elim}
use Rattle.rl_ranges.specs.Letters.{alike, classes, class_of, place_where}
use Rattle.rl_ranges.specs.Numbering.{firsts}
use Rattle.rl_ranges.proofs.LetterLemmas.{alike-append, class_of-place}
use Rattle.rl_ranges.proofs.SetLemmas.{and-true}
use Rattle.rl_syntax.specs.declared.anchors.Guard.{Guard}
use Rattle.rl_syntax.specs.declared.re.Ending.TheVariants.{AtEnd}
use Rattle.rl_syntax.specs.Tree.{Tree, empty, one, guard, both, either, many, places, sets_in, guards_in, guard_sets}
use Rattle.rl_syntax.specs.Run.{one_more}
use Rattle.rl_prio.specs.Items.{Item, test_at, pass, all_guarded, replaced, first, after, set_of, all_hold}
use Rattle.rl_prio.specs.Letters.{kinds, kind_of}
use Rattle.rl_prio.specs.States.{place_states, state_of, accepting, dead, test_target, moves_on, items_of}
use Rattle.rl_prio.proofs.ItemLemmas.{all_guarded-nil}
use Rattle.rl_prio.proofs.KindLemmas.{one_kind}
use Rattle.rl_sets.specs.Live.{holds}
use Rattle.rl_equiv.specs.Bases.{DistinguishesNoMore}
use Rattle.rl_trim.specs.Without.{Without, whole, in_both, in_either, in_many, first_goes, second_goes}
use Rattle.rl_trim.specs.Twins.{is_kept}
use Rattle.rl_trim.specs.internal.Sunk.{kept_before, sunk, AreSunk}
use Rattle.rl_trim.proofs.WithoutItems.{has_test, has_pass, and-false, absorbs_and, Ranges, wider, no_tests, ranges_first, ranges_after, count, At, here, stays, goes, inside, Same, Trim, trim_of, flags_are_places, kept_are_places, same_first, same_after, same_sets}

-- ---- guards and sets

nil_left : (xs ys : List Guard) → xs ++ ys ≡ [] → xs ≡ []
nil_left [] ys e = refl
nil_left (x ∷ xs) ys e = cc

nil_right : (xs ys : List Guard) → xs ++ ys ≡ [] → ys ≡ []
nil_right [] ys e = e
nil_right (x ∷ xs) ys e = cc

nil_join : {A : Type 0} (xs ys : List A) → xs ≡ [] → ys ≡ [] → xs ++ ys ≡ []
nil_join xs ys p q = ap (λ z. z ++ ys) p ∙ q

-- A tree without some branches has no guard where the whole tree has none.
pub without_guards : {keep : List Bool} {s t : Tree} → Without keep s t → guards_in t ≡ [] → guards_in s ≡ []
without_guards whole x = x
without_guards (in_both {a = a} {b = b} {e = e} {f = f} h j) x =
    nil_join (guards_in a) (guards_in e) (without_guards h (nil_left (guards_in b) (guards_in f) x)) (without_guards j (nil_right (guards_in b) (guards_in f) x))
without_guards (in_either {a = a} {b = b} {e = e} {f = f} h j) x =
    nil_join (guards_in a) (guards_in e) (without_guards h (nil_left (guards_in b) (guards_in f) x)) (without_guards j (nil_right (guards_in b) (guards_in f) x))
without_guards (in_many h) x = without_guards h x
without_guards (first_goes {e = e} {f = f} y h) x = without_guards h (nil_right (guards_in e) (guards_in f) x)
without_guards (second_goes {e = e} {f = f} y h) x = without_guards h (nil_left (guards_in e) (guards_in f) x)

left_alike : (xs ys : List (ℕ → Bool)) (c d : ℕ) → alike (xs ++ ys) c d ≡ true → alike xs c d ≡ true
left_alike xs ys c d x = (and_parts (alike xs c d) (alike ys c d) (sym (alike-append xs ys c d) ∙ x)).0

right_alike : (xs ys : List (ℕ → Bool)) (c d : ℕ) → alike (xs ++ ys) c d ≡ true → alike ys c d ≡ true
right_alike xs ys c d x = (and_parts (alike xs c d) (alike ys c d) (sym (alike-append xs ys c d) ∙ x)).1

both_alike : (xs ys : List (ℕ → Bool)) (c d : ℕ) → alike xs c d ≡ true → alike ys c d ≡ true → alike (xs ++ ys) c d ≡ true
both_alike xs ys c d x y = alike-append xs ys c d ∙ and_from (alike xs c d) (alike ys c d) x y

sets_tell : {keep : List Bool} {s t : Tree} → Without keep s t → (c d : ℕ) → alike (sets_in t) c d ≡ true → alike (sets_in s) c d ≡ true
sets_tell whole c d x = x
sets_tell (in_both {a = a} {b = b} {e = e} {f = f} h j) c d x =
    both_alike (sets_in a) (sets_in e) c d (sets_tell h c d (left_alike (sets_in b) (sets_in f) c d x)) (sets_tell j c d (right_alike (sets_in b) (sets_in f) c d x))
sets_tell (in_either {a = a} {b = b} {e = e} {f = f} h j) c d x =
    both_alike (sets_in a) (sets_in e) c d (sets_tell h c d (left_alike (sets_in b) (sets_in f) c d x)) (sets_tell j c d (right_alike (sets_in b) (sets_in f) c d x))
sets_tell (in_many h) c d x = sets_tell h c d x
sets_tell (first_goes {e = e} {f = f} y h) c d x = sets_tell h c d (right_alike (sets_in e) (sets_in f) c d x)
sets_tell (second_goes {e = e} {f = f} y h) c d x = sets_tell h c d (left_alike (sets_in e) (sets_in f) c d x)

guards_tell : {keep : List Bool} {s t : Tree} → Without keep s t → (c d : ℕ) → alike (guard_sets t) c d ≡ true → alike (guard_sets s) c d ≡ true
guards_tell whole c d x = x
guards_tell (in_both {a = a} {b = b} {e = e} {f = f} h j) c d x =
    both_alike (guard_sets a) (guard_sets e) c d (guards_tell h c d (left_alike (guard_sets b) (guard_sets f) c d x)) (guards_tell j c d (right_alike (guard_sets b) (guard_sets f) c d x))
guards_tell (in_either {a = a} {b = b} {e = e} {f = f} h j) c d x =
    both_alike (guard_sets a) (guard_sets e) c d (guards_tell h c d (left_alike (guard_sets b) (guard_sets f) c d x)) (guards_tell j c d (right_alike (guard_sets b) (guard_sets f) c d x))
guards_tell (in_many h) c d x = guards_tell h c d x
guards_tell (first_goes {e = e} {f = f} y h) c d x = guards_tell h c d (right_alike (guard_sets e) (guard_sets f) c d x)
guards_tell (second_goes {e = e} {f = f} y h) c d x = guards_tell h c d (left_alike (guard_sets e) (guard_sets f) c d x)

-- A tree without some branches tells no more codes apart.
pub without_tells : {keep : List Bool} {s t : Tree} → Without keep s t → DistinguishesNoMore t s
without_tells {s = s} {t = t} h = λ c d x.
    both_alike (sets_in s) (guard_sets s) c d (sets_tell h c d (left_alike (sets_in t) (guard_sets t) c d x)) (guards_tell h c d (right_alike (sets_in t) (guard_sets t) c d x))

-- ---- items without guards

-- Each item is without guards.
abbrev Free : List Item → Type 0
Free [] = Unit {0}
Free (test_at gs p ∷ l) = (gs ≡ []) × Free l
Free (pass gs ∷ l) = (gs ≡ []) × Free l

free_join : (l m : List Item) → Free l → Free m → Free (l ++ m)
free_join [] m h j = j
free_join (test_at gs p ∷ l) m h j = (h.0, free_join l m h.1 j)
free_join (pass gs ∷ l) m h j = (h.0, free_join l m h.1 j)

free_replaced : (l m : List Item) → Free l → Free m → Free (replaced l m)
free_replaced [] m h j = tt
free_replaced (test_at gs p ∷ l) m h j = (h.0, free_replaced l m h.1 j)
free_replaced (pass gs ∷ l) m h j =
    let e = ap (λ g. all_guarded g m) h.0 ∙ all_guarded-nil m in
    free_join (all_guarded gs m) (replaced l m) (subst Free (sym e) j) (free_replaced l m h.1 j)

free_more : (greedy : Bool) (l : List Item) → Free l → Free (one_more greedy (pass []) l)
free_more true l h = free_join l (pass [] ∷ []) h (refl, tt)
free_more false l h = (refl, h)

free_first : (t : Tree) (b : ℕ) → guards_in t ≡ [] → Free (first t b)
free_first empty b x = (refl, tt)
free_first (one set) b x = (refl, tt)
free_first (guard g) b x = absurd (cc x)
free_first (both e f) b x =
    free_replaced (first e b) (first f (b + places e)) (free_first e b (nil_left (guards_in e) (guards_in f) x)) (free_first f (b + places e) (nil_right (guards_in e) (guards_in f) x))
free_first (either e f) b x =
    free_join (first e b) (first f (b + places e)) (free_first e b (nil_left (guards_in e) (guards_in f) x)) (free_first f (b + places e) (nil_right (guards_in e) (guards_in f) x))
free_first (many e greedy) b x = free_more greedy (first e b) (free_first e b x)

free_after : (t : Tree) (b q : ℕ) → guards_in t ≡ [] → Free (after t b q)
free_after empty b q x = tt
free_after (one set) b q x = (refl, tt)
free_after (guard g) b q x = tt
free_after (both e f) b q x =
    cond_both (nat_lt q (b + places e)) (replaced (after e b q) (first f (b + places e))) (after f (b + places e) q) Free
    (λ _. free_replaced (after e b q) (first f (b + places e)) (free_after e b q (nil_left (guards_in e) (guards_in f) x)) (free_first f (b + places e) (nil_right (guards_in e) (guards_in f) x)))
    (λ _. free_after f (b + places e) q (nil_right (guards_in e) (guards_in f) x))
free_after (either e f) b q x =
    cond_both (nat_lt q (b + places e)) (after e b q) (after f (b + places e) q) Free
    (λ _. free_after e b q (nil_left (guards_in e) (guards_in f) x))
    (λ _. free_after f (b + places e) q (nil_right (guards_in e) (guards_in f) x))
free_after (many e greedy) b q x =
    free_replaced (after e b q) (first (many e greedy) b) (free_after e b q x) (free_first (many e greedy) b x)

-- ---- one kind of codes

-- A place has one state.
record IsPlain (t : Tree) (n : ℕ) : Type 0 where
  pub kinds_one : length (kinds t n) ≡ 1
  pub kind_none : (code : ℕ) → kind_of t n code ≡ 0

no_sets : (t : Tree) → guards_in t ≡ [] → guard_sets t ≡ []
no_sets empty x = refl
no_sets (one set) x = refl
no_sets (guard g) x = absurd (cc x)
no_sets (both e f) x = nil_join (guard_sets e) (guard_sets f) (no_sets e (nil_left (guards_in e) (guards_in f) x)) (no_sets f (nil_right (guards_in e) (guards_in f) x))
no_sets (either e f) x = nil_join (guard_sets e) (guard_sets f) (no_sets e (nil_left (guards_in e) (guards_in f) x)) (no_sets f (nil_right (guards_in e) (guards_in f) x))
no_sets (many e greedy) x = no_sets e x

first_place : (code : ℕ) (l : List ℕ) → place_where (alike [] code) l ≡ 0
first_place code [] = refl
first_place code (x ∷ l) = refl

plain : (t : Tree) (n : ℕ) → 0 < n → guards_in t ≡ [] → IsPlain t n
plain t n some x = record {
  kinds_one = one_kind t n x some;
  kind_none = λ code. ap (λ z. class_of z n code) (no_sets t x) ∙ class_of-place [] n code ∙ first_place code (firsts (alike []) n);
}

states_are : (t : Tree) (n : ℕ) → IsPlain t n → place_states t n ≡ places t
states_are t n x = let e = ap (λ z. places t * z) x.kinds_one in omega (arith, e)

state_is : (t : Tree) (n q code : ℕ) → IsPlain t n → state_of t n q (kind_of t n code) ≡ suc q
state_is t n q code x = let e = ap (λ z. q * z) x.kinds_one in let k = x.kind_none code in omega (arith, e, k)

-- ---- the moves of items

apart_by : (a b c : Bool) → ((a && c) || (b && c)) ≡ ((a || b) && c)
apart_by true true true = refl
apart_by true true false = refl
apart_by true false true = refl
apart_by true false false = refl
apart_by false b c = refl

goes_to : (set : Bool) (a d r : ℕ) → (d ≡ r → ⊥) → ((if set then a else d) == r) ≡ (set && (a == r))
goes_to true a d r x = refl
goes_to false a d r x = ne_eqb d r x

not_start : (set : Bool) (a d : ℕ) → ((if set then suc a else suc d) == 0) ≡ false
not_start true a d = ne_eqb (suc a) 0 (λ e. omega (arith, e))
not_start false a d = ne_eqb (suc d) 0 (λ e. omega (arith, e))

taken : (gs : List Guard) (before next : Option ℕ) (x : ℕ) → gs ≡ [] → (if all_hold gs before next then x ∷ [] else []) ≡ x ∷ []
taken gs before next x e = ap (λ g. if all_hold g before next then x ∷ [] else []) e

-- Where the test of a place goes.
hits : (t : Tree) (n q p code : ℕ) → IsPlain t n → suc p < dead t n → (test_target t n q (Some code) == suc p) ≡ ((q == p) && set_of t 0 p code)
hits t n q p code x low =
    goes_to (set_of t 0 q code) (state_of t n q (kind_of t n code)) (dead t n) (suc p) (λ e. omega (arith, e, low))
    ∙ ap (λ a. set_of t 0 q code && (a == suc p)) (state_is t n q code x)
    ∙ ⊎_elim
    (λ (e : q ≡ p).
    ap (λ z. set_of t 0 q code && z) (eq-eqb (suc q) (suc p) (ap suc e))
    ∙ and-true (set_of t 0 q code)
    ∙ ap (λ z. set_of t 0 z code) e
    ∙ ap (λ z. z && set_of t 0 p code) (sym (eq-eqb q p e)))
    (λ (e : q ≡ p → ⊥).
    ap (λ z. set_of t 0 q code && z) (ne_eqb (suc q) (suc p) (λ y. e (let z : q ≡ p = omega (arith, y) in z)))
    ∙ and-false (set_of t 0 q code)
    ∙ ap (λ z. z && set_of t 0 p code) (sym (ne_eqb q p e)))
    (cases_eq q p)

-- The moves on a code to the state of a place, or to where that of the place behind the last one would be.
moves_to : (t : Tree) (n : ℕ) (before : Option ℕ) (code p : ℕ) (l : List Item) → IsPlain t n → Free l → suc p < dead t n
    → holds (moves_on t AtEnd n before (Some code) l) (suc p) ≡ (has_test l p && set_of t 0 p code)
moves_to t n before code p [] x h low = refl
moves_to t n before code p (test_at gs q ∷ l) x h low =
    ap (λ z. holds (z ++ moves_on t AtEnd n before (Some code) l) (suc p)) (taken gs before (Some code) (test_target t n q (Some code)) h.0)
    ∙ ap₂ (λ y z. y || z) (hits t n q p code x low) (moves_to t n before code p l x h.1 low)
    ∙ apart_by (q == p) (has_test l p) (set_of t 0 p code)
moves_to t n before code p (pass gs ∷ l) x h low =
    ap (λ z. holds (z ++ moves_on t AtEnd n before (Some code) l) (suc p)) (taken gs before (Some code) (dead t n) h.0)
    ∙ ap₂ (λ y z. y || z) (ne_eqb (dead t n) (suc p) (λ e. omega (arith, e, low))) (moves_to t n before code p l x h.1 low)

-- No move on a code leads to the start.
moves_from : (t : Tree) (n : ℕ) (before : Option ℕ) (code : ℕ) (l : List Item) → Free l → holds (moves_on t AtEnd n before (Some code) l) 0 ≡ false
moves_from t n before code [] h = refl
moves_from t n before code (test_at gs q ∷ l) h =
    ap (λ z. holds (z ++ moves_on t AtEnd n before (Some code) l) 0) (taken gs before (Some code) (test_target t n q (Some code)) h.0)
    ∙ ap₂ (λ y z. y || z) (not_start (set_of t 0 q code) (q * length (kinds t n) + kind_of t n code) (suc (place_states t n))) (moves_from t n before code l h.1)
moves_from t n before code (pass gs ∷ l) h =
    ap (λ z. holds (z ++ moves_on t AtEnd n before (Some code) l) 0) (taken gs before (Some code) (dead t n) h.0)
    ∙ ap₂ (λ y z. y || z) (ne_eqb (dead t n) 0 (λ e. omega (arith, e))) (moves_from t n before code l h.1)

-- The moves on the end letter.
moves_end : (t : Tree) (n : ℕ) (before : Option ℕ) (r : ℕ) (l : List Item) → Free l → r < dead t n
    → holds (moves_on t AtEnd n before None l) r ≡ (has_pass l && (accepting t n == r))
moves_end t n before r [] h low = refl
moves_end t n before r (test_at gs q ∷ l) h low =
    ap (λ z. holds (z ++ moves_on t AtEnd n before None l) r) (taken gs before None (dead t n) h.0)
    ∙ ap₂ (λ y z. y || z) (ne_eqb (dead t n) r (λ e. omega (arith, e, low))) (moves_end t n before r l h.1 low)
moves_end t n before r (pass gs ∷ l) h low =
    ap (λ z. holds (z ++ moves_on t AtEnd n before None l) r) (taken gs before None (accepting t n) h.0)
    ∙ ap (λ z. accepting t n == r || z) (moves_end t n before r l h.1 low)
    ∙ absorbs_and (accepting t n == r) (has_pass l)

-- ---- numbers of kept places

at_here : (k : List Bool) (b c x y : ℕ) → x ≡ b → y ≡ c → At (true ∷ k) b c x y
at_here k b c x y p q = subst (λ z. At (true ∷ k) b c z y) (sym p) (subst (λ z. At (true ∷ k) b c b z) (sym q) here)

number_at : (k : List Bool) (b c p x y : ℕ) → p < length k → slice_index_or k p true ≡ true → x ≡ b + p → y ≡ c + kept_before k p → At k b c x y
number_at [] b c p x y low is e f = absurd (omega (arith, low))
number_at (true ∷ k) b c zero x y low is e f = at_here k b c x y (omega (arith, e)) (omega (arith, f))
number_at (true ∷ k) b c (suc p) x y low is e f = stays (number_at k (suc b) (suc c) p x y (omega (arith, low)) is (omega (arith, e)) (omega (arith, f)))
number_at (false ∷ k) b c zero x y low is e f = absurd (cc is)
number_at (false ∷ k) b c (suc p) x y low is e f = goes (number_at k (suc b) c p x y (omega (arith, low)) is (omega (arith, e)) (omega (arith, f)))

kept_all : (k : List Bool) → kept_before k (length k) ≡ count k
kept_all [] = refl
kept_all (true ∷ k) = let e = kept_all k in omega (arith, e)
kept_all (false ∷ k) = let e = kept_all k in omega (arith, e)

kept_past : (k : List Bool) (p : ℕ) → length k ≤ p → count k ≤ kept_before k p
kept_past [] p low = omega arith
kept_past (x ∷ k) zero low = absurd (omega (arith, low))
kept_past (true ∷ k) (suc p) low = let e = kept_past k p (omega (arith, low)) in omega (arith, e)
kept_past (false ∷ k) (suc p) low = let e = kept_past k p (omega (arith, low)) in omega (arith, e)

-- ---- both trees

-- What is known of them.
record Known (keep : List Bool) (n : ℕ) (s t : Tree) : Type 0 where
  pub trim : Trim keep s t
  pub first_free : guards_in s ≡ []
  pub second_free : guards_in t ≡ []
  pub first_plain : IsPlain s n
  pub second_plain : IsPlain t n

-- The place has its number in the smaller tree.
place_at : {keep : List Bool} {n : ℕ} {s t : Tree} → Known keep n s t → (p : ℕ) → p < places t → slice_index_or keep p true ≡ true → At keep 0 0 p (kept_before keep p)
place_at {keep = keep} h p low is =
    let f = flags_are_places h.trim in
    number_at keep 0 0 p p (kept_before keep p) (omega (arith, low, f)) is (omega arith) (omega arith)

place_low : {keep : List Bool} {n : ℕ} {s t : Tree} → Known keep n s t → (p : ℕ) → p < places t → slice_index_or keep p true ≡ true → kept_before keep p < places s
place_low h p low is = let i = (inside (place_at h p low is)).y_high in let c = kept_are_places h.trim in omega (arith, i, c)

place_high : {keep : List Bool} {n : ℕ} {s t : Tree} → Known keep n s t → (p : ℕ) → places t ≤ p → places s ≤ kept_before keep p
place_high {keep = keep} h p high =
    let f = flags_are_places h.trim in let c = kept_are_places h.trim in let k = kept_past keep p (omega (arith, high, f)) in omega (arith, k, c)

place_last : {keep : List Bool} {n : ℕ} {s t : Tree} → Known keep n s t → places s ≡ kept_before keep (places t)
place_last {keep = keep} h = sym (kept_are_places h.trim) ∙ sym (kept_all keep) ∙ ap (kept_before keep) (flags_are_places h.trim)

-- The items of two states.
record Alike (keep : List Bool) (s t : Tree) (l m : List Item) : Type 0 where
  pub same : Same keep 0 0 l m
  pub of_second : Ranges l 0 (places t)
  pub of_first : Ranges m 0 (places s)
  pub second_free : Free l
  pub first_free : Free m

alike_as : (keep : List Bool) (s t : Tree) (l m l2 m2 : List Item) → l2 ≡ l → m2 ≡ m → Alike keep s t l m → Alike keep s t l2 m2
alike_as keep s t l m l2 m2 p q h = subst (λ z. Alike keep s t z m2) (sym p) (subst (λ z. Alike keep s t l z) (sym q) h)

alike_none : (keep : List Bool) (s t : Tree) → Alike keep s t [] []
alike_none keep s t = record {
  same = record { tests = λ x y h. refl; passes = refl };
  of_second = no_tests [] 0 (places t) (λ p. refl);
  of_first = no_tests [] 0 (places s) (λ p. refl);
  second_free = tt;
  first_free = tt;
}

from_zero : (l : List Item) (n : ℕ) → Ranges l 0 (0 + n) → Ranges l 0 n
from_zero l n r = wider l 0 0 (0 + n) n (omega arith) (omega arith) r

-- The items of a place.
place_items : (t : Tree) (n p : ℕ) → IsPlain t n → p < places t → items_of t n (suc p) ≡ after t 0 p
place_items t n p x low =
    let e = states_are t n x in
    cond-true (nat_lt p (place_states t n)) (after t 0 (p / length (kinds t n))) [] (lt-ltb p (place_states t n) (omega (arith, e, low)))
    ∙ ap (λ z. after t 0 (p / z)) x.kinds_one
    ∙ ap (after t 0) (div-one p)

no_items : (t : Tree) (n p : ℕ) → IsPlain t n → places t ≤ p → items_of t n (suc p) ≡ []
no_items t n p x high =
    let e = states_are t n x in
    cond-false (nat_lt p (place_states t n)) (after t 0 (p / length (kinds t n))) [] (le-ltb p (place_states t n) (omega (arith, e, high)))

items_alike : (keep : List Bool) (n : ℕ) (s t : Tree) → Known keep n s t → (q : ℕ) → is_kept keep q ≡ true → Alike keep s t (items_of t n q) (items_of s n (sunk keep q))
items_alike keep n s t h zero is = record {
  same = same_first h.trim 0 0;
  of_second = from_zero (first t 0) (places t) (ranges_first t 0);
  of_first = from_zero (first s 0) (places s) (ranges_first s 0);
  second_free = free_first t 0 h.second_free;
  first_free = free_first s 0 h.first_free;
}
items_alike keep n s t h (suc p) is =
    let r = kept_before keep p in
    ⊎_elim
    (λ (low : p < places t).
    alike_as keep s t (after t 0 p) (after s 0 r) (items_of t n (suc p)) (items_of s n (suc r))
    (place_items t n p h.second_plain low) (place_items s n r h.first_plain (place_low h p low is))
    (record {
      same = same_after h.trim 0 0 p r (place_at h p low is);
      of_second = from_zero (after t 0 p) (places t) (ranges_after t 0 p);
      of_first = from_zero (after s 0 r) (places s) (ranges_after s 0 r);
      second_free = free_after t 0 p h.second_free;
      first_free = free_after s 0 r h.first_free;
    }))
    (λ (high : places t ≤ p).
    alike_as keep s t [] [] (items_of t n (suc p)) (items_of s n (suc r)) (no_items t n p h.second_plain high) (no_items s n r h.first_plain (place_high h p high)) (alike_none keep s t))
    (cases_lt p (places t))

-- The accepting state.
ends_alike : (keep : List Bool) (n : ℕ) (s t : Tree) → Known keep n s t → (r : ℕ) → r < dead t n → is_kept keep r ≡ true → (accepting s n == sunk keep r) ≡ (accepting t n == r)
ends_alike keep n s t h zero low is = ne_eqb (accepting s n) 0 (λ e. omega (arith, e)) ∙ sym (ne_eqb (accepting t n) 0 (λ e. omega (arith, e)))
ends_alike keep n s t h (suc p) low is =
    let a = states_are s n h.first_plain in let b = states_are t n h.second_plain in
    ⊎_elim
    (λ (z : p < places t).
    let i = place_low h p z is in
    ne_eqb (accepting s n) (suc (kept_before keep p)) (λ e. omega (arith, e, a, i)) ∙ sym (ne_eqb (accepting t n) (suc p) (λ e. omega (arith, e, b, z))))
    (λ (z : places t ≤ p).
    let same : p ≡ places t = omega (arith, z, low, b) in
    let i = place_last h in let k = ap (kept_before keep) same in
    eq-eqb (accepting s n) (suc (kept_before keep p)) (omega (arith, a, i, k)) ∙ sym (eq-eqb (accepting t n) (suc p) (omega (arith, b, same))))
    (cases_lt p (places t))

low_too : (keep : List Bool) (n : ℕ) (s t : Tree) → Known keep n s t → (r : ℕ) → r < dead t n → is_kept keep r ≡ true → sunk keep r < dead s n
low_too keep n s t h zero low is = omega arith
low_too keep n s t h (suc p) low is =
    let a = states_are s n h.first_plain in let b = states_are t n h.second_plain in
    ⊎_elim
    (λ (z : p < places t). let i = place_low h p z is in omega (arith, a, i))
    (λ (z : places t ≤ p).
    let same : p ≡ places t = omega (arith, z, low, b) in
    let i = place_last h in let k = ap (kept_before keep) same in omega (arith, a, i, k))
    (cases_lt p (places t))

-- The moves of items that are alike.
moves_alike : (keep : List Bool) (n : ℕ) (s t : Tree) → Known keep n s t → (l m : List Item) → Alike keep s t l m → (before before2 next : Option ℕ) (r : ℕ) → r < dead t n → is_kept keep r ≡ true
    → holds (moves_on s AtEnd n before next m) (sunk keep r) ≡ holds (moves_on t AtEnd n before2 next l) r
moves_alike keep n s t h l m a before before2 None r low is =
    moves_end s n before (sunk keep r) m a.first_free (low_too keep n s t h r low is)
    ∙ ap₂ (λ x y. x && y) (sym a.same.passes) (ends_alike keep n s t h r low is)
    ∙ sym (moves_end t n before2 r l a.second_free low)
moves_alike keep n s t h l m a before before2 (Some code) zero low is =
    moves_from s n before code m a.first_free ∙ sym (moves_from t n before2 code l a.second_free)
moves_alike keep n s t h l m a before before2 (Some code) (suc p) low is =
    moves_to s n before code (kept_before keep p) m h.first_plain a.first_free (low_too keep n s t h (suc p) low is)
    ∙ ⊎_elim
    (λ (z : p < places t).
    let i = place_at h p z is in
    ap₂ (λ x y. x && y) (sym (a.same.tests p (kept_before keep p) i)) (sym (same_sets h.trim 0 0 p (kept_before keep p) code i)))
    (λ (z : places t ≤ p).
    ap (λ x. x && set_of s 0 (kept_before keep p) code) (a.of_first.high (kept_before keep p) (place_high h p z))
    ∙ sym (ap (λ x. x && set_of t 0 p code) (a.of_second.high p z)))
    (cases_lt p (places t))
    ∙ sym (moves_to t n before2 code p l h.second_plain a.second_free low)

-- The states and moves of a tree without some branches are the kept ones of the whole tree.
pub sunk_states : (sets : List (ℕ → Bool)) (n : ℕ) {keep : List Bool} {s t : Tree} → 0 < n → guards_in t ≡ [] → Without keep s t → AreSunk sets n keep s t
sunk_states sets n {keep} {s} {t} some x w =
    let y = without_guards w x in
    let h : Known keep n s t = record { trim = trim_of w; first_free = y; second_free = x; first_plain = plain s n some y; second_plain = plain t n some x } in
    record {
      flags = flags_are_places h.trim;
      kept = place_last h;
      first_states = ap (λ z. suc (suc (suc z))) (states_are s n h.first_plain);
      second_states = ap (λ z. suc (suc (suc z))) (states_are t n h.second_plain);
      moves = λ q r letter low is_q is_r. moves_alike keep n s t h (items_of t n q) (items_of s n (sunk keep q)) (items_alike keep n s t h q is_q) _ _ (slice_get (classes sets n) letter) r low is_r;
    }
