-- The items of a tree without some of its branches are those of the whole tree, as far as their places are kept.
use Rattle.std.proofs.Common.{◌≡◌, ◌⊎◌, ℕ, zero, suc, ◌+◌, ◌<◌, ◌≤◌, Bool, true, false, ◌==◌, ◌||◌, ◌&&◌, nat_lt, if◌then◌else◌, List, [], ◌∷◌, ◌++◌, length, replicate, refl, sym, ap, ap₂, ◌∙◌, subst, arith}
use Rattle.std.proofs.lemmas.Bool.{cond-true, cond-false, cond_both, lt-ltb, le-ltb, eq-eqb, ne_eqb}
use Rattle.std.proofs.lemmas.List.{length-append, length-replicate}
use mathlib.Core.Logic.{inl, inr, ⊎_elim}
use Rattle.rl_ranges.proofs.SetLemmas.{or_assoc}
use Rattle.rl_syntax.specs.declared.anchors.Guard.{Guard}
use Rattle.rl_syntax.specs.Tree.{Tree, empty, one, guard, both, either, many, places}
use Rattle.rl_syntax.specs.Run.{one_more}
use Rattle.rl_prio.specs.Items.{Item, test_at, pass, all_guarded, replaced, first, after, set_of}
use Rattle.rl_trim.specs.Without.{may_be_empty, Without, whole, in_both, in_either, in_many, first_goes, second_goes}

-- ---- what lists of items test, and whether they end

-- Whether some item tests the place.
abbrev pub has_test : List Item → ℕ → Bool
has_test [] p = false
has_test (test_at gs q ∷ l) p = q == p || has_test l p
has_test (pass gs ∷ l) p = has_test l p

-- Whether some item is an end.
abbrev pub has_pass : List Item → Bool
has_pass [] = false
has_pass (test_at gs q ∷ l) = has_pass l
has_pass (pass gs ∷ l) = true

or_none : (a b : Bool) → a ≡ false → b ≡ false → (a || b) ≡ false
or_none a b p q = ap (λ z. z || b) p ∙ q

or-false : (a : Bool) → (a || false) ≡ a
or-false true = refl
or-false false = refl

pub and-false : (a : Bool) → (a && false) ≡ false
and-false true = refl
and-false false = refl

or-true : (a : Bool) → (a || true) ≡ true
or-true true = refl
or-true false = refl

absorbs : (a b c : Bool) → (a || (b || (c && a))) ≡ (b || a)
absorbs true b c = sym (or-true b)
absorbs false b c = ap (λ z. b || z) (and-false c)

pub absorbs_and : (a c : Bool) → (a || (c && a)) ≡ a
absorbs_and true c = refl
absorbs_and false c = and-false c

test_join : (l m : List Item) (p : ℕ) → has_test (l ++ m) p ≡ (has_test l p || has_test m p)
test_join [] m p = refl
test_join (test_at gs q ∷ l) m p = ap (λ z. q == p || z) (test_join l m p) ∙ or_assoc (q == p) (has_test l p) (has_test m p)
test_join (pass gs ∷ l) m p = test_join l m p

pass_join : (l m : List Item) → has_pass (l ++ m) ≡ (has_pass l || has_pass m)
pass_join [] m = refl
pass_join (test_at gs q ∷ l) m = pass_join l m
pass_join (pass gs ∷ l) m = refl

test_guarded : (gs : List Guard) (l : List Item) (p : ℕ) → has_test (all_guarded gs l) p ≡ has_test l p
test_guarded gs [] p = refl
test_guarded gs (test_at hs q ∷ l) p = ap (λ z. q == p || z) (test_guarded gs l p)
test_guarded gs (pass hs ∷ l) p = test_guarded gs l p

pass_guarded : (gs : List Guard) (l : List Item) → has_pass (all_guarded gs l) ≡ has_pass l
pass_guarded gs [] = refl
pass_guarded gs (test_at hs q ∷ l) = pass_guarded gs l
pass_guarded gs (pass hs ∷ l) = refl

test_replaced : (l m : List Item) (p : ℕ) → has_test (replaced l m) p ≡ (has_test l p || (has_pass l && has_test m p))
test_replaced [] m p = refl
test_replaced (test_at gs q ∷ l) m p = ap (λ z. q == p || z) (test_replaced l m p) ∙ or_assoc (q == p) (has_test l p) (has_pass l && has_test m p)
test_replaced (pass gs ∷ l) m p =
    test_join (all_guarded gs m) (replaced l m) p
    ∙ ap₂ (λ x y. x || y) (test_guarded gs m p) (test_replaced l m p)
    ∙ absorbs (has_test m p) (has_test l p) (has_pass l)

pass_replaced : (l m : List Item) → has_pass (replaced l m) ≡ (has_pass l && has_pass m)
pass_replaced [] m = refl
pass_replaced (test_at gs q ∷ l) m = pass_replaced l m
pass_replaced (pass gs ∷ l) m =
    pass_join (all_guarded gs m) (replaced l m)
    ∙ ap₂ (λ x y. x || y) (pass_guarded gs m) (pass_replaced l m)
    ∙ absorbs_and (has_pass m) (has_pass l)

test_more : (greedy : Bool) (l : List Item) (p : ℕ) → has_test (one_more greedy (pass []) l) p ≡ has_test l p
test_more true l p = test_join l (pass [] ∷ []) p ∙ or-false (has_test l p)
test_more false l p = refl

pass_more : (greedy : Bool) (l : List Item) → has_pass (one_more greedy (pass []) l) ≡ true
pass_more true l = pass_join l (pass [] ∷ []) ∙ or-true (has_pass l)
pass_more false l = refl

-- ---- the places that are tested are those of the tree

-- No place before `b` is tested, and none from `c` on.
pub record Ranges (l : List Item) (b c : ℕ) : Type 0 where
  pub low : (p : ℕ) → p < b → has_test l p ≡ false
  pub high : (p : ℕ) → c ≤ p → has_test l p ≡ false

pub wider : (l : List Item) (a b c d : ℕ) → a ≤ b → c ≤ d → Ranges l b c → Ranges l a d
wider l a b c d x y r = record { low = λ p z. r.low p (omega (arith, x, z)); high = λ p z. r.high p (omega (arith, y, z)) }

ranges_join : (l m : List Item) (b c : ℕ) → Ranges l b c → Ranges m b c → Ranges (l ++ m) b c
ranges_join l m b c r s = record {
  low = λ p z. test_join l m p ∙ or_none (has_test l p) (has_test m p) (r.low p z) (s.low p z);
  high = λ p z. test_join l m p ∙ or_none (has_test l p) (has_test m p) (r.high p z) (s.high p z);
}

none_replaced : (l m : List Item) (p : ℕ) → has_test l p ≡ false → has_test m p ≡ false → has_test (replaced l m) p ≡ false
none_replaced l m p x y = test_replaced l m p ∙ or_none (has_test l p) (has_pass l && has_test m p) x (ap (λ z. has_pass l && z) y ∙ and-false (has_pass l))

ranges_replaced : (l m : List Item) (b c : ℕ) → Ranges l b c → Ranges m b c → Ranges (replaced l m) b c
ranges_replaced l m b c r s = record {
  low = λ p z. none_replaced l m p (r.low p z) (s.low p z);
  high = λ p z. none_replaced l m p (r.high p z) (s.high p z);
}

ranges_more : (greedy : Bool) (l : List Item) (b c : ℕ) → Ranges l b c → Ranges (one_more greedy (pass []) l) b c
ranges_more greedy l b c r = record {
  low = λ p z. test_more greedy l p ∙ r.low p z;
  high = λ p z. test_more greedy l p ∙ r.high p z;
}

pub no_tests : (l : List Item) (b c : ℕ) → ((p : ℕ) → has_test l p ≡ false) → Ranges l b c
no_tests l b c f = record { low = λ p _. f p; high = λ p _. f p }

pub ranges_first : (t : Tree) (b : ℕ) → Ranges (first t b) b (b + places t)
ranges_first empty b = no_tests (pass [] ∷ []) b (b + 0) (λ p. refl)
ranges_first (one set) b = record {
  low = λ p z. or-false (b == p) ∙ ne_eqb b p (λ e. omega (arith, e, z));
  high = λ p z. or-false (b == p) ∙ ne_eqb b p (λ e. omega (arith, e, z));
}
ranges_first (guard g) b = no_tests (pass (g ∷ []) ∷ []) b (b + 0) (λ p. refl)
ranges_first (both e f) b =
    let l = first e b in let m = first f (b + places e) in
    ranges_replaced l m b (b + (places e + places f))
    (wider l b b (b + places e) (b + (places e + places f)) (omega arith) (omega arith) (ranges_first e b))
    (wider m b (b + places e) (b + places e + places f) (b + (places e + places f)) (omega arith) (omega arith) (ranges_first f (b + places e)))
ranges_first (either e f) b =
    let l = first e b in let m = first f (b + places e) in
    ranges_join l m b (b + (places e + places f))
    (wider l b b (b + places e) (b + (places e + places f)) (omega arith) (omega arith) (ranges_first e b))
    (wider m b (b + places e) (b + places e + places f) (b + (places e + places f)) (omega arith) (omega arith) (ranges_first f (b + places e)))
ranges_first (many e greedy) b = ranges_more greedy (first e b) b (b + places e) (ranges_first e b)

pub ranges_after : (t : Tree) (b q : ℕ) → Ranges (after t b q) b (b + places t)
ranges_after empty b q = no_tests [] b (b + 0) (λ p. refl)
ranges_after (one set) b q = no_tests (pass [] ∷ []) b (b + 1) (λ p. refl)
ranges_after (guard g) b q = no_tests [] b (b + 0) (λ p. refl)
ranges_after (both e f) b q =
    let n = b + (places e + places f) in
    let l = after e b q in let m = first f (b + places e) in let r = after f (b + places e) q in
    cond_both (nat_lt q (b + places e)) (replaced l m) r (λ x. Ranges x b n)
    (λ _. ranges_replaced l m b n
    (wider l b b (b + places e) n (omega arith) (omega arith) (ranges_after e b q))
    (wider m b (b + places e) (b + places e + places f) n (omega arith) (omega arith) (ranges_first f (b + places e))))
    (λ _. wider r b (b + places e) (b + places e + places f) n (omega arith) (omega arith) (ranges_after f (b + places e) q))
ranges_after (either e f) b q =
    let n = b + (places e + places f) in
    let l = after e b q in let r = after f (b + places e) q in
    cond_both (nat_lt q (b + places e)) l r (λ x. Ranges x b n)
    (λ _. wider l b b (b + places e) n (omega arith) (omega arith) (ranges_after e b q))
    (λ _. wider r b (b + places e) (b + places e + places f) n (omega arith) (omega arith) (ranges_after f (b + places e) q))
ranges_after (many e greedy) b q =
    ranges_replaced (after e b q) (first (many e greedy) b) b (b + places e) (ranges_after e b q) (ranges_first (many e greedy) b)

-- A tree that may not span the empty text doesn't end at once.
only_both : (a b : Bool) → (a && b) ≡ false → (a ≡ false) ⊎ (b ≡ false)
only_both true b e = inr e
only_both false b e = inl refl

only_none : (a b : Bool) → (a || b) ≡ false → (a ≡ false) × (b ≡ false)
only_none true b e = absurd (cc e)
only_none false b e = (refl, e)

goes_on : (t : Tree) (b : ℕ) → may_be_empty t ≡ false → has_pass (first t b) ≡ false
goes_on empty b e = absurd (cc e)
goes_on (one set) b e = refl
goes_on (guard g) b e = absurd (cc e)
goes_on (both e f) b h =
    pass_replaced (first e b) (first f (b + places e))
    ∙ ⊎_elim (λ x. ap (λ z. z && has_pass (first f (b + places e))) (goes_on e b x)) (λ x. ap (λ z. has_pass (first e b) && z) (goes_on f (b + places e) x) ∙ and-false (has_pass (first e b)))
    (only_both (may_be_empty e) (may_be_empty f) h)
goes_on (either e f) b h =
    let x = only_none (may_be_empty e) (may_be_empty f) h in
    pass_join (first e b) (first f (b + places e))
    ∙ or_none (has_pass (first e b)) (has_pass (first f (b + places e))) (goes_on e b x.0) (goes_on f (b + places e) x.1)
goes_on (many e greedy) b h = absurd (cc h)

-- ---- kept places

-- How many flags are true.
abbrev pub count : List Bool → ℕ
count [] = 0
count (true ∷ k) = suc (count k)
count (false ∷ k) = count k

-- The flags are those of the places from `b` on, and the kept ones of these are numbered anew from `c` on: `x` is kept, and its
-- new number is `y`.
pub data At : List Bool → ℕ → ℕ → ℕ → ℕ → Type 0 where
  here : {k : List Bool} {b c : ℕ} → At (true ∷ k) b c b c
  stays : {k : List Bool} {b c x y : ℕ} → At k (suc b) (suc c) x y → At (true ∷ k) b c x y
  goes : {k : List Bool} {b c x y : ℕ} → At k (suc b) c x y → At (false ∷ k) b c x y

pub renumber : (k : List Bool) (b c b2 c2 x y : ℕ) → b ≡ b2 → c ≡ c2 → At k b c x y → At k b2 c2 x y
renumber k b c b2 c2 x y p q h = subst (λ z. At k z c2 x y) p (subst (λ z. At k b z x y) q h)

pub record Inside (k : List Bool) (b c x y : ℕ) : Type 0 where
  pub x_low : b ≤ x
  pub x_high : x < b + length k
  pub y_low : c ≤ y
  pub y_high : y < c + count k

pub inside : {k : List Bool} {b c x y : ℕ} → At k b c x y → Inside k b c x y
inside here = record { x_low = omega arith; x_high = omega arith; y_low = omega arith; y_high = omega arith }
inside (stays h) = let i = inside h in record { x_low = omega arith; x_high = omega arith; y_low = omega arith; y_high = omega arith }
inside (goes h) = let i = inside h in record { x_low = omega arith; x_high = omega arith; y_low = omega arith; y_high = omega arith }

split : (k m : List Bool) (b c n i x y : ℕ) → n ≡ b + length k → i ≡ c + count k → At (k ++ m) b c x y → At k b c x y ⊎ At m n i x y
split [] m b c n i x y p q h = inr (renumber m b c n i x y (omega (arith, p)) (omega (arith, q)) h)
split (true ∷ k) m b c n i x y p q here = inl here
split (true ∷ k) m b c n i x y p q (stays h) =
    ⊎_elim (λ (a : At k (suc b) (suc c) x y). inl (stays a)) (λ (a : At m n i x y). inr a) (split k m (suc b) (suc c) n i x y (omega (arith, p)) (omega (arith, q)) h)
split (false ∷ k) m b c n i x y p q (goes h) =
    ⊎_elim (λ (a : At k (suc b) c x y). inl (goes a)) (λ (a : At m n i x y). inr a) (split k m (suc b) c n i x y (omega (arith, p)) (omega (arith, q)) h)

-- No place of flags that are all false is kept.
none_gone : (n b c x y : ℕ) → At (replicate n false) b c x y → ⊥
none_gone zero b c x y h = elim h [ ]
none_gone (suc n) b c x y (goes h) = none_gone n (suc b) c x y h

-- ---- lists of items of both trees

-- The lists test the same kept places, and both end or neither.
pub record Same (k : List Bool) (b c : ℕ) (l m : List Item) : Type 0 where
  pub tests : (x y : ℕ) → At k b c x y → has_test l x ≡ has_test m y
  pub passes : has_pass l ≡ has_pass m

same_replaced : (k : List Bool) (b c : ℕ) (l l2 m m2 : List Item) → Same k b c l l2 → Same k b c m m2 → Same k b c (replaced l m) (replaced l2 m2)
same_replaced k b c l l2 m m2 r s = record {
  tests = λ x y h. test_replaced l m x ∙ ap₂ (λ u v. u || v) (r.tests x y h) (ap₂ (λ u v. u && v) r.passes (s.tests x y h)) ∙ sym (test_replaced l2 m2 y);
  passes = pass_replaced l m ∙ ap₂ (λ u v. u && v) r.passes s.passes ∙ sym (pass_replaced l2 m2);
}

same_join : (k : List Bool) (b c : ℕ) (l l2 m m2 : List Item) → Same k b c l l2 → Same k b c m m2 → Same k b c (l ++ m) (l2 ++ m2)
same_join k b c l l2 m m2 r s = record {
  tests = λ x y h. test_join l m x ∙ ap₂ (λ u v. u || v) (r.tests x y h) (s.tests x y h) ∙ sym (test_join l2 m2 y);
  passes = pass_join l m ∙ ap₂ (λ u v. u || v) r.passes s.passes ∙ sym (pass_join l2 m2);
}

same_more : (greedy : Bool) (k : List Bool) (b c : ℕ) (l l2 : List Item) → Same k b c l l2 → Same k b c (one_more greedy (pass []) l) (one_more greedy (pass []) l2)
same_more greedy k b c l l2 r = record {
  tests = λ x y h. test_more greedy l x ∙ r.tests x y h ∙ sym (test_more greedy l2 y);
  passes = pass_more greedy l ∙ sym (pass_more greedy l2);
}

-- The lists of a part, among the flags of both parts; `n` and `i` are the numbers of the second part's first place.
in_left : (k m : List Bool) (b c n i : ℕ) (l l2 : List Item) → n ≡ b + length k → i ≡ c + count k → Same k b c l l2 → Ranges l b n → Ranges l2 c i → Same (k ++ m) b c l l2
in_left k m b c n i l l2 p q s r r2 = record {
  tests = λ x y h. ⊎_elim (λ (a : At k b c x y). s.tests x y a) (λ (a : At m n i x y). let z = inside a in r.high x z.x_low ∙ sym (r2.high y z.y_low)) (split k m b c n i x y p q h);
  passes = s.passes;
}

in_right : (k m : List Bool) (b c n i d e : ℕ) (l l2 : List Item) → n ≡ b + length k → i ≡ c + count k → Same m n i l l2 → Ranges l n d → Ranges l2 i e → Same (k ++ m) b c l l2
in_right k m b c n i d e l l2 p q s r r2 = record {
  tests = λ x y h. ⊎_elim (λ (a : At k b c x y). let z = inside a in r.low x (omega (arith, p, z.x_high)) ∙ sym (r2.low y (omega (arith, q, z.y_high)))) (λ (a : At m n i x y). s.tests x y a) (split k m b c n i x y p q h);
  passes = s.passes;
}

same_as : (k : List Bool) (b c : ℕ) (l l2 m m2 : List Item) → m ≡ l → m2 ≡ l2 → Same k b c l l2 → Same k b c m m2
same_as k b c l l2 m m2 p q s = record {
  tests = λ x y h. ap (λ z. has_test z x) p ∙ s.tests x y h ∙ ap (λ z. has_test z y) (sym q);
  passes = ap has_pass p ∙ s.passes ∙ ap has_pass (sym q);
}

-- ---- trees without branches

-- As `Without`, and down to the leaves.
pub data Trim : List Bool → Tree → Tree → Type 0 where
  nothing : Trim [] empty empty
  a_guard : {g : Guard} → Trim [] (guard g) (guard g)
  a_place : {set : ℕ → Bool} → Trim (true ∷ []) (one set) (one set)
  of_both : {k m : List Bool} {a b e f : Tree} → Trim k a b → Trim m e f → Trim (k ++ m) (both a e) (both b f)
  of_either : {k m : List Bool} {a b e f : Tree} → Trim k a b → Trim m e f → Trim (k ++ m) (either a e) (either b f)
  of_many : {k : List Bool} {a b : Tree} {greedy : Bool} → Trim k a b → Trim k (many a greedy) (many b greedy)
  not_first : {k : List Bool} {s e f : Tree} → may_be_empty e ≡ false → Trim k s f → Trim (replicate (places e) false ++ k) s (either e f)
  not_second : {k : List Bool} {s e f : Tree} → may_be_empty f ≡ false → Trim k s e → Trim (k ++ replicate (places f) false) s (either e f)

replicate_join : (i j : ℕ) → replicate (i + j) true ≡ replicate i true ++ replicate j true
replicate_join zero j = let e : 0 + j ≡ j = omega arith in ap (λ n. replicate n true) e
replicate_join (suc i) j = let e : suc i + j ≡ suc (i + j) = omega arith in ap (λ n. replicate n true) e ∙ ap (λ k. true ∷ k) (replicate_join i j)

trim_whole : (t : Tree) → Trim (replicate (places t) true) t t
trim_whole empty = nothing
trim_whole (one set) = a_place
trim_whole (guard g) = a_guard
trim_whole (both e f) = subst (λ k. Trim k (both e f) (both e f)) (sym (replicate_join (places e) (places f))) (of_both (trim_whole e) (trim_whole f))
trim_whole (either e f) = subst (λ k. Trim k (either e f) (either e f)) (sym (replicate_join (places e) (places f))) (of_either (trim_whole e) (trim_whole f))
trim_whole (many e greedy) = of_many (trim_whole e)

pub trim_of : {k : List Bool} {s t : Tree} → Without k s t → Trim k s t
trim_of (whole {t = t}) = trim_whole t
trim_of (in_both h j) = of_both (trim_of h) (trim_of j)
trim_of (in_either h j) = of_either (trim_of h) (trim_of j)
trim_of (in_many h) = of_many (trim_of h)
trim_of (first_goes x h) = not_first x (trim_of h)
trim_of (second_goes x h) = not_second x (trim_of h)

count-append : (k m : List Bool) → count (k ++ m) ≡ count k + count m
count-append [] m = omega arith
count-append (true ∷ k) m = let e = count-append k m in omega (arith, e)
count-append (false ∷ k) m = count-append k m

count_gone : (n : ℕ) → count (replicate n false) ≡ 0
count_gone zero = refl
count_gone (suc n) = count_gone n

-- A flag for each place.
pub flags_are_places : {k : List Bool} {s t : Tree} → Trim k s t → length k ≡ places t
flags_are_places nothing = refl
flags_are_places a_guard = refl
flags_are_places a_place = refl
flags_are_places (of_both {k = k} {m = m} h j) = omega (arith, length-append k m, flags_are_places h, flags_are_places j)
flags_are_places (of_either {k = k} {m = m} h j) = omega (arith, length-append k m, flags_are_places h, flags_are_places j)
flags_are_places (of_many h) = flags_are_places h
flags_are_places (not_first {k = k} {e = e} x h) = omega (arith, length-append (replicate (places e) false) k, length-replicate (places e) false, flags_are_places h)
flags_are_places (not_second {k = k} {f = f} x h) = omega (arith, length-append k (replicate (places f) false), length-replicate (places f) false, flags_are_places h)

-- As many are kept as the smaller tree has.
pub kept_are_places : {k : List Bool} {s t : Tree} → Trim k s t → count k ≡ places s
kept_are_places nothing = refl
kept_are_places a_guard = refl
kept_are_places a_place = refl
kept_are_places (of_both {k = k} {m = m} h j) = omega (arith, count-append k m, kept_are_places h, kept_are_places j)
kept_are_places (of_either {k = k} {m = m} h j) = omega (arith, count-append k m, kept_are_places h, kept_are_places j)
kept_are_places (of_many h) = kept_are_places h
kept_are_places (not_first {k = k} {e = e} x h) = omega (arith, count-append (replicate (places e) false) k, count_gone (places e), kept_are_places h)
kept_are_places (not_second {k = k} {f = f} x h) = omega (arith, count-append k (replicate (places f) false), count_gone (places f), kept_are_places h)

-- The number of the second part's first place, by the flags of the first part.
next_place : (b : ℕ) {k : List Bool} {s t : Tree} → Trim k s t → b + places t ≡ b + length k
next_place b h = let e = flags_are_places h in omega (arith, e)

next_kept : (c : ℕ) {k : List Bool} {s t : Tree} → Trim k s t → c + places s ≡ c + count k
next_kept c h = let e = kept_are_places h in omega (arith, e)

-- ---- the items of both trees

-- The places of a branch that goes aren't kept.
not_before : (n : ℕ) (k : List Bool) (b c x y : ℕ) → At (replicate n false ++ k) b c x y → At k (b + n) c x y
not_before n k b c x y h =
    ⊎_elim (λ (a : At (replicate n false) b c x y). absurd (none_gone n b c x y a)) (λ (a : At k (b + n) c x y). a)
    (split (replicate n false) k b c (b + n) c x y (let e = length-replicate n false in omega (arith, e)) (let e = count_gone n in omega (arith, e)) h)

not_behind : (n : ℕ) (k : List Bool) (b c x y : ℕ) → At (k ++ replicate n false) b c x y → At k b c x y
not_behind n k b c x y h =
    ⊎_elim (λ (a : At k b c x y). a) (λ (a : At (replicate n false) (b + length k) (c + count k) x y). absurd (none_gone n (b + length k) (c + count k) x y a))
    (split k (replicate n false) b c (b + length k) (c + count k) x y refl refl h)

one_place : {b c x y : ℕ} → At (true ∷ []) b c x y → (b == x || false) ≡ (c == y || false)
one_place (here {b = b} {c = c}) = ap (λ z. z || false) (eq-eqb b b refl ∙ sym (eq-eqb c c refl))
one_place (stays h) = elim h [ ]

pub same_first : {k : List Bool} {s t : Tree} → Trim k s t → (b c : ℕ) → Same k b c (first t b) (first s c)
same_first nothing b c = record { tests = λ x y h. refl; passes = refl }
same_first a_guard b c = record { tests = λ x y h. refl; passes = refl }
same_first a_place b c = record { tests = λ x y h. one_place h; passes = refl }
same_first (of_both {k = k} {m = m} {a = a} {b = a2} {e = e} {f = e2} h j) b c =
    let n = b + places a2 in let i = c + places a in
    same_replaced (k ++ m) b c (first a2 b) (first a c) (first e2 n) (first e i)
    (in_left k m b c n i (first a2 b) (first a c) (next_place b h) (next_kept c h) (same_first h b c) (ranges_first a2 b) (ranges_first a c))
    (in_right k m b c n i (n + places e2) (i + places e) (first e2 n) (first e i) (next_place b h) (next_kept c h) (same_first j n i) (ranges_first e2 n) (ranges_first e i))
same_first (of_either {k = k} {m = m} {a = a} {b = a2} {e = e} {f = e2} h j) b c =
    let n = b + places a2 in let i = c + places a in
    same_join (k ++ m) b c (first a2 b) (first a c) (first e2 n) (first e i)
    (in_left k m b c n i (first a2 b) (first a c) (next_place b h) (next_kept c h) (same_first h b c) (ranges_first a2 b) (ranges_first a c))
    (in_right k m b c n i (n + places e2) (i + places e) (first e2 n) (first e i) (next_place b h) (next_kept c h) (same_first j n i) (ranges_first e2 n) (ranges_first e i))
same_first (of_many {k = k} {a = a} {b = a2} {greedy = greedy} h) b c = same_more greedy k b c (first a2 b) (first a c) (same_first h b c)
same_first (not_first {k = k} {s = s} {e = e} {f = f} x h) b c =
    let i = same_first h (b + places e) c in
    record {
      tests = λ u v at.
          let z = not_before (places e) k b c u v at in
          test_join (first e b) (first f (b + places e)) u
          ∙ ap (λ w. w || has_test (first f (b + places e)) u) ((ranges_first e b).high u (inside z).x_low)
          ∙ i.tests u v z;
      passes = pass_join (first e b) (first f (b + places e)) ∙ ap (λ w. w || has_pass (first f (b + places e))) (goes_on e b x) ∙ i.passes;
    }
same_first (not_second {k = k} {s = s} {e = e} {f = f} x h) b c =
    let i = same_first h b c in
    record {
      tests = λ u v at.
          let z = not_behind (places f) k b c u v at in
          test_join (first e b) (first f (b + places e)) u
          ∙ ap (λ w. has_test (first e b) u || w) ((ranges_first f (b + places e)).low u (let y = (inside z).x_high in let w = next_place b h in omega (arith, y, w)))
          ∙ or-false (has_test (first e b) u)
          ∙ i.tests u v z;
      passes = pass_join (first e b) (first f (b + places e)) ∙ ap (λ w. has_pass (first e b) || w) (goes_on f (b + places e) x) ∙ or-false (has_pass (first e b)) ∙ i.passes;
    }

-- What is so in the part that a place is in.
below_part : {A : Type 0} (q n : ℕ) (l r : A) → q < n → (if nat_lt q n then l else r) ≡ l
below_part q n l r z = cond-true (nat_lt q n) l r (lt-ltb q n z)

beyond_part : {A : Type 0} (q n : ℕ) (l r : A) → n ≤ q → (if nat_lt q n then l else r) ≡ r
beyond_part q n l r z = cond-false (nat_lt q n) l r (le-ltb q n z)

pub same_after : {k : List Bool} {s t : Tree} → Trim k s t → (b c q r : ℕ) → At k b c q r → Same k b c (after t b q) (after s c r)
same_after nothing b c q r at = elim at [ ]
same_after a_guard b c q r at = elim at [ ]
same_after a_place b c q r at = record { tests = λ x y h. refl; passes = refl }
same_after (of_both {k = k} {m = m} {a = a} {b = a2} {e = e} {f = e2} h j) b c q r at =
    let n = b + places a2 in let i = c + places a in let p = next_place b h in let o = next_kept c h in
    ⊎_elim
    (λ (z : At k b c q r).
    same_as (k ++ m) b c (replaced (after a2 b q) (first e2 n)) (replaced (after a c r) (first e i)) (after (both a2 e2) b q) (after (both a e) c r)
    (below_part q n (replaced (after a2 b q) (first e2 n)) (after e2 n q) (let y = (inside z).x_high in omega (arith, y, p))) (below_part r i (replaced (after a c r) (first e i)) (after e i r) (let y = (inside z).y_high in omega (arith, y, o)))
    (same_replaced (k ++ m) b c (after a2 b q) (after a c r) (first e2 n) (first e i)
    (in_left k m b c n i (after a2 b q) (after a c r) p o (same_after h b c q r z) (ranges_after a2 b q) (ranges_after a c r))
    (in_right k m b c n i (n + places e2) (i + places e) (first e2 n) (first e i) p o (same_first j n i) (ranges_first e2 n) (ranges_first e i))))
    (λ (z : At m n i q r).
    same_as (k ++ m) b c (after e2 n q) (after e i r) (after (both a2 e2) b q) (after (both a e) c r)
    (beyond_part q n (replaced (after a2 b q) (first e2 n)) (after e2 n q) (inside z).x_low) (beyond_part r i (replaced (after a c r) (first e i)) (after e i r) (inside z).y_low)
    (in_right k m b c n i (n + places e2) (i + places e) (after e2 n q) (after e i r) p o (same_after j n i q r z) (ranges_after e2 n q) (ranges_after e i r)))
    (split k m b c n i q r p o at)
same_after (of_either {k = k} {m = m} {a = a} {b = a2} {e = e} {f = e2} h j) b c q r at =
    let n = b + places a2 in let i = c + places a in let p = next_place b h in let o = next_kept c h in
    ⊎_elim
    (λ (z : At k b c q r).
    same_as (k ++ m) b c (after a2 b q) (after a c r) (after (either a2 e2) b q) (after (either a e) c r)
    (below_part q n (after a2 b q) (after e2 n q) (let y = (inside z).x_high in omega (arith, y, p))) (below_part r i (after a c r) (after e i r) (let y = (inside z).y_high in omega (arith, y, o)))
    (in_left k m b c n i (after a2 b q) (after a c r) p o (same_after h b c q r z) (ranges_after a2 b q) (ranges_after a c r)))
    (λ (z : At m n i q r).
    same_as (k ++ m) b c (after e2 n q) (after e i r) (after (either a2 e2) b q) (after (either a e) c r)
    (beyond_part q n (after a2 b q) (after e2 n q) (inside z).x_low) (beyond_part r i (after a c r) (after e i r) (inside z).y_low)
    (in_right k m b c n i (n + places e2) (i + places e) (after e2 n q) (after e i r) p o (same_after j n i q r z) (ranges_after e2 n q) (ranges_after e i r)))
    (split k m b c n i q r p o at)
same_after (of_many {k = k} {a = a} {b = a2} {greedy = greedy} h) b c q r at =
    same_replaced k b c (after a2 b q) (after a c r) (first (many a2 greedy) b) (first (many a greedy) c) (same_after h b c q r at) (same_more greedy k b c (first a2 b) (first a c) (same_first h b c))
same_after (not_first {k = k} {s = s} {e = e} {f = f} x h) b c q r at =
    let n = b + places e in
    let z = not_before (places e) k b c q r at in
    let i = same_after h n c q r z in
    same_as (replicate (places e) false ++ k) b c (after f n q) (after s c r) (after (either e f) b q) (after s c r)
    (beyond_part q n (after e b q) (after f n q) (inside z).x_low) refl
    (record { tests = λ u v w. i.tests u v (not_before (places e) k b c u v w); passes = i.passes })
same_after (not_second {k = k} {s = s} {e = e} {f = f} x h) b c q r at =
    let n = b + places e in let p = next_place b h in
    let z = not_behind (places f) k b c q r at in
    let i = same_after h b c q r z in
    same_as (k ++ replicate (places f) false) b c (after e b q) (after s c r) (after (either e f) b q) (after s c r)
    (below_part q n (after e b q) (after f n q) (let y = (inside z).x_high in omega (arith, y, p))) refl
    (record { tests = λ u v w. i.tests u v (not_behind (places f) k b c u v w); passes = i.passes })

-- ---- the sets of both trees

-- The set of a place is that of one of the parts.
set_in_parts : {k m : List Bool} {a b e f : Tree} → Trim k a b → Trim m e f → (c d q r code : ℕ) → At (k ++ m) c d q r
    → (At k c d q r → set_of b c q code ≡ set_of a d r code) → (At m (c + places b) (d + places a) q r → set_of f (c + places b) q code ≡ set_of e (d + places a) r code)
    → (if nat_lt q (c + places b) then set_of b c q code else set_of f (c + places b) q code) ≡ (if nat_lt r (d + places a) then set_of a d r code else set_of e (d + places a) r code)
set_in_parts {k = k} {m = m} {a = a} {b = b} {e = e} {f = f} h j c d q r code at x y =
    let n = c + places b in let i = d + places a in let p = next_place c h in let o = next_kept d h in
    ⊎_elim
    (λ (z : At k c d q r). below_part q n (set_of b c q code) (set_of f n q code) (let w = (inside z).x_high in omega (arith, w, p)) ∙ x z ∙ sym (below_part r i (set_of a d r code) (set_of e i r code) (let w = (inside z).y_high in omega (arith, w, o))))
    (λ (z : At m n i q r). beyond_part q n (set_of b c q code) (set_of f n q code) (inside z).x_low ∙ y z ∙ sym (beyond_part r i (set_of a d r code) (set_of e i r code) (inside z).y_low))
    (split k m c d n i q r p o at)

pub same_sets : {k : List Bool} {s t : Tree} → Trim k s t → (b c q r code : ℕ) → At k b c q r → set_of t b q code ≡ set_of s c r code
same_sets nothing b c q r code at = refl
same_sets a_guard b c q r code at = refl
same_sets a_place b c q r code at = refl
same_sets (of_both h j) b c q r code at = set_in_parts h j b c q r code at (same_sets h b c q r code) (same_sets j _ _ q r code)
same_sets (of_either h j) b c q r code at = set_in_parts h j b c q r code at (same_sets h b c q r code) (same_sets j _ _ q r code)
same_sets (of_many h) b c q r code at = same_sets h b c q r code at
same_sets (not_first {k = k} {e = e} {f = f} x h) b c q r code at =
    let z = not_before (places e) k b c q r at in beyond_part q (b + places e) (set_of e b q code) (set_of f (b + places e) q code) (inside z).x_low ∙ same_sets h (b + places e) c q r code z
same_sets (not_second {k = k} {e = e} {f = f} x h) b c q r code at =
    let z = not_behind (places f) k b c q r at in let p = next_place b h in
    below_part q (b + places e) (set_of e b q code) (set_of f (b + places e) q code) (let w = (inside z).x_high in omega (arith, w, p)) ∙ same_sets h b c q r code z
