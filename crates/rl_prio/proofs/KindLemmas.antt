-- How many kinds and states there are at most. Guards other than lookarounds name three sets at most: the line feed, the ASCII
-- words and the words.
use Rattle.std.proofs.Common.{◌≡◌, ℕ, zero, suc, ◌+◌, ◌*◌, ◌<◌, ◌≤◌, Bool, true, false, ◌==◌, ◌||◌, List, [], ◌∷◌, ◌++◌, length, get_or, if◌then◌else◌, ⊎_elim, refl, sym, ap, ◌∙◌, arith}
use Rattle.std.proofs.Math.Bool.{beq}
use Rattle.std.proofs.lemmas.Bool.{and_from, cases_eq, cond-true, cond-false, cond_both, eq-eqb, ne_eqb, eqb-true, false≢true}
use Rattle.std.proofs.lemmas.Nat.{mul-le}
use Rattle.rl_ranges.specs.Letters.{alike, classes, class_of}
use Rattle.rl_ranges.proofs.LetterLemmas.{alike-append, beq-from, class_of-first, class_of-lt, class_of-same, class_of-only, classes-below}
use Rattle.rl_syntax.specs.declared.anchors.Guard.{Guard}
use Rattle.rl_syntax.specs.declared.anchors.Guard.TheVariants.{Start, LineStart, LineEnd, TextEnd, Word, NotWord, Look}
use Rattle.rl_syntax.specs.Guards.{is_word, is_line_feed, is_look, sets_named}
use Rattle.rl_syntax.specs.Tree.{Tree, empty, one, guard, both, either, many, size, places, sets_in, guards_in, guard_sets, has_look}
use Rattle.rl_prio.specs.Letters.{all_sets, kinds}
use Rattle.rl_prio.specs.Measure.{measure}
use Rattle.rl_prio.specs.States.{state_count}
use Rattle.rl_prio.proofs.LikenessLemmas.{Finer, Finer-right}
use Rattle.rl_prio.proofs.WordLemmas.{ascii_words_are_words}

-- A number below `m` for each index, all different: there are at most `m`.
pub pigeonholes : (m : ℕ) (f : ℕ → ℕ) (k : ℕ) → ((i : ℕ) → i < k → f i < m) → ((i j : ℕ) → i < j → j < k → f i ≡ f j → ⊥) → k ≤ m
pigeonholes m f zero below apart = omega arith
pigeonholes zero f (suc k) below apart = absurd (omega (arith, below 0 (omega arith)))
pigeonholes (suc m) f (suc k) below apart =
    let v = f k in
    -- The last number takes the place of `m`.
    let g = λ (i : ℕ). if f i == m then v else f i in
    let last : v < suc m = below k (omega arith) in
    let moved : (i : ℕ) → f i ≡ m → g i ≡ v = λ i e. cond-true (f i == m) v (f i) (eq-eqb (f i) m e) in
    let kept : (i : ℕ) → (f i ≡ m → ⊥) → g i ≡ f i = λ i e. cond-false (f i == m) v (f i) (ne_eqb (f i) m e) in
    let fewer : k ≤ m = pigeonholes m g k
    (λ i lt. ⊎_elim
    (λ e. let other : v ≡ m → ⊥ = λ same. apart i k lt (omega arith) (e ∙ sym same) in omega (arith, moved i e, ne_lt v m last other))
    (λ e. omega (arith, kept i e, ne_lt (f i) m (below i (omega arith)) e))
    (cases_eq (f i) m))
    (λ i j lt in_k same. ⊎_elim
    (λ a. ⊎_elim (λ b. apart i j lt (omega arith) (a ∙ sym b)) (λ b. apart j k in_k (omega arith) (sym (sym (moved i a) ∙ same ∙ kept j b))) (cases_eq (f j) m))
    (λ a. ⊎_elim (λ b. apart i k (omega arith) (omega arith) (sym (kept i a) ∙ same ∙ moved j b)) (λ b. apart i j lt (omega arith) (sym (kept i a) ∙ same ∙ kept j b)) (cases_eq (f j) m))
    (cases_eq (f i) m)) in
    omega arith
  where
    ne_lt : (x y : ℕ) → x < suc y → (x ≡ y → ⊥) → x < y
    ne_lt x y le other = grind arith

-- Codes of one value are one letter: there are no more letters than values.
pub few_classes : (sets : List (ℕ → Bool)) (n m : ℕ) (v : ℕ → ℕ) → ((c : ℕ) → v c < m) → ((c d : ℕ) → v c ≡ v d → alike sets c d ≡ true) → length (classes sets n) ≤ m
few_classes sets n m v below same =
    let l = classes sets n in
    pigeonholes m (λ i. v (get_or l i 0)) (length l) (λ i lt. below (get_or l i 0))
    (λ i j lt in_l e.
    let one_class : i ≡ j =
    sym (class_of-first sets n i (omega arith)) ∙ class_of-same sets n (get_or l i 0) (get_or l j 0) (same (get_or l i 0) (get_or l j 0) e) ∙ class_of-first sets n j in_l in
    absurd (omega arith))

-- ---- kinds

-- One number for each way in which the three sets may hold a code.
value : Bool → Bool → Bool → ℕ
value true a b = 0
value false true b = 1
value false false true = 2
value false false false = 3

value_below : (l a b : Bool) → value l a b < 4
unfolding value
value_below true a b = omega arith
value_below false true b = omega arith
value_below false false true = omega arith
value_below false false false = omega arith

-- If the first set holds only one code, and the second set is a subset of the third.
value_tells : (l a b l' a' b' : Bool) → (l ≡ true → l' ≡ true → (a ≡ a') × (b ≡ b')) → (a ≡ true → b ≡ true) → (a' ≡ true → b' ≡ true)
    → value l a b ≡ value l' a' b' → (l ≡ l') × (a ≡ a') × (b ≡ b')
unfolding value
value_tells true a b true a' b' f g h e = (refl, (f refl refl).0, (f refl refl).1)
value_tells true a b false true b' f g h e = absurd (omega (arith, e))
value_tells true a b false false true f g h e = absurd (omega (arith, e))
value_tells true a b false false false f g h e = absurd (omega (arith, e))
value_tells false true b true a' b' f g h e = absurd (omega (arith, e))
value_tells false true b false true b' f g h e = (refl, refl, g refl ∙ sym (h refl))
value_tells false true b false false true f g h e = absurd (omega (arith, e))
value_tells false true b false false false f g h e = absurd (omega (arith, e))
value_tells false false true true a' b' f g h e = absurd (omega (arith, e))
value_tells false false true false true b' f g h e = absurd (omega (arith, e))
value_tells false false true false false true f g h e = (refl, refl, refl)
value_tells false false true false false false f g h e = absurd (omega (arith, e))
value_tells false false false true a' b' f g h e = absurd (omega (arith, e))
value_tells false false false false true b' f g h e = absurd (omega (arith, e))
value_tells false false false false false true f g h e = absurd (omega (arith, e))
value_tells false false false false false false f g h e = (refl, refl, refl)

kind_value : ℕ → ℕ
kind_value c = value (is_line_feed c) (is_word true c) (is_word false c)

kind_tells : (c d : ℕ) → kind_value c ≡ kind_value d → (is_line_feed c ≡ is_line_feed d) × (is_word true c ≡ is_word true d) × (is_word false c ≡ is_word false d)
unfolding kind_value
kind_tells c d e =
    value_tells (is_line_feed c) (is_word true c) (is_word false c) (is_line_feed d) (is_word true d) (is_word false d)
    (λ x y. let same : c ≡ d = eqb-true c 10 x ∙ sym (eqb-true d 10 y) in (ap (is_word true) same, ap (is_word false) same))
    (ascii_words_are_words c) (ascii_words_are_words d) e

one_set : (s : ℕ → Bool) (c d : ℕ) → s c ≡ s d → alike (s ∷ []) c d ≡ true
one_set s c d e = and_from (beq (s c) (s d)) true (beq-from (s c) (s d) e) refl

named_alike : (g : Guard) (c d : ℕ) → is_look g ≡ false → kind_value c ≡ kind_value d → alike (sets_named g) c d ≡ true
named_alike Start c d plain e = refl
named_alike LineStart c d plain e = one_set is_line_feed c d (kind_tells c d e).0
named_alike LineEnd c d plain e = one_set is_line_feed c d (kind_tells c d e).0
named_alike TextEnd c d plain e = refl
named_alike (Word true) c d plain e = one_set (is_word true) c d (kind_tells c d e).1
named_alike (Word false) c d plain e = one_set (is_word false) c d (kind_tells c d e).2
named_alike (NotWord true) c d plain e = one_set (is_word true) c d (kind_tells c d e).1
named_alike (NotWord false) c d plain e = one_set (is_word false) c d (kind_tells c d e).2
named_alike (Look behind negated ranges) c d plain e = absurd (false≢true (sym plain))

both_alike : (xs ys : List (ℕ → Bool)) (c d : ℕ) → alike xs c d ≡ true → alike ys c d ≡ true → alike (xs ++ ys) c d ≡ true
both_alike xs ys c d p q = alike-append xs ys c d ∙ and_from (alike xs c d) (alike ys c d) p q

-- Neither is, if not one of them is.
neither : (x y : Bool) → (x || y) ≡ false → (x ≡ false) × (y ≡ false)
neither true y e = absurd (false≢true (sym e))
neither false y e = (refl, e)

guards_alike : (t : Tree) → has_look t ≡ false → (c d : ℕ) → kind_value c ≡ kind_value d → alike (guard_sets t) c d ≡ true
guards_alike empty plain c d e = refl
guards_alike (one s) plain c d e = refl
guards_alike (guard g) plain c d e = named_alike g c d plain e
guards_alike (both x y) plain c d e =
    let parts = neither (has_look x) (has_look y) plain in
    both_alike (guard_sets x) (guard_sets y) c d (guards_alike x parts.0 c d e) (guards_alike y parts.1 c d e)
guards_alike (either x y) plain c d e =
    let parts = neither (has_look x) (has_look y) plain in
    both_alike (guard_sets x) (guard_sets y) c d (guards_alike x parts.0 c d e) (guards_alike y parts.1 c d e)
guards_alike (many x greedy) plain c d e = guards_alike x plain c d e

kind_below : (c : ℕ) → kind_value c < 4
unfolding kind_value
kind_below c = value_below (is_line_feed c) (is_word true c) (is_word false c)

pub few_kinds : (t : Tree) (n : ℕ) → has_look t ≡ false → length (kinds t n) ≤ 4
few_kinds t n plain = few_classes (guard_sets t) n 4 kind_value kind_below (guards_alike t plain)

-- Sets that distinguish more have no fewer classes.
finer_classes : (sets others : List (ℕ → Bool)) (n : ℕ) → Finer sets others → length (classes others n) ≤ length (classes sets n)
finer_classes sets others n finer =
    let l = classes others n in
    let code = λ (i : ℕ). get_or l i 0 in
    pigeonholes (length (classes sets n)) (λ i. class_of sets n (code i)) (length l)
    (λ i lt. class_of-lt sets n (code i) (classes-below others n i lt))
    (λ i j lt in_l e.
    let in_i : i < length l = omega arith in
    let together : alike sets (code i) (code j) ≡ true = class_of-only sets n (code i) (code j) (classes-below others n i in_i) (classes-below others n j in_l) e in
    let one_class : i ≡ j =
    sym (class_of-first others n i in_i) ∙ class_of-same others n (code i) (code j) (finer (code i) (code j) together) ∙ class_of-first others n j in_l in
    absurd (omega arith))

pub kinds_of_letters : (t : Tree) (n : ℕ) (sets : List (ℕ → Bool)) → Finer sets (all_sets t) → length (kinds t n) ≤ length (classes sets n)
kinds_of_letters t n sets finer = finer_classes sets (guard_sets t) n (Finer-right sets (sets_in t) (guard_sets t) finer)

-- ---- one kind

nil_left : (xs ys : List Guard) → xs ++ ys ≡ [] → xs ≡ []
nil_left [] ys e = refl
nil_left (x ∷ xs) ys e = cc

nil_right : (xs ys : List Guard) → xs ++ ys ≡ [] → ys ≡ []
nil_right [] ys e = e
nil_right (x ∷ xs) ys e = cc

no_guards_alike : (t : Tree) (c d : ℕ) → guards_in t ≡ [] → alike (guard_sets t) c d ≡ true
no_guards_alike empty c d e = refl
no_guards_alike (one s) c d e = refl
no_guards_alike (guard g) c d e = cc
no_guards_alike (both x y) c d e =
    both_alike (guard_sets x) (guard_sets y) c d (no_guards_alike x c d (nil_left (guards_in x) (guards_in y) e)) (no_guards_alike y c d (nil_right (guards_in x) (guards_in y) e))
no_guards_alike (either x y) c d e =
    both_alike (guard_sets x) (guard_sets y) c d (no_guards_alike x c d (nil_left (guards_in x) (guards_in y) e)) (no_guards_alike y c d (nil_right (guards_in x) (guards_in y) e))
no_guards_alike (many x greedy) c d e = no_guards_alike x c d e

pub one_kind : (t : Tree) (n : ℕ) → guards_in t ≡ [] → 0 < n → length (kinds t n) ≡ 1
one_kind t n e some =
    let most : length (kinds t n) ≤ 1 = few_classes (guard_sets t) n 1 (λ c. 0) (λ c. omega arith) (λ c d _. no_guards_alike t c d e) in
    omega (arith, class_of-lt (guard_sets t) n 0 some)

-- ---- states

places_size : (t : Tree) → places t ≤ size t
places_size empty = omega arith
places_size (one s) = omega arith
places_size (guard g) = omega arith
places_size (both e f) = omega (arith, places_size e, places_size f)
places_size (either e f) = omega (arith, places_size e, places_size f)
places_size (many e greedy) = omega (arith, places_size e)

size_grows : (t : Tree) (n : ℕ) → size t ≤ size t * suc (length (kinds t n))
size_grows t n = omega (arith, mul-le (size t) 1 (size t) (suc (length (kinds t n))) (omega arith) (omega arith))

pub size-measure : (t : Tree) (n : ℕ) → size t ≤ measure n t
size-measure t n =
    cond_both (has_look t) (size t * suc (length (kinds t n))) (size t) (λ m. size t ≤ m) (λ _. size_grows t n) (λ _. omega arith)

pub measure-size : (t : Tree) (n : ℕ) → has_look t ≡ false → measure n t ≡ size t
measure-size t n plain = cond-false (has_look t) (size t * suc (length (kinds t n))) (size t) plain

pub few_states : (t : Tree) (n : ℕ) → state_count t n ≤ 4 * measure n t + 3
few_states t n =
    let k = length (kinds t n) in
    cond_both (has_look t) (size t * suc k) (size t) (λ m. state_count t n ≤ 4 * m + 3)
    (λ _. omega (arith, mul-le (places t) k (size t) (suc k) (places_size t) (omega arith)))
    (λ plain. omega (arith, mul-le (places t) k (size t) 4 (places_size t) (few_kinds t n plain)))
