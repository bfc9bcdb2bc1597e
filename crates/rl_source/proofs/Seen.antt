-- Lemmas about names that occur twice, and about a set of the names seen so far.
use Rattle.std.proofs.Common.{◌≡◌, ℕ, ◌+◌, ◌<◌, Bool, true, false, ◌||◌, not, cond, List, [], ◌∷◌, ◌++◌, length, take, drop, get_or, subst, take-append-drop, refl, sym, ap, ◌∙◌, Bor, ⊎_elim}
use Rattle.std.specs.List.{list_any}
use Rattle.std.specs.Str.{bytes_eq}
use Rattle.std.specs.Ordering.{nat_cmp}
use Rattle.std.specs.Cmp.Lexicographic.{slice_cmp}
use Rattle.std.specs.declared.cmp.Ordering.{Ordering}
use Rattle.std.specs.BTreeSet.{BTreeSet, contains, Updates}
use Rattle.std.proofs.lemmas.Bool.{false≢true, or_cases, not-true, not-false}
use Rattle.std.proofs.lemmas.Bool.Decides.{same_from_decides}
use Rattle.std.proofs.lemmas.List.Folds.{list_any-append}
use Rattle.std.proofs.lemmas.List.{take_more}
use Rattle.std.proofs.lemmas.Map.Text.{is_eq-slice_cmp}
use Rattle.std.proofs.lemmas.Slice.Eq.{bytes_eq-Decides}
use Rattle.rl_source.specs.Distinct.{has_double}

-- The order of texts.
abbrev pub text_order : Bor (List ℕ) → Bor (List ℕ) → Ordering
text_order x y = slice_cmp nat_cmp x.now y.now

-- The set holds the keys of `xs`, which are all different.
pub record Seen {X : Type 0} (key : X → List ℕ) (xs : List X) (seen : BTreeSet (Bor (List ℕ))) : Type 0 where
  pub each : (q : Bor (List ℕ)) → contains text_order seen q ≡ list_any (λ x. bytes_eq (key x) q.now) xs
  pub once : has_double key xs ≡ false

bytes_eq-sym : (xs ys : List ℕ) → bytes_eq xs ys ≡ bytes_eq ys xs
bytes_eq-sym xs ys = same_from_decides _ _ (bytes_eq-Decides xs ys)
    ((λ e. sym ((bytes_eq-Decides ys xs).0 e)), (λ e. (bytes_eq-Decides ys xs).1 (sym e)))

or_left : (a b : Bool) → a ≡ true → (a || b) ≡ true
or_left a b e = ap (λ c. c || b) e

or_right : (a b : Bool) → b ≡ true → (a || b) ≡ true
or_right true b e = refl
or_right false b e = e

or_swap : (a b l d : Bool) → ((a || (b || false)) || (l || d)) ≡ ((b || l) || (a || d))
or_swap true true l d = refl
or_swap true false true d = refl
or_swap true false false d = refl
or_swap false true l d = refl
or_swap false false l d = refl

or_last : (b l : Bool) → cond b true l ≡ (l || (b || false))
or_last true true = refl
or_last true false = refl
or_last false true = refl
or_last false false = refl

pub has_double-push : {X : Type 0} (key : X → List ℕ) (xs : List X) (x : X)
    → has_double key (xs ++ x ∷ []) ≡ (list_any (λ y. bytes_eq (key y) (key x)) xs || has_double key xs)
has_double-push key [] x = refl
has_double-push key (y ∷ ys) x =
    ap (λ a. a || has_double key (ys ++ x ∷ [])) (list_any-append (λ z. bytes_eq (key z) (key y)) ys (x ∷ []))
    ∙ ap (λ a. (list_any (λ z. bytes_eq (key z) (key y)) ys || (bytes_eq (key x) (key y) || false)) || a) (has_double-push key ys x)
    ∙ ap (λ a. (list_any (λ z. bytes_eq (key z) (key y)) ys || (a || false)) || (list_any (λ z. bytes_eq (key z) (key x)) ys || has_double key ys)) (bytes_eq-sym (key x) (key y))
    ∙ or_swap (list_any (λ z. bytes_eq (key z) (key y)) ys) (bytes_eq (key y) (key x)) (list_any (λ z. bytes_eq (key z) (key x)) ys) (has_double key ys)

pub has_double-front : {X : Type 0} (key : X → List ℕ) (xs ys : List X) → has_double key xs ≡ true → has_double key (xs ++ ys) ≡ true
has_double-front key [] ys h = absurd (false≢true h)
has_double-front key (x ∷ xs) ys h =
    ⊎_elim
    (λ e. or_left _ _ (list_any-append (λ y. bytes_eq (key y) (key x)) xs ys ∙ or_left _ _ e))
    (λ e. or_right _ _ (has_double-front key xs ys e))
    (or_cases (list_any (λ y. bytes_eq (key y) (key x)) xs) (has_double key xs) h)

pub Seen-more : {X : Type 0} (key : X → List ℕ) (xs : List X) (x : X) (seen new : BTreeSet (Bor (List ℕ))) (t : Bor (List ℕ))
    → Seen key xs seen → Updates text_order seen new t true → t.now ≡ key x → contains text_order seen t ≡ false
    → Seen key (xs ++ x ∷ []) new
Seen-more key xs x seen new t s u e absent = record {
  each = λ q. u.0 q
      ∙ ap (λ b. cond b true (contains text_order seen q)) (is_eq-slice_cmp t.now q.now)
      ∙ ap (λ l. cond (bytes_eq t.now q.now) true l) (s.each q)
      ∙ ap (λ n. cond (bytes_eq n q.now) true (list_any (λ y. bytes_eq (key y) q.now) xs)) e
      ∙ or_last (bytes_eq (key x) q.now) (list_any (λ y. bytes_eq (key y) q.now) xs)
      ∙ sym (list_any-append (λ y. bytes_eq (key y) q.now) xs (x ∷ []));
  once = has_double-push key xs x
      ∙ ap (λ a. a || has_double key xs) (ap (λ n. list_any (λ y. bytes_eq (key y) n) xs) (sym e) ∙ sym (s.each t) ∙ absent)
      ∙ s.once;
}

pub Seen-double : {X : Type 0} (key : X → List ℕ) (xs : List X) (x : X) (rest : List X) (seen : BTreeSet (Bor (List ℕ))) (t : Bor (List ℕ))
    → Seen key xs seen → t.now ≡ key x → contains text_order seen t ≡ true
    → has_double key ((xs ++ x ∷ []) ++ rest) ≡ true
Seen-double key xs x rest seen t s e present =
    has_double-front key (xs ++ x ∷ []) rest
    (has_double-push key xs x
    ∙ ap (λ a. a || has_double key xs) (ap (λ n. list_any (λ y. bytes_eq (key y) n) xs) (sym e) ∙ sym (s.each t) ∙ present))

-- The first `i` items and the item at `i` are the first `i + 1` items.
take_item : {X : Type 0} (xs : List X) (i : ℕ) (x : X) → i < length xs → x ≡ get_or xs i x → take (i + 1) xs ≡ take i xs ++ x ∷ []
take_item xs i x h e = take_more xs i x h ∙ ap (λ y. take i xs ++ y ∷ []) (sym e)

-- A round of the loop that saw a new key.
pub Seen-turn : {X : Type 0} (key : X → List ℕ) (xs : List X) (i : ℕ) (x : X) (seen new : BTreeSet (Bor (List ℕ))) (t : Bor (List ℕ)) (added : Bool)
    → i < length xs → x ≡ get_or xs i x → t.now ≡ key x → Seen key (take i xs) seen
    → added ≡ not (contains text_order seen t) → added ≡ true → Updates text_order seen new t true
    → Seen key (take (i + 1) xs) new
Seen-turn key xs i x seen new t added h is e s tells new_key u =
    subst (λ zs. Seen key zs new) (sym (take_item xs i x h is))
    (Seen-more key (take i xs) x seen new t s u e (not-true _ (sym tells ∙ new_key)))

-- A round of the loop that met a key again.
pub Seen-met : {X : Type 0} (key : X → List ℕ) (xs : List X) (i : ℕ) (x : X) (seen : BTreeSet (Bor (List ℕ))) (t : Bor (List ℕ)) (added : Bool)
    → i < length xs → x ≡ get_or xs i x → t.now ≡ key x → Seen key (take i xs) seen
    → added ≡ not (contains text_order seen t) → added ≡ false
    → true ≡ has_double key xs
Seen-met key xs i x seen t added h is e s tells old_key =
    let double = Seen-double key (take i xs) x (drop (i + 1) xs) seen t s e (not-false _ (sym tells ∙ old_key)) in
    sym (ap (has_double key) (sym (take-append-drop (i + 1) xs) ∙ ap (λ l. l ++ drop (i + 1) xs) (take_item xs i x h is)) ∙ double)
