-- The first thread in each state, found from the first thread on: a thread is added if none is in its state yet.
use Rattle.std.proofs.Common.{◌≡◌, ℕ, zero, suc, ◌+◌, ◌<◌, ◌≤◌, length, get_or, drop, Bool, true, false, ◌==◌, ◌||◌, List, [], ◌∷◌, ◌++◌, refl, sym, ap, subst, ◌∙◌, arith, append_assoc, append-nil}
use Rattle.std.proofs.lemmas.Bool.{cond-true, cond-false}
use Rattle.std.proofs.lemmas.Bool.Decides.{nat_tests}
use Rattle.std.proofs.lemmas.List.{drop_more}
use Rattle.rl_marks.specs.declared.threads.Thread.{Thread}
use Rattle.rl_marks.specs.internal.Threads.{without, distinct}
use Rattle.rl_spans.specs.internal.Among.{is_among}

-- ---- one state left out

here : (q : ℕ) (t : Thread) (l : List Thread) → q == t.state ≡ true → without q (t ∷ l) ≡ without q l
here q t l e = cond-true (q == t.state) (without q l) (t ∷ without q l) e

there : (q : ℕ) (t : Thread) (l : List Thread) → q == t.state ≡ false → without q (t ∷ l) ≡ t ∷ without q l
there q t l e = cond-false (q == t.state) (without q l) (t ∷ without q l) e

without-twice : (q : ℕ) (l : List Thread) → without q (without q l) ≡ without q l
without-twice q [] = refl
without-twice q (t ∷ l) = by (without-twice q l) (q == t.state) refl
  where
    by : without q (without q l) ≡ without q l → (b : Bool) → q == t.state ≡ b → without q (without q (t ∷ l)) ≡ without q (t ∷ l)
    by h true e = ap (without q) (here q t l e) ∙ h ∙ sym (here q t l e)
    by h false e = ap (without q) (there q t l e) ∙ there q t (without q l) e ∙ ap (λ x. t ∷ x) h ∙ sym (there q t l e)

without-swap : (p q : ℕ) (l : List Thread) → without p (without q l) ≡ without q (without p l)
without-swap p q [] = refl
without-swap p q (t ∷ l) = by (without-swap p q l) (p == t.state) (q == t.state) refl refl
  where
    by : without p (without q l) ≡ without q (without p l) → (a b : Bool) → p == t.state ≡ a → q == t.state ≡ b
        → without p (without q (t ∷ l)) ≡ without q (without p (t ∷ l))
    by h true true e f = ap (without p) (here q t l f) ∙ h ∙ sym (ap (without q) (here p t l e))
    by h true false e f = ap (without p) (there q t l f) ∙ here p t (without q l) e ∙ h ∙ sym (ap (without q) (here p t l e))
    by h false true e f =
        ap (without p) (here q t l f) ∙ h ∙ sym (here q t (without p l) f) ∙ sym (ap (without q) (there p t l e))
    by h false false e f =
        ap (without p) (there q t l f) ∙ there p t (without q l) e ∙ ap (λ x. t ∷ x) h
        ∙ sym (there q t (without p l) f) ∙ sym (ap (without q) (there p t l e))

-- ---- the states of a list left out

-- The threads of the second list in states that none of the first has.
abbrev pub without_all : List Thread → List Thread → List Thread
without_all [] x = x
without_all (s ∷ l) x = without s.state (without_all l x)

all-none : (l : List Thread) → without_all l [] ≡ []
all-none [] = refl
all-none (s ∷ l) = ap (without s.state) (all-none l)

all-more : (l : List Thread) (t : Thread) (x : List Thread) → without_all (l ++ t ∷ []) x ≡ without_all l (without t.state x)
all-more [] t x = refl
all-more (s ∷ l) t x = ap (without s.state) (all-more l t x)

all-swap : (l : List Thread) (q : ℕ) (x : List Thread) → without_all l (without q x) ≡ without q (without_all l x)
all-swap [] q x = refl
all-swap (s ∷ l) q x = ap (without s.state) (all-swap l q x) ∙ without-swap s.state q (without_all l x)

neither : (a b : Bool) → (a || b) ≡ false → (a ≡ false) × (b ≡ false)
neither false false e = (refl, refl)
neither true b e = cc
neither false true e = cc

first-one : (a b : Bool) → (a || b) ≡ true → b ≡ false → a ≡ true
first-one true b e f = refl
first-one false true e f = cc
first-one false false e f = cc

all-new : (l : List Thread) (t : Thread) (y : List Thread) → is_among t.state l ≡ false → without_all l (t ∷ y) ≡ t ∷ without_all l y
all-new [] t y e = refl
all-new (s ∷ l) t y e =
    let p = neither (s.state == t.state) (is_among t.state l) e in
    ap (without s.state) (all-new l t y p.1) ∙ there s.state t (without_all l y) p.0

all-old : (l : List Thread) (t : Thread) (y : List Thread) → is_among t.state l ≡ true → without_all l (t ∷ y) ≡ without_all l y
all-old [] t y e = cc
all-old (s ∷ l) t y e = by (all-old l t y) (is_among t.state l) refl
  where
    by : (is_among t.state l ≡ true → without_all l (t ∷ y) ≡ without_all l y) → (b : Bool) → is_among t.state l ≡ b
        → without_all (s ∷ l) (t ∷ y) ≡ without_all (s ∷ l) y
    by h true f = ap (without s.state) (h f)
    by h false f =
        ap (without s.state) (all-new l t y f)
        ∙ here s.state t (without_all l y) (first-one (s.state == t.state) (is_among t.state l) e f)

all-twice : (l : List Thread) (q : ℕ) (x : List Thread) → is_among q l ≡ true → without q (without_all l x) ≡ without_all l x
all-twice [] q x e = cc
all-twice (s ∷ l) q x e = by (all-twice l q x) (is_among q l) refl
  where
    by : (is_among q l ≡ true → without q (without_all l x) ≡ without_all l x) → (b : Bool) → is_among q l ≡ b
        → without q (without_all (s ∷ l) x) ≡ without_all (s ∷ l) x
    by h true f = without-swap q s.state (without_all l x) ∙ ap (without s.state) (h f)
    by h false f =
        let test : s.state == q ≡ true = first-one (s.state == q) (is_among q l) e f in
        let same : s.state ≡ q = grind (arith, nat_tests) in
        subst (λ p. without p (without s.state (without_all l x)) ≡ without s.state (without_all l x)) same
        (without-twice s.state (without_all l x))

-- ---- the loop

-- The thread is in a new state and is added.
pub distinct-new : (list next : List Thread) (t : Thread) (rest whole : List Thread) → is_among t.state list ≡ false → next ≡ list ++ t ∷ []
    → list ++ without_all list (distinct (t ∷ rest)) ≡ whole → next ++ without_all next (distinct rest) ≡ whole
distinct-new list next t rest whole new more h =
    ap (λ l. l ++ without_all l (distinct rest)) more
    ∙ append_assoc list (t ∷ []) (without_all (list ++ t ∷ []) (distinct rest))
    ∙ ap (λ l. list ++ t ∷ l) (all-more list t (distinct rest))
    ∙ sym (ap (λ l. list ++ l) (all-new list t (without t.state (distinct rest)) new))
    ∙ h

-- The list has a thread in the state already.
pub distinct-old : (list : List Thread) (t : Thread) (rest whole : List Thread) → is_among t.state list ≡ true
    → list ++ without_all list (distinct (t ∷ rest)) ≡ whole → list ++ without_all list (distinct rest) ≡ whole
distinct-old list t rest whole old h =
    sym (ap (λ l. list ++ l) (all-old list t (without t.state (distinct rest)) old ∙ all-swap list t.state (distinct rest) ∙ all-twice list t.state (distinct rest) old))
    ∙ h

module _ (list threads : List Thread) (i : ℕ) (t : Thread) (lt : i < length threads) (is : t ≡ get_or threads i t) (has : Bool) where
  front : drop i threads ≡ t ∷ drop (i + 1) threads
  front = drop_more threads i t lt ∙ ap (λ x. x ∷ drop (i + 1) threads) (sym is)

  -- The thread at the index is in a new state and is added.
  pub distinct-more : (copy : Thread) (next : List Thread) → has ≡ is_among t.state list → has ≡ false → copy ≡ t → next ≡ list ++ copy ∷ []
      → list ++ without_all list (distinct (drop i threads)) ≡ distinct threads → next ++ without_all next (distinct (drop (i + 1) threads)) ≡ distinct threads
  distinct-more copy next among new same more h =
      distinct-new list next t (drop (i + 1) threads) (distinct threads) (sym among ∙ new) (more ∙ ap (λ x. list ++ x ∷ []) same)
      (sym (ap (λ l. list ++ without_all list (distinct l)) front) ∙ h)

  -- The list has a thread in its state already.
  pub distinct-past : (next : List Thread) → has ≡ is_among t.state list → has ≡ true → next ≡ list
      → list ++ without_all list (distinct (drop i threads)) ≡ distinct threads → next ++ without_all next (distinct (drop (i + 1) threads)) ≡ distinct threads
  distinct-past next among old same h =
      ap (λ l. l ++ without_all l (distinct (drop (i + 1) threads))) same
      ∙ distinct-old list t (drop (i + 1) threads) (distinct threads) (sym among ∙ old)
      (sym (ap (λ l. list ++ without_all list (distinct l)) front) ∙ h)

none-left : (threads : List Thread) (i : ℕ) → length threads ≤ i → drop i threads ≡ []
none-left [] zero h = refl
none-left [] (suc i) h = refl
none-left (t ∷ l) zero h = absurd (omega (arith, h))
none-left (t ∷ l) (suc i) h = none-left l i (omega (arith, h))

-- No thread is left.
pub distinct-end : (list threads : List Thread) (i : ℕ) → length threads ≤ i → list ++ without_all list (distinct (drop i threads)) ≡ distinct threads
    → list ≡ distinct threads
distinct-end list threads i past h =
    sym (append-nil list) ∙ ap (λ l. list ++ l) (sym (all-none list))
    ∙ sym (ap (λ l. list ++ without_all list (distinct l)) (none-left threads i past)) ∙ h
