-- The steps of a double, letter by letter, and the properties that are looked at, as the numbers of the doubles.
use Rattle.std.proofs.Common.{◌≡◌, ◌≢◌, ◌∙◌, ℕ, ◌+◌, ◌<◌, ◌≤◌, ◌⊎◌, inl, inr, ◌↔◌, Bool, true, false, cond, ◌&&◌, nat_eq, eqb-true, eq-eqb, IsTrue, List, [], ◌∷◌, ◌++◌, length, get_or, take, drop, Option, Some, None, slice_get, refl, sym, ap, subst, arith, true≢false}
use Rattle.std.specs.HashMap.{get}
use Rattle.std.proofs.lemmas.Bool.{cases_lt, and_parts, and_from}
use Rattle.std.proofs.lemmas.List.{take_more, drop_more, take-append-drop}
use mathlib.Core.Path.{fun_ext}
use Rattle.indexmap.specs.IndexMap.{IndexMap}
use Rattle.rl_graph.specs.Paths.{Has, Each}
use Rattle.rl_graph.specs.Graph.{Graph, edges_of, IsWhole}
use Rattle.rl_graph.proofs.Sums.{Each-has, each-has, Pairs-push, Has-at}
use Rattle.rl_graph.proofs.GraphLaws.{bounded-whole}
use Rattle.rl_numbers.specs.declared.double.Double.{Double}
use Rattle.rl_numbers.specs.declared.doubling.Pair.{Pair}
use Rattle.rl_numbers.specs.contracts.doubling.PairPartialEq.TheImpl as pair
use Rattle.rl_numbers.specs.Doubled.{double_at, is_double, double_number, OnceEach, IsInside, AreDoubles, HasEqualDoubles, number_in, IsIndex}
use Rattle.rl_numbers.specs.internal.DoubledFalls.{FirstsFall, StepsFall, ApartsFall, LeavesFall, HoldsIn}
use Rattle.rl_numbers.proofs.StepLaws.{some-number, is-some, its-number}

-- Past the last letter there is no move.
no-row : (g : Graph) (q l count : ℕ) → IsWhole g → g.letters ≤ count → count ≤ l → edges_of g q l ≡ []
no-row g q l count whole le past = (bounded-whole g whole).letters q l (omega (arith, le, past))

pub all-letters : (g : Graph) (at : ℕ → ℕ → Option ℕ) (d : Double) (count : ℕ) → IsWhole g → g.letters ≤ count
    → ((l : ℕ) → l < count → FirstsFall at (d.number + 1) (edges_of g d.p l) (edges_of g d.q l)) → StepsFall (edges_of g) at d
all-letters g at d count whole le below l = by (cases_lt l count)
  where
    by : (l < count) ⊎ (count ≤ l) → FirstsFall at (d.number + 1) (edges_of g d.p l) (edges_of g d.q l)
    by (inl lt) = below l lt
    by (inr past) = λ x h. absurd (subst (Has x) (no-row g d.p l count whole le past) h)

pub all-leaves : (g : Graph) (at : ℕ → ℕ → Option ℕ) (d : Double) (count : ℕ) → IsWhole g → g.letters ≤ count
    → ((l : ℕ) → l < count → ApartsFall at d.number (edges_of g d.p l)) → (l : ℕ) → ApartsFall at d.number (edges_of g d.p l)
all-leaves g at d count whole le below l = by (cases_lt l count)
  where
    by : (l < count) ⊎ (count ≤ l) → ApartsFall at d.number (edges_of g d.p l)
    by (inl lt) = below l lt
    by (inr past) = λ i x at2. absurd (subst (Has x) (no-row g d.p l count whole le past) (Has-at (edges_of g d.p l) i x at2))

-- ---- the index

abbrev pub no_double : Double
no_double = record { p = 0; q = 0; number = 0 }

abbrev is_at : Double → ℕ → ℕ → Bool
is_at d p q = nat_eq d.p p && nat_eq d.q q

is_at-same : (d : Double) (p q : ℕ) → is_at d p q ≡ true → (d.p ≡ p) × (d.q ≡ q)
is_at-same d p q h = let a = and_parts (nat_eq d.p p) (nat_eq d.q q) h in (eqb-true d.p p a.0, eqb-true d.q q a.1)

same-is_at : (d : Double) (p q : ℕ) → d.p ≡ p → d.q ≡ q → is_at d p q ≡ true
same-is_at d p q a b = and_from (nat_eq d.p p) (nat_eq d.q q) (eq-eqb d.p p a) (eq-eqb d.q q b)

pub at-there : (l : List Double) (p q k : ℕ) → double_at l p q ≡ Some k → (d : Double) × Has d l × (d.p ≡ p) × (d.q ≡ q) × (d.number ≡ k)
at-there [] p q k h = cc
at-there (d ∷ l) p q k h = by (is_at d p q) refl h (at-there l p q k)
  where
    by : (b : Bool) → is_at d p q ≡ b → cond b (Some d.number) (double_at l p q) ≡ Some k → (double_at l p q ≡ Some k → (u : Double) × Has u l × (u.p ≡ p) × (u.q ≡ q) × (u.number ≡ k)) → (u : Double) × Has u (d ∷ l) × (u.p ≡ p) × (u.q ≡ q) × (u.number ≡ k)
    by true e h rest = let s = is_at-same d p q e in (d, inl refl, s.0, s.1, cc)
    by false e h rest = let u = rest h in (u.0, inr u.1, u.2, u.3, u.4)

at-held : (l : List Double) (d : Double) → Has d l → (k : ℕ) × (double_at l d.p d.q ≡ Some k)
at-held [] d h = absurd h
at-held (u ∷ l) d (inl e) = (u.number, ap (λ (b : Bool). cond b (Some u.number) (double_at l d.p d.q)) (same-is_at u d.p d.q (ap (λ (x : Double). x.p) (sym e)) (ap (λ (x : Double). x.q) (sym e))))
at-held (u ∷ l) d (inr h) = by (is_at u d.p d.q) (at-held l d h)
  where
    by : (b : Bool) → (k : ℕ) × (double_at l d.p d.q ≡ Some k) → (k : ℕ) × (cond b (Some u.number) (double_at l d.p d.q) ≡ Some k)
    by true r = (u.number, refl)
    by false r = r

pub at-once : (l : List Double) (d : Double) → OnceEach l → Has d l → double_at l d.p d.q ≡ Some d.number
at-once [] d once h = absurd h
at-once (u ∷ l) d once (inl e) =
    ap (λ (b : Bool). cond b (Some u.number) (double_at l d.p d.q)) (same-is_at u d.p d.q (ap (λ (x : Double). x.p) (sym e)) (ap (λ (x : Double). x.q) (sym e)))
    ∙ ap (λ (x : Double). Some x.number) (sym e)
at-once (u ∷ l) d once (inr h) = by (is_at u d.p d.q) refl (at-once l d once.1 h)
  where
    by : (b : Bool) → is_at u d.p d.q ≡ b → double_at l d.p d.q ≡ Some d.number → cond b (Some u.number) (double_at l d.p d.q) ≡ Some d.number
    by true e rest = let s = is_at-same u d.p d.q e in absurd (Each-has (λ (x : Double). u.p ≡ x.p → u.q ≡ x.q → ⊥) d l once.0 h s.0 s.1)
    by false e rest = rest

at-push : (l : List Double) (d : Double) (p q : ℕ) → double_at l d.p d.q ≡ None → double_at (l ++ d ∷ []) p q ≡ cond (is_at d p q) (Some d.number) (double_at l p q)
at-push [] d p q none = refl
at-push (u ∷ l) d p q none = by (is_at u d.p d.q) refl none (at-push l d p q)
  where
    both : (b : Bool) (c : Bool) → is_at u p q ≡ b → is_at d p q ≡ c → (is_at u d.p d.q ≡ true → ⊥) → double_at (l ++ d ∷ []) p q ≡ cond c (Some d.number) (double_at l p q) → cond b (Some u.number) (double_at (l ++ d ∷ []) p q) ≡ cond c (Some d.number) (cond b (Some u.number) (double_at l p q))
    both false c e h ne rest = rest
    both true false e h ne rest = refl
    both true true e h ne rest = let s = is_at-same u p q e in let z = is_at-same d p q h in absurd (ne (same-is_at u d.p d.q (s.0 ∙ sym z.0) (s.1 ∙ sym z.1)))

    not-true : (b : Bool) → b ≡ false → b ≡ true → ⊥
    not-true b e h = true≢false (sym h ∙ e)

    by : (b : Bool) → is_at u d.p d.q ≡ b → cond b (Some u.number) (double_at l d.p d.q) ≡ None → (double_at l d.p d.q ≡ None → double_at (l ++ d ∷ []) p q ≡ cond (is_at d p q) (Some d.number) (double_at l p q))
        → cond (is_at u p q) (Some u.number) (double_at (l ++ d ∷ []) p q) ≡ cond (is_at d p q) (Some d.number) (cond (is_at u p q) (Some u.number) (double_at l p q))
    by true e h rest = cc
    by false e h rest = both (is_at u p q) (is_at d p q) refl refl (not-true (is_at u d.p d.q) e) (rest h)

module _ {S : Type 0} (m n : IndexMap Pair ℕ S) (l : List Double) (i : ℕ) (lt : i < length l) where
  front : take (i + 1) l ≡ take i l ++ get_or l i no_double ∷ []
  front = take_more l i no_double lt

  pub index-more : number_in m (get_or l i no_double).p (get_or l i no_double).q ≡ None → IsIndex (take i l) m
      → ((q : Pair) → get pair.eq-value.it n q ≡ cond (pair.eq-value.it (record { p = (get_or l i no_double).p; q = (get_or l i no_double).q }) q) (Some (get_or l i no_double).number) (get pair.eq-value.it m q)) → IsIndex (take (i + 1) l) n
  index-more none index puts p q =
      let d : Double = get_or l i no_double in
      let here : Pair = record { p = p; q = q } in
      let at_d : double_at (take i l) d.p d.q ≡ None = sym (index d.p d.q) ∙ none in
      puts here
      ∙ ((λ j. cond (nat_eq d.p p && nat_eq d.q q) (Some d.number) (index p q j))
      ∙ (sym (at-push (take i l) d p q at_d) ∙ ap (λ (x : List Double). double_at x p q) (sym front)))

  pub once-more : double_at (take i l) (get_or l i no_double).p (get_or l i no_double).q ≡ None → OnceEach (take i l) → OnceEach (take (i + 1) l)
  once-more none once = subst OnceEach (sym front) (Pairs-push (λ (x u : Double). x.p ≡ u.p → x.q ≡ u.q → ⊥) (take i l) (get_or l i no_double) once apart)
    where
      apart : (x : Double) → Has x (take i l) → x.p ≡ (get_or l i no_double).p → x.q ≡ (get_or l i no_double).q → ⊥
      apart x h a b =
          let k = at-held (take i l) x h in
          let both : None ≡ Some k.0 = sym none ∙ ((λ j. double_at (take i l) (sym a j) (sym b j)) ∙ k.1) in
          cc

  pub not-once : (k : ℕ) → double_at (take i l) (get_or l i no_double).p (get_or l i no_double).q ≡ Some k → OnceEach l → ⊥
  not-once k found once =
      let u = at-there (take i l) (get_or l i no_double).p (get_or l i no_double).q k found in
      pairs-split (take i l) (drop (i + 1) l) (get_or l i no_double) u.0 (subst OnceEach parts once) u.1 u.2 u.3
    where
      parts : l ≡ take i l ++ get_or l i no_double ∷ drop (i + 1) l
      parts = sym (take-append-drop i l) ∙ ap (λ (x : List Double). take i l ++ x) (drop_more l i no_double lt)

      pairs-split : (xs ys : List Double) (t x : Double) → OnceEach (xs ++ t ∷ ys) → Has x xs → x.p ≡ t.p → x.q ≡ t.q → ⊥
      pairs-split [] ys t x p h = absurd h
      pairs-split (z ∷ xs) ys t x p (inl e) = λ a b. Each-has (λ (u : Double). z.p ≡ u.p → z.q ≡ u.q → ⊥) t (xs ++ t ∷ ys) p.0 (last xs ys) (ap (λ (v : Double). v.p) (sym e) ∙ a) (ap (λ (v : Double). v.q) (sym e) ∙ b)
        where
          last : (xs ys : List Double) → Has t (xs ++ t ∷ ys)
          last [] ys = inl refl
          last (z ∷ xs) ys = inr (last xs ys)
      pairs-split (z ∷ xs) ys t x p (inr h) = pairs-split xs ys t x p.1 h

-- ---- the numbers

each-part : {A : Type 0} (P Q : A → Type 0) (l : List A) → ((x : A) → P x → Q x) → Each P l → Each Q l
each-part P Q [] f h = tt
each-part P Q (x ∷ l) f h = (f x h.0, each-part P Q l f h.1)

pub all-decide : (g : Graph) (at : ℕ → ℕ → Option ℕ) (l : List Double) → ((x y : ℕ) → at x y ≡ double_at l x y) → OnceEach l
    → (Each (HoldsIn (edges_of g) g.states at) l × HasEqualDoubles g.states at) ↔ AreDoubles (edges_of g) g.states l
all-decide g at l same once = (there, back)
  where
    is : at ≡ double_at l
    is = fun_ext (λ x. fun_ext (λ y. same x y))

    there : Each (HoldsIn (edges_of g) g.states at) l × HasEqualDoubles g.states at → AreDoubles (edges_of g) g.states l
    there h = made (subst (λ (f : ℕ → ℕ → Option ℕ). Each (HoldsIn (edges_of g) g.states f) l × HasEqualDoubles g.states f) is h)
      where
        made : Each (HoldsIn (edges_of g) g.states (double_at l)) l × HasEqualDoubles g.states (double_at l) → AreDoubles (edges_of g) g.states l
        made k = record {
          once = once;
          inside = each-part (HoldsIn (edges_of g) g.states (double_at l)) (IsInside g.states) l (λ t x. x.0) k.0;
          numbers = record {
            equal = k.1;
            closed = λ p q l2 x y held hx hy. let r = step k.0 p q l2 x y held hx hy in is-some (double_at l x y) r.0 r.1;
            never_rises = λ p q l2 x y held hx hy. let r = step k.0 p q l2 x y held hx hy in let e = its-number (double_at l x y) r.0 r.1 in omega (arith, e, r.2);
            falls = λ r l2 i j x y lt ne ei ej. let s = leave k.0 k.1 r l2 i j x y lt ne ei ej in let e = its-number (double_at l x y) s.0 s.1 in omega (arith, e, s.2);
          };
        }
          where
            step : Each (HoldsIn (edges_of g) g.states (double_at l)) l → (p q l2 x y : ℕ) → IsTrue (is_double l p q) → Has x (edges_of g p l2) → Has y (edges_of g q l2) → (k : ℕ) × (double_at l x y ≡ Some k) × (k ≤ double_number l p q)
            step each p q l2 x y held hx hy =
                let some = some-number (double_at l p q) held in
                let t = at-there l p q some.0 some.1 in
                let holds = Each-has (HoldsIn (edges_of g) g.states (double_at l)) t.0 l each t.1 in
                let k = holds.1 l2 x (subst (λ (s : ℕ). Has x (edges_of g s l2)) (sym t.2) hx) y (subst (λ (s : ℕ). Has y (edges_of g s l2)) (sym t.3) hy) in
                (k.0, k.1, omega (arith, k.2, t.4, some.2))

            leave : Each (HoldsIn (edges_of g) g.states (double_at l)) l → HasEqualDoubles g.states (double_at l) → (r l2 i j x y : ℕ) → r < g.states → i ≢ j → slice_get (edges_of g r l2) i ≡ Some x → slice_get (edges_of g r l2) j ≡ Some y → (k : ℕ) × (double_at l x y ≡ Some k) × (k < double_number l r r)
            leave each equal r l2 i j x y lt ne ei ej =
                let some = some-number (double_at l r r) (equal r lt) in
                let t = at-there l r r some.0 some.1 in
                let holds = Each-has (HoldsIn (edges_of g) g.states (double_at l)) t.0 l each t.1 in
                let k = holds.2 (t.2 ∙ sym t.3) l2 i x (subst (λ (s : ℕ). slice_get (edges_of g s l2) i ≡ Some x) (sym t.2) ei) j y ne (subst (λ (s : ℕ). slice_get (edges_of g s l2) j ≡ Some y) (sym t.2) ej) in
                (k.0, k.1, omega (arith, k.2, t.4, some.2))

    back : AreDoubles (edges_of g) g.states l → Each (HoldsIn (edges_of g) g.states at) l × HasEqualDoubles g.states at
    back are =
        subst (λ (f : ℕ → ℕ → Option ℕ). Each (HoldsIn (edges_of g) g.states f) l × HasEqualDoubles g.states f) (sym is)
        (each-has (HoldsIn (edges_of g) g.states (double_at l)) l (λ t i. (Each-has (IsInside g.states) t l are.inside i, steps t i, leaves t i)), are.numbers.equal)
      where
        steps : (t : Double) → Has t l → StepsFall (edges_of g) (double_at l) t
        steps t h l2 x hx y hy =
            let own = at-once l t are.once h in
            let held = is-some (double_at l t.p t.q) t.number own in
            let there = some-number (double_at l x y) (are.numbers.closed t.p t.q l2 x y held hx hy) in
            (there.0, there.1, omega (arith, are.numbers.never_rises t.p t.q l2 x y held hx hy, there.2, its-number (double_at l t.p t.q) t.number own))

        leaves : (t : Double) → Has t l → LeavesFall (edges_of g) (double_at l) t
        leaves t h same l2 i x ei j y ne ej =
            let own = at-once l t are.once h in
            let own2 : double_at l t.p t.p ≡ Some t.number = subst (λ (s : ℕ). double_at l t.p s ≡ Some t.number) (sym same) own in
            let in_range = (Each-has (IsInside g.states) t l are.inside h).0 in
            let hx = Has-at (edges_of g t.p l2) i x ei in
            let hy = Has-at (edges_of g t.p l2) j y ej in
            let there = some-number (double_at l x y) (are.numbers.closed t.p t.p l2 x y (is-some (double_at l t.p t.p) t.number own2) hx hy) in
            (there.0, there.1, omega (arith, are.numbers.falls t.p l2 i j x y in_range ne ei ej, there.2, its-number (double_at l t.p t.p) t.number own2))
