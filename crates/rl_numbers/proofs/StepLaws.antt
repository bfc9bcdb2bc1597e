-- The steps of a triple, letter by letter, and the properties that are looked at, as the numbers of the triples.
use Rattle.std.proofs.Common.{◌≡◌, ◌≢◌, ◌∙◌, ℕ, ◌<◌, ◌≤◌, ◌⊎◌, inl, inr, ◌↔◌, IsTrue, List, [], ◌∷◌, Option, Some, None, is_some, get_or, refl, sym, ap, subst, arith, true≢false}
use Rattle.std.specs.Option.{option_map_or}
use Rattle.std.proofs.lemmas.Bool.{cases_lt}
use Rattle.rl_graph.specs.Paths.{Has, Each}
use Rattle.rl_graph.specs.Graph.{Graph, edges_of, IsWhole}
use Rattle.rl_graph.specs.Parts.{PartTable, IsParts}
use Rattle.rl_graph.proofs.Sums.{Each-has, each-has}
use mathlib.Core.Path.{fun_ext}
use Rattle.rl_graph.proofs.GraphLaws.{bounded-whole}
use Rattle.rl_numbers.specs.declared.triple.Triple.{Triple}
use Rattle.rl_numbers.specs.Level.{table_of}
use Rattle.rl_numbers.specs.internal.Inner.{IsInner}
use Rattle.rl_numbers.specs.Numbered.{triple_at, is_triple, triple_number, OnceEach, IsLevel, AreTriples}
use Rattle.rl_numbers.specs.internal.NumberedFalls.{FirstsFall, StepsFall, IsApart, HasSplitStarts, HoldsIn, AllHold}
use Rattle.rl_numbers.proofs.IndexLaws.{at-there, at-once}

-- Past the last letter there is no move.
pub all-letters : (g : Graph) (at : ℕ → ℕ → ℕ → Option ℕ) (rank : ℕ → ℕ) (t : Triple) (count : ℕ) → IsWhole g → g.letters ≤ count
    → ((l : ℕ) → l < count → FirstsFall at rank (rank t.p) t.number (edges_of g t.p l) (edges_of g t.q l) (edges_of g t.r l)) → StepsFall (edges_of g) at rank t
all-letters g at rank t count whole le below l = by (cases_lt l count)
  where
    by : (l < count) ⊎ (count ≤ l) → FirstsFall at rank (rank t.p) t.number (edges_of g t.p l) (edges_of g t.q l) (edges_of g t.r l)
    by (inl lt) = below l lt
    by (inr past) = λ x h. absurd (nothing (edges_of g t.p l) ((bounded-whole g whole).letters t.p l (omega (arith, le, past))) x h)
      where
        nothing : (r : List ℕ) → r ≡ [] → (x : ℕ) → Has x r → ⊥
        nothing r e x i = subst (Has x) e i

pub some-number : (o : Option ℕ) → IsTrue (is_some o) → (k : ℕ) × (o ≡ Some k) × (option_map_or (λ n. n) o 0 ≡ k)
some-number None h = absurd (true≢false (sym h))
some-number (Some k) h = (k, refl, refl)

pub is-some : (o : Option ℕ) (k : ℕ) → o ≡ Some k → IsTrue (is_some o)
is-some None k e = cc
is-some (Some j) k e = refl

pub its-number : (o : Option ℕ) (k : ℕ) → o ≡ Some k → option_map_or (λ n. n) o 0 ≡ k
its-number None k e = cc
its-number (Some j) k e = cc

module _ (next : ℕ → ℕ → List ℕ) (n : ℕ) (rank : ℕ → ℕ) (l : List Triple) where
  -- What is looked at, triple by triple, makes the numbers right.
  pub triples_shown : OnceEach l → Each (IsLevel n rank) l → Each (StepsFall next (triple_at l) rank) l → Each (IsApart (triple_at l)) l → HasSplitStarts next n (triple_at l) rank → AreTriples next n rank l
  triples_shown once levels steps apart starts = record {
    once = once;
    levels = levels;
    numbers = record { starts = starts; closed = closed; never_rises = never; apart = greater };
  }
    where
      -- What a step of a held triple leads to.
      step : (p q r l2 x y z : ℕ) → IsTrue (is_triple l p q r) → Has x (next p l2) → Has y (next q l2) → Has z (next r l2) → rank x ≡ rank p → rank y ≡ rank p → rank z ≡ rank p
          → (k : ℕ) × (triple_at l x y z ≡ Some k) × (k ≤ triple_number l p q r)
      step p q r l2 x y z held hx hy hz rx ry rz =
          let some = some-number (triple_at l p q r) held in
          let t = at-there l p q r some.0 some.1 in
          let falls = Each-has (StepsFall next (triple_at l) rank) t.0 l steps t.1 in
          let k = falls l2 x (subst (λ (s : ℕ). Has x (next s l2)) (sym t.2) hx) (rx ∙ ap rank (sym t.2)) y (subst (λ (s : ℕ). Has y (next s l2)) (sym t.3) hy) (ry ∙ ap rank (sym t.2)) z (subst (λ (s : ℕ). Has z (next s l2)) (sym t.4) hz) (rz ∙ ap rank (sym t.2)) in
          (k.0, k.1, omega (arith, k.2, t.5, some.2))

      closed : (p q r l2 x y z : ℕ) → IsTrue (is_triple l p q r) → Has x (next p l2) → Has y (next q l2) → Has z (next r l2) → rank x ≡ rank p → rank y ≡ rank p → rank z ≡ rank p → IsTrue (is_triple l x y z)
      closed p q r l2 x y z held hx hy hz rx ry rz = let k = step p q r l2 x y z held hx hy hz rx ry rz in is-some (triple_at l x y z) k.0 k.1

      never : (p q r l2 x y z : ℕ) → IsTrue (is_triple l p q r) → Has x (next p l2) → Has y (next q l2) → Has z (next r l2) → rank x ≡ rank p → rank y ≡ rank p → rank z ≡ rank p → triple_number l x y z ≤ triple_number l p q r
      never p q r l2 x y z held hx hy hz rx ry rz = let k = step p q r l2 x y z held hx hy hz rx ry rz in omega (arith, k.2, its-number (triple_at l x y z) k.0 k.1)

      greater : (r q : ℕ) → r ≢ q → IsTrue (is_triple l r r q) → IsTrue (is_triple l r q q) → triple_number l r r q < triple_number l r q q
      greater r q ne held held2 =
          let some = some-number (triple_at l r r q) held in
          let other = some-number (triple_at l r q q) held2 in
          let t = at-there l r r q some.0 some.1 in
          let less = Each-has (IsApart (triple_at l)) t.0 l apart t.1 (t.2 ∙ sym t.3) (λ e. ne (sym t.2 ∙ (e ∙ t.4))) other.0
          (subst (λ (x : ℕ). triple_at l x t.0.r t.0.r ≡ Some other.0) (sym t.2) (subst (λ (x : ℕ). triple_at l r x x ≡ Some other.0) (sym t.4) other.1)) in
          omega (arith, less, t.5, some.2, other.2)

  -- And right numbers show what is looked at.
  pub steps_of : AreTriples next n rank l → (t : Triple) → Has t l → StepsFall next (triple_at l) rank t
  steps_of are t h l2 x hx rx y hy ry z hz rz =
      let own = at-once l t are.once h in
      let held = is-some (triple_at l t.p t.q t.r) t.number own in
      let there = some-number (triple_at l x y z) (are.numbers.closed t.p t.q t.r l2 x y z held hx hy hz rx ry rz) in
      (there.0, there.1, omega (arith, are.numbers.never_rises t.p t.q t.r l2 x y z held hx hy hz rx ry rz, there.2, its-number (triple_at l t.p t.q t.r) t.number own))

  pub apart_of : AreTriples next n rank l → (t : Triple) → Has t l → IsApart (triple_at l) t
  apart_of are t h same ne k found =
      let own = at-once l t are.once h in
      let own2 : triple_at l t.p t.p t.r ≡ Some t.number = subst (λ (x : ℕ). triple_at l t.p x t.r ≡ Some t.number) (sym same) own in
      omega (arith, are.numbers.apart t.p t.r ne (is-some (triple_at l t.p t.p t.r) t.number own2) (is-some (triple_at l t.p t.r t.r) k found), its-number (triple_at l t.p t.p t.r) t.number own2, its-number (triple_at l t.p t.r t.r) k found)

each-part : {A : Type 0} (P Q : A → Type 0) (l : List A) → ((x : A) → P x → Q x) → Each P l → Each Q l
each-part P Q [] f h = tt
each-part P Q (x ∷ l) f h = (f x h.0, each-part P Q l f h.1)

-- What an index finds decides whether the triples hold.
pub all-decide : (g : Graph) (p : PartTable) (at : ℕ → ℕ → ℕ → Option ℕ) (rank : ℕ → ℕ) (l : List Triple) → IsParts (edges_of g) g.states p → ((x y z : ℕ) → at x y z ≡ triple_at l x y z) → OnceEach l
    → AllHold g p at rank l ↔ AreTriples (edges_of g) g.states rank l
all-decide g p at rank l parts same once = (there, back)
  where
    is : at ≡ triple_at l
    is = fun_ext (λ x. fun_ext (λ y. fun_ext (λ z. same x y z)))

    there : AllHold g p at rank l → AreTriples (edges_of g) g.states rank l
    there h =
        let k = subst (λ (f : ℕ → ℕ → ℕ → Option ℕ). AllHold g p f rank l) is h in
        triples_shown (edges_of g) g.states rank l once
        (each-part (HoldsIn (edges_of g) g.states (triple_at l) rank) (IsLevel g.states rank) l (λ t x. x.0) k.0)
        (each-part (HoldsIn (edges_of g) g.states (triple_at l) rank) (StepsFall (edges_of g) (triple_at l) rank) l (λ t x. x.1) k.0)
        (each-part (HoldsIn (edges_of g) g.states (triple_at l) rank) (IsApart (triple_at l)) l (λ t x. x.2) k.0)
        (λ r q lr lq ne e cr cq. k.1 r q lr lq ne e ((parts.on_cycle r lr).1 cr) ((parts.on_cycle q lq).1 cq))

    back : AreTriples (edges_of g) g.states rank l → AllHold g p at rank l
    back are =
        subst (λ (f : ℕ → ℕ → ℕ → Option ℕ). AllHold g p f rank l) (sym is) (
          each-has (HoldsIn (edges_of g) g.states (triple_at l) rank) l (λ t i. (Each-has (IsLevel g.states rank) t l are.levels i, steps_of (edges_of g) g.states rank l are t i, apart_of (edges_of g) g.states rank l are t i)),
          λ r q lr lq ne e cr cq. are.numbers.starts r q lr lq ne e ((parts.on_cycle r lr).0 cr) ((parts.on_cycle q lq).0 cq),
        )

-- Of the moves of a triple's states only those to states of its rank matter, and parallel ones don't.
module _ (g h : Graph) (ranks : List ℕ) (i : IsInner g (table_of ranks) h) (at : ℕ → ℕ → ℕ → Option ℕ) where
  inner-steps : (t : Triple) → IsLevel g.states (λ x. get_or ranks x 0) t → StepsFall (edges_of h) at (λ x. get_or ranks x 0) t ↔ StepsFall (edges_of g) at (λ x. get_or ranks x 0) t
  inner-steps t level = (
    λ falls l x hx rx y hy ry z hz rz. falls l x ((i.kept t.p l x).1 (hx, rx)) rx y ((i.kept t.q l y).1 (hy, ry ∙ sym level.3)) ry z ((i.kept t.r l z).1 (hz, rz ∙ sym level.4)) rz,
    λ falls l x hx rx y hy ry z hz rz. falls l x ((i.kept t.p l x).0 hx).0 rx y ((i.kept t.q l y).0 hy).0 ry z ((i.kept t.r l z).0 hz).0 rz,
  )

  inner-holds : (t : Triple) → HoldsIn (edges_of h) h.states at (λ x. get_or ranks x 0) t ↔ HoldsIn (edges_of g) g.states at (λ x. get_or ranks x 0) t
  inner-holds t = (there, back)
    where
      there : HoldsIn (edges_of h) h.states at (λ x. get_or ranks x 0) t → HoldsIn (edges_of g) g.states at (λ x. get_or ranks x 0) t
      there a =
          let level = subst (λ (n : ℕ). IsLevel n (λ x. get_or ranks x 0) t) i.same_states a.0 in
          (level, (inner-steps t level).0 a.1, a.2)

      back : HoldsIn (edges_of g) g.states at (λ x. get_or ranks x 0) t → HoldsIn (edges_of h) h.states at (λ x. get_or ranks x 0) t
      back a = (subst (λ (n : ℕ). IsLevel n (λ x. get_or ranks x 0) t) (sym i.same_states) a.0, (inner-steps t a.0).1 a.1, a.2)

  pub each-inner : (l : List Triple) → Each (HoldsIn (edges_of h) h.states at (λ x. get_or ranks x 0)) l ↔ Each (HoldsIn (edges_of g) g.states at (λ x. get_or ranks x 0)) l
  each-inner l = (
    each-part (HoldsIn (edges_of h) h.states at (λ x. get_or ranks x 0)) (HoldsIn (edges_of g) g.states at (λ x. get_or ranks x 0)) l (λ t. (inner-holds t).0),
    each-part (HoldsIn (edges_of g) g.states at (λ x. get_or ranks x 0)) (HoldsIn (edges_of h) h.states at (λ x. get_or ranks x 0)) l (λ t. (inner-holds t).1),
  )
