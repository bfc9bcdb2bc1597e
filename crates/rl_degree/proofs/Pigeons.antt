-- Pigeons: of many things with few colours many have one colour; and of enough things whose pairs have colours there are
-- five of which each two have the same.
use Rattle.std.proofs.Common.{◌≡◌, ◌≢◌, ◌∙◌, ℕ, zero, suc, ◌+◌, ◌*◌, ◌^◌, ◌<◌, ◌≤◌, ◌⊎◌, inl, inr, List, [], ◌∷◌, length, filter, cond, Bool, true, false, not, eqb, eqb-true, eq-eqb, refl, sym, ap, arith}
use Rattle.std.proofs.lemmas.Bool.{cases_lt}
use Rattle.std.proofs.lemmas.List.Filters.{length-filter_both}
use Rattle.std.proofs.Math.Nat.{pow-succ', one-le-pow}
use Rattle.rl_graph.specs.Paths.{Each, Pairs}

-- The members of one colour.
abbrev pub of_colour : {A : Type 0} → (A → ℕ) → ℕ → List A → List A
of_colour f v l = filter (λ x. eqb (f x) v) l

Each-filter : {A : Type 0} (P : A → Type 0) (p : A → Bool) (l : List A) → Each P l → Each P (filter p l)
Each-filter P p [] h = tt
Each-filter {A = A} P p (x ∷ l) h = by (p x) (Each-filter P p l h.1)
  where
    by : (b : Bool) → Each P (filter p l) → Each P (cond b (x ∷ filter p l) (filter p l))
    by true rest = (h.0, rest)
    by false rest = rest

-- If something holds of whatever passes, it holds of all that a filter lets through.
Each-passed : {A : Type 0} (P : A → Type 0) (p : A → Bool) (l : List A) → ((x : A) → p x ≡ true → P x) → Each P (filter p l)
Each-passed P p [] h = tt
Each-passed {A = A} P p (x ∷ l) h = by (p x) refl (Each-passed P p l h)
  where
    by : (b : Bool) → b ≡ p x → Each P (filter p l) → Each P (cond b (x ∷ filter p l) (filter p l))
    by true e rest = (h x (sym e), rest)
    by false e rest = rest

Pairs-filter : {A : Type 0} (R : A → A → Type 0) (p : A → Bool) (l : List A) → Pairs R l → Pairs R (filter p l)
Pairs-filter R p [] h = tt
Pairs-filter {A = A} R p (x ∷ l) h = by (p x) (Each-filter (R x) p l h.0) (Pairs-filter R p l h.1)
  where
    by : (b : Bool) → Each (R x) (filter p l) → Pairs R (filter p l) → Pairs R (cond b (x ∷ filter p l) (filter p l))
    by true each rest = (each, rest)
    by false each rest = rest

pub Each-both : {A : Type 0} (P Q : A → Type 0) (l : List A) → Each P l → Each Q l → Each (λ x. P x × Q x) l
Each-both P Q [] h k = tt
Each-both P Q (x ∷ l) h k = ((h.0, k.0), Each-both P Q l h.1 k.1)

pub Each-map : {A : Type 0} (P Q : A → Type 0) (l : List A) → ((x : A) → P x → Q x) → Each P l → Each Q l
Each-map P Q [] f h = tt
Each-map P Q (x ∷ l) f h = (f x h.0, Each-map P Q l f h.1)

-- A filter of a filter is no longer than the filter of all.
filtered-short : {A : Type 0} (p q : A → Bool) (l : List A) → length (filter p (filter q l)) ≤ length (filter p l)
filtered-short p q [] = omega arith
filtered-short {A = A} p q (x ∷ l) = by (q x) (filtered-short p q l)
  where
    here : (b : Bool) → length (filter p (filter q l)) ≤ length (filter p l) → length (cond b (x ∷ filter p (filter q l)) (filter p (filter q l))) ≤ length (cond b (x ∷ filter p l) (filter p l))
    here true rest = omega arith
    here false rest = rest

    later : (b : Bool) → length (filter p (filter q l)) ≤ length (filter p l) → length (filter p (filter q l)) ≤ length (cond b (x ∷ filter p l) (filter p l))
    later true rest = omega arith
    later false rest = rest

    by : (c : Bool) → length (filter p (filter q l)) ≤ length (filter p l) → length (filter p (cond c (x ∷ filter q l) (filter q l))) ≤ length (cond (p x) (x ∷ filter p l) (filter p l))
    by true rest = here (p x) rest
    by false rest = later (p x) rest

abbrev pub other_colours : {A : Type 0} → (A → ℕ) → ℕ → List A → List A
other_colours f v l = filter (λ x. not (eqb (f x) v)) l

coloured : {A : Type 0} (f : A → ℕ) (v : ℕ) (l : List A) → length (of_colour f v l) + length (other_colours f v l) ≡ length l
coloured f v l = length-filter_both (λ x. eqb (f x) v) (λ x. not (eqb (f x) v)) (λ x. refl) l

step-below : (y z : ℕ) → y < suc z → y ≢ z → y < z
step-below y z lt ne = omega arith

differs : (y z : ℕ) → not (eqb y z) ≡ true → y ≢ z
differs y z e d = let h = rw (eq-eqb y z d) at e in absurd (no h)
  where
    no : false ≡ true → ⊥
    no e = cc

others-below : {A : Type 0} (f : A → ℕ) (c : ℕ) (l : List A) → Each (λ x. f x < suc c) l → Each (λ x. f x < c) (other_colours f c l)
others-below f c l h =
    Each-map (λ x. (f x < suc c) × (f x ≢ c)) (λ x. f x < c) (other_colours f c l) (λ x p. step-below (f x) c p.0 p.1)
    (Each-both (λ x. f x < suc c) (λ x. f x ≢ c) (other_colours f c l)
    (Each-filter (λ x. f x < suc c) (λ x. not (eqb (f x) c)) l h)
    (Each-passed (λ x. f x ≢ c) (λ x. not (eqb (f x) c)) l (λ x e. differs (f x) c e)))

-- Of more than `m` times `c` things with colours below `c`, more than `m` have one colour.
pub pigeons : {A : Type 0} (f : A → ℕ) (c m : ℕ) (l : List A) → Each (λ x. f x < c) l → m * c < length l → (v : ℕ) × (v < c) × (m < length (of_colour f v l))
pigeons f zero m [] h k = absurd (omega arith)
pigeons f zero m (x ∷ l) h k = absurd (omega (arith, h.0))
pigeons {A = A} f (suc c) m l h k = by (cases_lt m (length (of_colour f c l))) (pigeons f c m (other_colours f c l) (others-below f c l h))
  where
    by : (m < length (of_colour f c l)) ⊎ (length (of_colour f c l) ≤ m) → (m * c < length (other_colours f c l) → (v : ℕ) × (v < c) × (m < length (of_colour f v (other_colours f c l)))) → (v : ℕ) × (v < suc c) × (m < length (of_colour f v l))
    by (inl enough) rest = (c, omega arith, enough)
    by (inr few) rest =
        let r = rest (omega (arith, coloured f c l, k, few)) in
        (r.0, omega (arith, r.1), omega (arith, r.2, filtered-short (λ x. eqb (f x) r.0) (λ x. not (eqb (f x) c)) l))

-- Things are taken one after another. Each has a colour, which it has with all things that are left.
pub record Taken (A : Type 0) : Type 0 where
  pub thing : A
  pub colour : ℕ

-- `n` things were taken, and one is left.
pub record Takings {A : Type 0} (R : A → A → Type 0) (col : A → A → ℕ) (P : A → Type 0) (c n : ℕ) : Type 0 where
  pub taken : List (Taken A)
  pub left : A
  pub many : length taken ≡ n
  pub colours : Each (λ t. t.colour < c) taken
  pub all : Each (λ t. P t.thing) taken
  pub left_too : P left
  pub order : Pairs (λ t u. R t.thing u.thing × (col t.thing u.thing ≡ t.colour)) taken
  pub before : Each (λ t. R t.thing left × (col t.thing left ≡ t.colour)) taken

-- Enough things are left if those of the commonest colour are kept.
kept-enough : (c p len : ℕ) → 0 < c → 1 ≤ p → suc c * p ≤ suc len → (m : ℕ) × (suc m ≡ p) × (m * c < len)
kept-enough c zero len some h k = absurd (omega arith)
kept-enough c (suc m) len some h k = (m, refl, omega arith)

pub takings : {A : Type 0} (R : A → A → Type 0) (col : A → A → ℕ) (P : A → Type 0) (c n : ℕ) (l : List A) → 0 < c → Pairs (λ x y. R x y × (col x y < c)) l → Each P l → suc c ^ n ≤ length l → Takings R col P c n
takings R col P c n [] some pairs each h = absurd (omega (arith, one-le-pow n (suc c) (omega arith)))
takings R col P c zero (x ∷ l) some pairs each h =
    record { taken = []; left = x; many = refl; colours = tt; all = tt; left_too = each.0; order = tt; before = tt }
takings {A = A} R col P c (suc n) (x ∷ l) some pairs each h =
    let e = kept-enough c (suc c ^ n) (length l) some (one-le-pow n (suc c) (omega arith)) (omega (arith, h, pow-succ' (suc c) n)) in
    let v = pigeons (col x) c e.0 l (Each-map (λ y. R x y × (col x y < c)) (λ y. col x y < c) l (λ y p. p.1) pairs.0) e.2 in
    by v.0 v.1 (takings R col (λ y. P y × (R x y × (col x y ≡ v.0))) c n (of_colour (col x) v.0 l) some
    (Pairs-filter (λ x y. R x y × (col x y < c)) (λ y. eqb (col x y) v.0) l pairs.1)
    (kept v.0)
    (omega (arith, v.2, e.1)))
  where
    kept : (v : ℕ) → Each (λ y. P y × (R x y × (col x y ≡ v))) (of_colour (col x) v l)
    kept v =
        Each-both P (λ y. R x y × (col x y ≡ v)) (of_colour (col x) v l)
        (Each-filter P (λ y. eqb (col x y) v) l each.1)
        (Each-both (λ y. R x y) (λ y. col x y ≡ v) (of_colour (col x) v l)
        (Each-filter (λ y. R x y) (λ y. eqb (col x y) v) l (Each-map (λ y. R x y × (col x y < c)) (λ y. R x y) l (λ y p. p.0) pairs.0))
        (Each-passed (λ y. col x y ≡ v) (λ y. eqb (col x y) v) l (λ y e. eqb-true (col x y) v e)))

    by : (v : ℕ) → v < c → Takings R col (λ y. P y × (R x y × (col x y ≡ v))) c n → Takings R col P c (suc n)
    by v lt t = record {
      taken = first ∷ t.taken;
      left = t.left;
      many = ap suc t.many;
      colours = (lt, t.colours);
      all = (each.0, Each-map (λ u. P u.thing × (R x u.thing × (col x u.thing ≡ v))) (λ u. P u.thing) t.taken (λ u p. p.0) t.all);
      left_too = t.left_too.0;
      order = (Each-map (λ u. P u.thing × (R x u.thing × (col x u.thing ≡ v))) (λ u. R x u.thing × (col x u.thing ≡ v)) t.taken (λ u p. p.1) t.all, t.order);
      before = (t.left_too.1, t.before);
    }
      where
        first : Taken A
        first = record { thing = x; colour = v }

-- Any two of the five things have the same colour.
pub record Five {A : Type 0} (R : A → A → Type 0) (col : A → A → ℕ) (P : A → Type 0) : Type 0 where
  pub colour : ℕ
  pub one : A
  pub two : A
  pub three : A
  pub four : A
  pub five : A
  pub each : Pairs (λ x y. R x y × (col x y ≡ colour)) (one ∷ two ∷ three ∷ four ∷ five ∷ [])
  pub all : Each P (one ∷ two ∷ three ∷ four ∷ five ∷ [])

-- Four things of one colour and the one that is left are five.
four-and-left : {A : Type 0} (R : A → A → Type 0) (col : A → A → ℕ) (P : A → Type 0) (v : ℕ) (left : A) (ts : List (Taken A)) → 3 < length ts → Each (λ t. t.colour ≡ v) ts → Each (λ t. P t.thing) ts → P left
    → Pairs (λ t u. R t.thing u.thing × (col t.thing u.thing ≡ t.colour)) ts → Each (λ t. R t.thing left × (col t.thing left ≡ t.colour)) ts → Five R col P
four-and-left R col P v left [] h e a i p b = absurd (omega arith)
four-and-left R col P v left (x ∷ []) h e a i p b = absurd (omega arith)
four-and-left R col P v left (x ∷ (y ∷ [])) h e a i p b = absurd (omega arith)
four-and-left R col P v left (x ∷ (y ∷ (z ∷ []))) h e a i p b = absurd (omega arith)
four-and-left {A = A} R col P v left (x ∷ (y ∷ (z ∷ (u ∷ ts)))) h e a i p b =
    record {
      colour = v;
      one = x.thing;
      two = y.thing;
      three = z.thing;
      four = u.thing;
      five = left;
      each = (
        (same x e.0 y.thing p.0.0, (same x e.0 z.thing p.0.1.0, (same x e.0 u.thing p.0.1.1.0, (same x e.0 left b.0, tt)))),
        (
          (same y e.1.0 z.thing p.1.0.0, (same y e.1.0 u.thing p.1.0.1.0, (same y e.1.0 left b.1.0, tt))),
          (
            (same z e.1.1.0 u.thing p.1.1.0.0, (same z e.1.1.0 left b.1.1.0, tt)),
            ((same u e.1.1.1.0 left b.1.1.1.0, tt), (tt, tt)),
          ),
        ),
      );
      all = (a.0, (a.1.0, (a.1.1.0, (a.1.1.1.0, (i, tt)))));
    }
  where
    same : (t : Taken A) → t.colour ≡ v → (a : A) → R t.thing a × (col t.thing a ≡ t.colour) → R t.thing a × (col t.thing a ≡ v)
    same t e a p = (p.0, p.1 ∙ e)

pub five : {A : Type 0} (R : A → A → Type 0) (col : A → A → ℕ) (P : A → Type 0) (c : ℕ) (l : List A) → 0 < c → Pairs (λ x y. R x y × (col x y < c)) l → Each P l → suc c ^ (3 * c + 1) ≤ length l → Five R col P
five {A = A} R col P c l some pairs every h = by (takings R col P c (3 * c + 1) l some pairs every h)
  where
    by : Takings R col P c (3 * c + 1) → Five R col P
    by t =
        let v = pigeons (λ u. u.colour) c 3 t.taken t.colours (omega (arith, t.many)) in
        four-and-left R col P v.0 t.left (of_colour (λ u. u.colour) v.0 t.taken) v.2
        (Each-passed (λ u. u.colour ≡ v.0) (λ u. eqb u.colour v.0) t.taken (λ u e. eqb-true u.colour v.0 e))
        (Each-filter (λ u. P u.thing) (λ u. eqb u.colour v.0) t.taken t.all)
        t.left_too
        (Pairs-filter (λ t u. R t.thing u.thing × (col t.thing u.thing ≡ t.colour)) (λ u. eqb u.colour v.0) t.taken t.order)
        (Each-filter (λ u. R u.thing t.left × (col u.thing t.left ≡ u.colour)) (λ u. eqb u.colour v.0) t.taken t.before)
