-- Two different lists of move numbers along a word are a count of at least 2, and the other way round.
use Rattle.std.proofs.Common.{◌≡◌, ◌≢◌, ◌∙◌, ap₂, ℕ, zero, suc, ◌<◌, ◌≤◌, ◌⊎◌, inl, inr, List, [], ◌∷◌, Option, Some, None, slice_get, refl, sym, ap, subst, arith, eqb}
use Rattle.std.proofs.lemmas.Bool.{cases_eq, cases_lt}
use Rattle.rl_graph.specs.Paths.{total, paths, led, onto, IsPath}
use Rattle.rl_graph.specs.Twins.{IsTwin, HasNoTwin}
use Rattle.rl_graph.proofs.Sums.{total-at, total-two, total-there, at-has}
use Rattle.rl_graph.proofs.PathLaws.{paths-nil, nil-same, one-le}

-- The value in what `onto` gave.
pub onto-some : {A B : Type 0} (f : A → Option B) (o : Option A) (y : B) → onto f o ≡ Some y → (x : A) × (o ≡ Some x) × (f x ≡ Some y)
onto-some f None y h = cc
onto-some f (Some x) y h = (x, refl, h)

pub path-counts : (next : ℕ → ℕ → List ℕ) (s t : ℕ) (p w : List ℕ) → IsPath next s t p w → 1 ≤ paths next s t w
path-counts next s t [] [] h = let e : s ≡ t = cc in rw e (omega (arith, paths-nil next t))
path-counts next s t [] (l ∷ w) h = cc
path-counts next s t (i ∷ p) [] h = cc
path-counts next s t (i ∷ p) (l ∷ w) h =
    let r = onto-some (λ m. led next m p w) (slice_get (next s l) i) t h in
    omega (arith, path-counts next r.0 t p w r.2, total-at (λ m. paths next m t w) (next s l) i r.0 r.1)

pub two-count : (next : ℕ → ℕ → List ℕ) (s t : ℕ) (p q w : List ℕ) → p ≢ q → IsPath next s t p w → IsPath next s t q w → 2 ≤ paths next s t w
two-count next s t [] [] [] ne h k = absurd (ne refl)
two-count next s t [] q (l ∷ w) ne h k = cc
two-count next s t (i ∷ p) q [] ne h k = cc
two-count next s t p [] (l ∷ w) ne h k = cc
two-count next s t p (j ∷ q) [] ne h k = cc
two-count next s t (i ∷ p) (j ∷ q) (l ∷ w) ne h k =
    let a = onto-some (λ m. led next m p w) (slice_get (next s l) i) t h in
    let b = onto-some (λ m. led next m q w) (slice_get (next s l) j) t k in
    by a b (λ x. two-count next x t p q w) (cases_eq i j)
  where
    by : ((x : ℕ) × (slice_get (next s l) i ≡ Some x) × (led next x p w ≡ Some t)) → ((x : ℕ) × (slice_get (next s l) j ≡ Some x) × (led next x q w ≡ Some t)) → ((x : ℕ) → p ≢ q → IsPath next x t p w → IsPath next x t q w → 2 ≤ paths next x t w) → (i ≡ j) ⊎ (i ≢ j) → 2 ≤ paths next s t (l ∷ w)
    by a b rest (inr d) = omega (arith, path-counts next a.0 t p w a.2, path-counts next b.0 t q w b.2, total-two (λ m. paths next m t w) (next s l) i j a.0 b.0 d a.1 b.1)
    by a b rest (inl e) =
        let o : Some a.0 ≡ Some b.0 = sym a.1 ∙ (ap (slice_get (next s l)) e ∙ b.1) in
        let same : a.0 ≡ b.0 = cc in
        let k2 : led next a.0 q w ≡ Some t = rw same b.2 in
        omega (arith, rest a.0 (λ c. ne (ap₂ ◌∷◌ e c)) a.2 k2, total-at (λ m. paths next m t w) (next s l) i a.0 a.1)

pub path-there : (next : ℕ → ℕ → List ℕ) (s t : ℕ) (w : List ℕ) → 1 ≤ paths next s t w → (p : List ℕ) × IsPath next s t p w
path-there next s t [] h = ([], ap Some (nil-same next s t h))
path-there next s t (l ∷ w) h =
    let m = total-there (λ m. paths next m t w) (next s l) h in
    let i = at-has m.0 (next s l) m.1 in
    let r = path-there next m.0 t w m.2 in
    (i.0 ∷ r.0, subst (λ o. onto (λ m. led next m r.0 w) o ≡ Some t) (sym i.1) r.1)

-- A sum of at least 2 has one share of at least 2, or two shares at different places.
TwoShares : {A : Type 0} → (A → ℕ) → List A → Type 0
TwoShares {A} f l =
    ((i : ℕ) × (x : A) × (slice_get l i ≡ Some x) × (2 ≤ f x)) ⊎ ((i : ℕ) × (j : ℕ) × (x : A) × (y : A) × (i ≢ j) × (slice_get l i ≡ Some x) × (slice_get l j ≡ Some y) × (1 ≤ f x) × (1 ≤ f y))

suc-apart : (i j : ℕ) → i ≢ j → suc i ≢ suc j
suc-apart i j ne e = ne cc

two-shares : {A : Type 0} (f : A → ℕ) (l : List A) → 2 ≤ total f l → TwoShares f l
unfolding TwoShares
two-shares f [] h = absurd (omega arith)
two-shares {A = A} f (a ∷ l) h = by (f a) refl (two-shares f l)
  where
    deeper : TwoShares f l → TwoShares f (a ∷ l)
    deeper (inl (i, x, e, t)) = inl (suc i, x, e, t)
    deeper (inr (i, j, x, y, ne, e, k, p, q)) = inr (suc i, suc j, x, y, suc-apart i j ne, e, k, p, q)

    by : (n : ℕ) → n ≡ f a → (2 ≤ total f l → TwoShares f l) → TwoShares f (a ∷ l)
    by zero e rest = deeper (rest (omega arith))
    by (suc zero) e rest =
        let m = total-there f l (omega arith) in
        let i = at-has m.0 l m.1 in
        inr (0, suc i.0, a, m.0, (λ z. absurd (omega (arith, z))), refl, i.1, omega arith, m.2)
    by (suc (suc n)) e rest = inl (0, a, refl, omega arith)

TwoPaths : (ℕ → ℕ → List ℕ) → ℕ → ℕ → List ℕ → Type 0
TwoPaths next s t w = (p : List ℕ) × (q : List ℕ) × (p ≢ q) × IsPath next s t p w × IsPath next s t q w

step-path : (next : ℕ → ℕ → List ℕ) (s m t l i : ℕ) (p w : List ℕ) → slice_get (next s l) i ≡ Some m → IsPath next m t p w → IsPath next s t (i ∷ p) (l ∷ w)
step-path next s m t l i p w e h = subst (λ o. onto (λ m. led next m p w) o ≡ Some t) (sym e) h

pub two-there : (next : ℕ → ℕ → List ℕ) (s t : ℕ) (w : List ℕ) → 2 ≤ paths next s t w → (p : List ℕ) × (q : List ℕ) × (p ≢ q) × IsPath next s t p w × IsPath next s t q w
unfolding TwoShares TwoPaths
two-there next s t [] h = absurd (omega (arith, one-le (eqb s t)))
two-there next s t (l ∷ w) h = by (two-shares (λ m. paths next m t w) (next s l) h) (λ m. two-there next m t w)
  where
    by : TwoShares (λ m. paths next m t w) (next s l) → ((m : ℕ) → 2 ≤ paths next m t w → TwoPaths next m t w) → TwoPaths next s t (l ∷ w)
    by (inl (i, x, e, h)) rest =
        let r = rest x h in
        (i ∷ r.0, i ∷ r.1, (λ z. r.2 cc), step-path next s x t l i r.0 w e r.3, step-path next s x t l i r.1 w e r.4)
    by (inr (i, j, x, y, ne, e, k, p, q)) rest =
        let a = path-there next x t w p in
        let b = path-there next y t w q in
        (i ∷ a.0, j ∷ b.0, (λ z. ne cc), step-path next s x t l i a.0 w e a.1, step-path next s y t l j b.0 w k b.1)

pub no_twin-count : (next : ℕ → ℕ → List ℕ) → ((q : ℕ) (w p r : List ℕ) → IsTwin next q w p r → ⊥) → HasNoTwin next
no_twin-count next none q w = by (cases_lt 1 (paths next q q w))
  where
    by : (1 < paths next q q w) ⊎ (paths next q q w ≤ 1) → paths next q q w ≤ 1
    by (inr h) = h
    by (inl h) =
        let r = two-there next q q w (omega arith) in
        absurd (none q w r.0 r.1 (record { apart = r.2; one_way = r.3; other_way = r.4 }))

pub twin-count : (next : ℕ → ℕ → List ℕ) (q : ℕ) (w p r : List ℕ) → IsTwin next q w p r → 2 ≤ paths next q q w
twin-count next q w p r t = two-count next q q p r w t.apart t.one_way t.other_way
