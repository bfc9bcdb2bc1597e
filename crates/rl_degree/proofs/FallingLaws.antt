-- Falling numbers on doubles exclude a twin; falling numbers on triples exclude a split between states of one rank.
use Rattle.std.proofs.Common.{◌≡◌, ◌≢◌, ◌∙◌, ap, ap₂, ℕ, ◌<◌, ◌≤◌, ◌⊎◌, inl, inr, Bool, IsTrue, List, [], ◌∷◌, slice_get, Some, eqb, refl, sym, subst, arith}
use Rattle.std.proofs.lemmas.Bool.{cases_eq, cases_lt}
use Rattle.rl_graph.specs.Paths.{Has, paths, led, IsPath, IsBounded, IsWithin}
use Rattle.rl_graph.specs.Twins.{HasNoTwin}
use Rattle.rl_graph.proofs.Sums.{Has-at, total-there}
use Rattle.rl_graph.proofs.PathLaws.{nil-same, along_moves, one-le}
use Rattle.rl_graph.proofs.TwinPaths.{onto-some, two-there, path-counts}
use Rattle.rl_degree.specs.Leavers.{NeverRises, HasNoEqualSplit}
use Rattle.rl_degree.specs.FallingNumbers.{IsDoubles, IsTriples}
use Rattle.rl_degree.proofs.FiveTimes.{falls-along}

-- The number never rises along two paths side by side.
double-path : (next : ℕ → ℕ → List ℕ) (n : ℕ) (holds : ℕ → ℕ → Bool) (number : ℕ → ℕ → ℕ) → IsDoubles next n holds number
    → (a b t u : ℕ) (w : List ℕ) → IsTrue (holds a b) → 1 ≤ paths next a t w → 1 ≤ paths next b u w → number t u ≤ number a b
double-path next n holds number d a b t u [] held h k =
    let e = nil-same next a t h in
    let f = nil-same next b u k in
    subst (λ (y : ℕ). number t y ≤ number a b) f (subst (λ (x : ℕ). number x b ≤ number a b) e (omega arith))
double-path next n holds number d a b t u (l ∷ w) held h k =
    let x = total-there (λ m. paths next m t w) (next a l) h in
    let y = total-there (λ m. paths next m u w) (next b l) k in
    omega (arith, double-path next n holds number d x.0 y.0 t u w (d.closed a b l x.0 y.0 held x.1 y.1) x.2 y.2, d.never_rises a b l x.0 y.0 held x.1 y.1)

-- The number falls along two different paths from a state to one state.
double-falls : (next : ℕ → ℕ → List ℕ) (n k : ℕ) (holds : ℕ → ℕ → Bool) (number : ℕ → ℕ → ℕ) → IsBounded next n k → IsDoubles next n holds number
    → (s t : ℕ) (p q w : List ℕ) → s < n → p ≢ q → IsPath next s t p w → IsPath next s t q w → number t t < number s s
double-falls next n k holds number b d s t [] [] [] lt ne f g = absurd (ne refl)
double-falls next n k holds number b d s t [] q (l ∷ w) lt ne f g = cc
double-falls next n k holds number b d s t (i ∷ p) q [] lt ne f g = cc
double-falls next n k holds number b d s t p [] (l ∷ w) lt ne f g = cc
double-falls next n k holds number b d s t p (j ∷ q) [] lt ne f g = cc
double-falls next n k holds number b d s t (i ∷ p) (j ∷ q) (l ∷ w) lt ne f g =
    by (onto-some (λ m. led next m p w) (slice_get (next s l) i) t f) (onto-some (λ m. led next m q w) (slice_get (next s l) j) t g)
    (λ x small. double-falls next n k holds number b d x t p q w small) (cases_eq i j)
  where
    by : ((x : ℕ) × (slice_get (next s l) i ≡ Some x) × (led next x p w ≡ Some t)) → ((x : ℕ) × (slice_get (next s l) j ≡ Some x) × (led next x q w ≡ Some t)) → ((x : ℕ) → x < n → p ≢ q → IsPath next x t p w → IsPath next x t q w → number t t < number x x) → (i ≡ j) ⊎ (i ≢ j) → number t t < number s s
    by x y rest (inr apart) =
        let hx = Has-at (next s l) i x.0 x.1 in
        let hy = Has-at (next s l) j y.0 y.1 in
        let held = d.closed s s l x.0 y.0 (d.equal s lt) hx hy in
        omega (arith, d.falls s l i j x.0 y.0 lt apart x.1 y.1, double-path next n holds number d x.0 y.0 t t w held (path-counts next x.0 t p w x.2) (path-counts next y.0 t q w y.2))
    by x y rest (inl e) =
        let o : Some x.0 ≡ Some y.0 = sym x.1 ∙ (ap (slice_get (next s l)) e ∙ y.1) in
        let same : x.0 ≡ y.0 = cc in
        let path : led next x.0 q w ≡ Some t = rw same y.2 in
        let hx = Has-at (next s l) i x.0 x.1 in
        omega (arith, rest x.0 (b.targets s l x.0 hx) (λ c. ne (ap₂ ◌∷◌ e c)) x.2 path, d.never_rises s s l x.0 x.0 (d.equal s lt) hx hx)

pub doubles_exclude : (next : ℕ → ℕ → List ℕ) (n k : ℕ) (holds : ℕ → ℕ → Bool) (number : ℕ → ℕ → ℕ) → IsBounded next n k → IsDoubles next n holds number → HasNoTwin next
doubles_exclude next n k holds number b d q w = by w (cases_lt 1 (paths next q q w))
  where
    ends : (s t : ℕ) (l : ℕ) (w : List ℕ) → 1 ≤ paths next s t (l ∷ w) → t < n
    ends s t l w h =
        let m = total-there (λ m. paths next m t w) (next s l) h in
        along_moves (λ m. m < n) next (λ q l m i j. b.targets q l m j) m.0 t w (b.targets s l m.0 m.1) m.2

    by : (w : List ℕ) → (1 < paths next q q w) ⊎ (paths next q q w ≤ 1) → paths next q q w ≤ 1
    by w (inr few) = few
    by [] (inl two) = one-le (eqb q q)
    by (l ∷ w) (inl two) =
        let r = two-there next q q (l ∷ w) (omega arith) in
        absurd (omega (arith, double-falls next n k holds number b d q q r.0 r.1 (l ∷ w) (ends q q l w (omega arith)) r.2 r.3 r.4))

-- If three paths side by side lead from a triple to states of its rank, these are a triple, and its number is no greater.
triple-path : (next : ℕ → ℕ → List ℕ) (n k : ℕ) (rank : ℕ → ℕ) (holds : ℕ → ℕ → ℕ → Bool) (number : ℕ → ℕ → ℕ → ℕ) → IsWithin next n k → NeverRises next n rank → IsTriples next n rank holds number
    → (d a b c t u v : ℕ) (w : List ℕ) → a < n → b < n → c < n → rank a ≡ d → rank b ≡ d → rank c ≡ d → rank t ≡ d → rank u ≡ d → rank v ≡ d
    → IsTrue (holds a b c) → 1 ≤ paths next a t w → 1 ≤ paths next b u w → 1 ≤ paths next c v w → IsTrue (holds t u v) × (number t u v ≤ number a b c)
triple-path next n k rank holds number within falls triples d a b c t u v [] la lb lc ra rb rc rt ru rv held f g h =
    let e1 = nil-same next a t f in
    let e2 = nil-same next b u g in
    let e3 = nil-same next c v h in
    subst (λ (z : ℕ). IsTrue (holds t u z) × (number t u z ≤ number a b c)) e3
    (subst (λ (y : ℕ). IsTrue (holds t y c) × (number t y c ≤ number a b c)) e2
    (subst (λ (x : ℕ). IsTrue (holds x b c) × (number x b c ≤ number a b c)) e1 (held, omega arith)))
triple-path next n k rank holds number within falls triples d a b c t u v (l ∷ w) la lb lc ra rb rc rt ru rv held f g h =
    let x = total-there (λ m. paths next m t w) (next a l) f in
    let y = total-there (λ m. paths next m u w) (next b l) g in
    let z = total-there (λ m. paths next m v w) (next c l) h in
    let rx = level a t x.0 la ra rt x.1 x.2 in
    let ry = level b u y.0 lb rb ru y.1 y.2 in
    let rz = level c v z.0 lc rc rv z.1 z.2 in
    let next_held = triples.closed a b c l x.0 y.0 z.0 held x.1 y.1 z.1 (rx ∙ sym ra) (ry ∙ sym ra) (rz ∙ sym ra) in
    let less = triples.never_rises a b c l x.0 y.0 z.0 held x.1 y.1 z.1 (rx ∙ sym ra) (ry ∙ sym ra) (rz ∙ sym ra) in
    let rest = triple-path next n k rank holds number within falls triples d x.0 y.0 z.0 t u v w
    (within.targets a l x.0 la x.1) (within.targets b l y.0 lb y.1) (within.targets c l z.0 lc z.1) rx ry rz rt ru rv next_held x.2 y.2 z.2 in
    (rest.0, omega (arith, rest.1, less))
  where
    level : (a t m : ℕ) → a < n → rank a ≡ d → rank t ≡ d → Has m (next a l) → 1 ≤ paths next m t w → rank m ≡ d
    level a t m la ra rt i h = omega (arith, falls a l m la i, (falls-along next n k rank within falls m t w (within.targets a l m la i) h).1)

pub triples_exclude : (next : ℕ → ℕ → List ℕ) (n k : ℕ) (rank : ℕ → ℕ) (holds : ℕ → ℕ → ℕ → Bool) (number : ℕ → ℕ → ℕ → ℕ) → IsWithin next n k → NeverRises next n rank → IsTriples next n rank holds number → HasNoEqualSplit next n rank
triples_exclude next n k rank holds number within falls triples r q [] lt e split = split.apart (nil-same next r q split.over)
triples_exclude next n k rank holds number within falls triples r q (l ∷ y) lt e split =
    let small = (falls-along next n k rank within falls r q (l ∷ y) lt split.over).0 in
    let held = triples.starts r q lt small split.apart e (l, y, split.before) (l, y, split.behind) in
    let there = triple-path next n k rank holds number within falls triples (rank r) r r q r q q (l ∷ y) lt lt small refl refl (sym e) refl (sym e) (sym e) held split.before split.over split.behind in
    absurd (omega (arith, there.1, triples.apart r q split.apart held there.0))
