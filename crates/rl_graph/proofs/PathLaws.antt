-- Laws of `paths`: words one after another, and what a closed set of states holds.
use Rattle.std.proofs.Common.{◌≡◌, ◌≢◌, ℕ, zero, suc, ◌+◌, ◌*◌, ◌≤◌, ◌⊎◌, inl, inr, List, [], ◌∷◌, ◌++◌, length, refl, sym, ap, subst, arith, Bool, true, false, eqb, eqb-true, eq-eqb, mul-le-mul}
use Rattle.std.proofs.lemmas.Bool.{cases_Bool}
use Rattle.rl_graph.specs.Paths.{one, Has, paths, Reaches, OnCycle}
use Rattle.rl_graph.specs.Twins.{IsSplit}
use Rattle.rl_graph.proofs.Sums.{total-has, total-there, total-mono, total-times, total-add}

pub paths-nil : (next : ℕ → ℕ → List ℕ) (s : ℕ) → paths next s s [] ≡ 1
paths-nil next s = rw (eq-eqb s s refl) refl

-- A path along the empty word stays.
pub nil-same : (next : ℕ → ℕ → List ℕ) (s t : ℕ) → 1 ≤ paths next s t [] → s ≡ t
nil-same next s t h = by (cases_Bool (eqb s t))
  where
    by : (eqb s t ≡ true) ⊎ (eqb s t ≡ false) → s ≡ t
    by (inl e) = eqb-true s t e
    by (inr e) = let k = rw e at h in absurd (none k)
      where
        none : 1 ≤ 0 → ⊥
        none h = omega arith

-- A product with a first factor of at most one.
pub through-nil : (k b n : ℕ) → k ≤ 1 → (k ≡ 1 → b ≡ n) → k * b ≤ n
through-nil zero b n h e = omega arith
through-nil (suc k) b n h e = let k0 : k ≡ 0 = omega arith in omega (arith, e (omega arith), ap (λ x. suc x * b) k0)

pub one-le : (b : Bool) → one b ≤ 1
one-le true = omega arith
one-le false = omega arith

pub one-true : (b : Bool) → one b ≡ 1 → b ≡ true
one-true true e = refl
one-true false e = absurd (omega arith)

-- Paths through one state in the middle.
pub through_one : (next : ℕ → ℕ → List ℕ) (s m t : ℕ) (u v : List ℕ) → paths next s m u * paths next m t v ≤ paths next s t (u ++ v)
through_one next s m t [] v = through-nil (one (eqb s m)) (paths next m t v) (paths next s t v) (one-le (eqb s m)) (λ e. ap (λ x. paths next x t v) (sym (eqb-true s m (one-true (eqb s m) e))))
through_one next s m t (l ∷ u) v =
    let a = total-times (λ x. paths next x m u) (paths next m t v) (next s l) in
    let b = total-mono (λ x. paths next x m u * paths next m t v) (λ x. paths next x t (u ++ v)) (next s l) (λ x i. through_one next x m t u v) in
    omega (arith, a, b)

both-nil : (a b c d n : ℕ) → a ≤ 1 → c ≤ 1 → (a ≡ 1 → c ≡ 1 → ⊥) → (a ≡ 1 → b ≡ n) → (c ≡ 1 → d ≡ n) → a * b + c * d ≤ n
both-nil zero b c d n ha hc ne e f = omega (arith, through-nil c d n hc f)
both-nil (suc a) b zero d n ha hc ne e f = omega (arith, through-nil (suc a) b n ha e)
both-nil (suc a) b (suc c) d n ha hc ne e f = absurd (ne (omega arith) (omega arith))

-- Paths through two different states in the middle.
pub through_two : (next : ℕ → ℕ → List ℕ) (s m n t : ℕ) (u v : List ℕ) → m ≢ n → paths next s m u * paths next m t v + paths next s n u * paths next n t v ≤ paths next s t (u ++ v)
through_two next s m n t [] v ne =
    both-nil (one (eqb s m)) (paths next m t v) (one (eqb s n)) (paths next n t v) (paths next s t v) (one-le (eqb s m)) (one-le (eqb s n))
    (λ a b. let x : s ≡ m = eqb-true s m (one-true (eqb s m) a) in let y : s ≡ n = eqb-true s n (one-true (eqb s n) b) in ne cc)
    (λ e. ap (λ x. paths next x t v) (sym (eqb-true s m (one-true (eqb s m) e))))
    (λ e. ap (λ x. paths next x t v) (sym (eqb-true s n (one-true (eqb s n) e))))
through_two next s m n t (l ∷ u) v ne =
    let a = total-times (λ x. paths next x m u) (paths next m t v) (next s l) in
    let b = total-times (λ x. paths next x n u) (paths next n t v) (next s l) in
    let c = total-add (λ x. paths next x m u * paths next m t v) (λ x. paths next x n u * paths next n t v) (next s l) in
    let d = total-mono (λ x. paths next x m u * paths next m t v + paths next x n u * paths next n t v) (λ x. paths next x t (u ++ v)) (next s l) (λ x i. through_two next x m n t u v ne) in
    omega (arith, a, b, c, d)

pub positive : (a b : ℕ) → 1 ≤ a → 1 ≤ b → 1 ≤ a * b
positive a b h k = mul-le-mul h k

-- A move is a path on one letter, and a first move goes before any path.
pub move-path : (next : ℕ → ℕ → List ℕ) (q m t l : ℕ) (w : List ℕ) → Has m (next q l) → 1 ≤ paths next m t w → 1 ≤ paths next q t (l ∷ w)
move-path next q m t l w h k = omega (arith, total-has (λ x. paths next x t w) m (next q l) h)

-- Reaching

pub Reaches-self : (next : ℕ → ℕ → List ℕ) (q : ℕ) → Reaches next q q
Reaches-self next q = ([], omega (arith, paths-nil next q))

pub Reaches-move : (next : ℕ → ℕ → List ℕ) (q m l : ℕ) → Has m (next q l) → Reaches next q m
Reaches-move next q m l h = (l ∷ [], move-path next q m m l [] h (omega (arith, paths-nil next m)))

pub Reaches-trans : (next : ℕ → ℕ → List ℕ) (q m r : ℕ) → Reaches next q m → Reaches next m r → Reaches next q r
Reaches-trans next q m r a b = (a.0 ++ b.0, omega (arith, positive (paths next q m a.0) (paths next m r b.0) a.1 b.1, through_one next q m r a.0 b.0))

-- A property that each move preserves holds for each state that is reached.
pub along_moves : (P : ℕ → Type 0) (next : ℕ → ℕ → List ℕ) → ((q l m : ℕ) → P q → Has m (next q l) → P m) → (q r : ℕ) (w : List ℕ) → P q → 1 ≤ paths next q r w → P r
along_moves P next step q r [] p h = subst P (nil-same next q r h) p
along_moves P next step q r (l ∷ w) p h =
    let t = total-there (λ m. paths next m r w) (next q l) h in
    along_moves P next step t.0 r w (step q l t.0 p t.1) t.2

-- A state is on a cycle if and only if one of its moves leads to a state that reaches it.
pub OnCycle-move : (next : ℕ → ℕ → List ℕ) (q l m : ℕ) → Has m (next q l) → Reaches next m q → OnCycle next q
OnCycle-move next q l m h r = (l, r.0, move-path next q m q l r.0 h r.1)

pub OnCycle-first : (next : ℕ → ℕ → List ℕ) (q : ℕ) → OnCycle next q → (l : ℕ) × (m : ℕ) × Has m (next q l) × Reaches next m q
OnCycle-first next q c = let t = total-there (λ m. paths next m q c.1) (next q c.0) c.2 in (c.0, t.0, t.1, (c.1, t.2))

-- The word of a split isn't empty.
pub split-word : (next : ℕ → ℕ → List ℕ) (r q : ℕ) (y : List ℕ) → IsSplit next r q y → 1 ≤ length y
split-word next r q [] h = absurd (h.apart (nil-same next r q h.over))
split-word next r q (l ∷ y) h = omega arith
