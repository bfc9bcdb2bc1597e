-- Paths that stay where a test passes, and paths that leave: where they leave, time by time.
use Rattle.std.proofs.Common.{◌≡◌, ◌≢◌, ◌∙◌, ℕ, suc, ◌+◌, ◌*◌, ◌<◌, ◌≤◌, inl, inr, List, [], ◌∷◌, length, drop, filter, cond, Bool, true, false, refl, sym, ap, arith, mul-le-mul}
use Rattle.rl_graph.specs.Paths.{Has, total, paths, along, inside, IsWithin}
use Rattle.rl_graph.specs.Twins.{HasNoTwin}
use Rattle.rl_graph.proofs.Sums.{total-mono, total-add, Has-filter}
use Rattle.rl_graph.proofs.FirstSums.{total-bound}

-- The number of paths from `a` to `t` whose first move leads to a state that does not pass.
abbrev pub leaving : (ℕ → ℕ → List ℕ) → (ℕ → Bool) → ℕ → ℕ → List ℕ → ℕ
leaving next p t a [] = 0
leaving next p t a (l ∷ w) = total (λ m. cond (p m) 0 (paths next m t w)) (next a l)

-- The paths inside are paths.
pub total-filter : (f : ℕ → ℕ) (p : ℕ → Bool) (l : List ℕ) → total f (filter p l) ≤ total f l
total-filter f p [] = omega arith
total-filter f p (x ∷ l) = by (p x) (total-filter f p l)
  where
    by : (b : Bool) → total f (filter p l) ≤ total f l → total f (cond b (x ∷ filter p l) (filter p l)) ≤ f x + total f l
    by true rest = omega arith
    by false rest = omega arith

pub inside-less : (next : ℕ → ℕ → List ℕ) (p : ℕ → Bool) (s t : ℕ) (w : List ℕ) → paths (inside p next) s t w ≤ paths next s t w
inside-less next p s t [] = omega arith
inside-less next p s t (l ∷ w) =
    let a = total-mono (λ m. paths (inside p next) m t w) (λ m. paths next m t w) (filter p (next s l)) (λ m i. inside-less next p m t w) in
    omega (arith, a, total-filter (λ m. paths next m t w) p (next s l))

-- A state that a filter lets through passes.
pub Has-passes : (p : ℕ → Bool) (x : ℕ) (l : List ℕ) → Has x (filter p l) → p x ≡ true
Has-passes p x [] h = absurd h
Has-passes p x (a ∷ l) h = by (p a) refl h (Has-passes p x l)
  where
    by : (b : Bool) → b ≡ p a → Has x (cond b (a ∷ filter p l) (filter p l)) → (Has x (filter p l) → p x ≡ true) → p x ≡ true
    by true e (inl i) rest = ap p i ∙ sym e
    by true e (inr i) rest = rest i
    by false e i rest = rest i

length-filter : (p : ℕ → Bool) (l : List ℕ) → length (filter p l) ≤ length l
length-filter p [] = omega arith
length-filter p (x ∷ l) = by (p x) (length-filter p l)
  where
    by : (b : Bool) → length (filter p l) ≤ length l → length (cond b (x ∷ filter p l) (filter p l)) ≤ suc (length l)
    by true rest = omega arith
    by false rest = omega arith

pub inside-within : (next : ℕ → ℕ → List ℕ) (p : ℕ → Bool) (n k : ℕ) → IsWithin next n k → IsWithin (inside p next) n k
inside-within next p n k within = record {
  targets = λ q l m lt i. within.targets q l m lt (Has-filter p m (next q l) i);
  moves = λ q l lt. omega (arith, within.moves q l lt, length-filter p (next q l));
}

pub inside-no_twin : (next : ℕ → ℕ → List ℕ) (p : ℕ → Bool) → HasNoTwin next → HasNoTwin (inside p next)
inside-no_twin next p none q w = omega (arith, none q w, inside-less next p q q w)

-- A sum is that of those that pass and that of the others.
parted : (f : ℕ → ℕ) (p : ℕ → Bool) (l : List ℕ) → total f l ≤ total f (filter p l) + total (λ x. cond (p x) 0 (f x)) l
parted f p [] = omega arith
parted f p (x ∷ l) = by (p x) (parted f p l)
  where
    by : (b : Bool) → total f l ≤ total f (filter p l) + total (λ x. cond (p x) 0 (f x)) l → f x + total f l ≤ total f (cond b (x ∷ filter p l) (filter p l)) + (cond b 0 (f x) + total (λ x. cond (p x) 0 (f x)) l)
    by true rest = omega arith
    by false rest = omega arith

-- A path stays inside, or it leaves at one of its states.
pub stay_or_leave : (next : ℕ → ℕ → List ℕ) (p : ℕ → Bool) (t s : ℕ) (w : List ℕ) → paths next s t w ≤ paths (inside p next) s t w + along (inside p next) (leaving next p t) s w
stay_or_leave next p t s [] = omega arith
stay_or_leave next p t s (l ∷ w) =
    let a = parted (λ m. paths next m t w) p (next s l) in
    let b = total-mono (λ m. paths next m t w) (λ m. paths (inside p next) m t w + along (inside p next) (leaving next p t) m w) (filter p (next s l)) (λ m i. stay_or_leave next p t m w) in
    let c = total-add (λ m. paths (inside p next) m t w) (λ m. along (inside p next) (leaving next p t) m w) (filter p (next s l)) in
    omega (arith, a, b, c)

-- At the end of the word nothing leaves.
pub leaving-end : (next : ℕ → ℕ → List ℕ) (p : ℕ → Bool) (t a : ℕ) (w : List ℕ) → leaving next p t a (drop (length w) w) ≡ 0
leaving-end next p t a [] = refl
leaving-end next p t a (l ∷ w) = leaving-end next p t a w

-- If each path from a state that does not pass is counted at most `c` times, at most `k * c` are counted.
pub leaving-bound : (next : ℕ → ℕ → List ℕ) (p : ℕ → Bool) (n k t a c l : ℕ) (w : List ℕ) → IsWithin next n k → a < n → ((m : ℕ) → Has m (next a l) → p m ≡ false → paths next m t w ≤ c) → leaving next p t a (l ∷ w) ≤ k * c
leaving-bound next p n k t a c l w within lt h =
    let each = total-bound (λ m. cond (p m) 0 (paths next m t w)) c (next a l) (λ m i. by m (p m) refl (h m i)) in
    let few : length (next a l) * c ≤ k * c = mul-le-mul (within.moves a l lt) (same c) in
    omega (arith, each, few)
  where
    same : (y : ℕ) → y ≤ y
    same y = omega arith

    by : (m : ℕ) (b : Bool) → b ≡ p m → (p m ≡ false → paths next m t w ≤ c) → cond b 0 (paths next m t w) ≤ c
    by m true e f = omega arith
    by m false e f = f (sym e)

-- An order of different numbers is strict.
pub strictly : (y z : ℕ) → y ≤ z → y ≢ z → y < z
strictly y z le ne = omega arith
