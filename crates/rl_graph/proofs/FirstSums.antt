-- Laws of the sum of the first `n` values of a function, and of paths along a word as such a sum over its places.
use Rattle.std.proofs.Common.{◌≡◌, ◌∙◌, ℕ, zero, suc, ◌+◌, ◌*◌, ◌<◌, ◌≤◌, ◌⊎◌, inl, inr, List, [], ◌∷◌, length, take, drop, eqb, eq-eqb, refl, sym, ap, subst, arith, suc-mul}
use Rattle.std.proofs.lemmas.Bool.{cases_lt}
use Rattle.std.proofs.Math.Nat.{one-mul}
use Rattle.rl_graph.specs.Paths.{Has, total, one, paths, along}
use Rattle.rl_graph.proofs.Sums.{total-mono, total-times}

-- The sum of the first `n` values of `f`.
abbrev pub upto : (ℕ → ℕ) → ℕ → ℕ
upto f zero = 0
upto f (suc n) = upto f n + f n

pub upto-mono : (f g : ℕ → ℕ) (n : ℕ) → ((i : ℕ) → i < n → f i ≤ g i) → upto f n ≤ upto g n
upto-mono f g zero h = omega arith
upto-mono f g (suc n) h = omega (arith, h n (omega arith), upto-mono f g n (λ i lt. h i (omega arith)))

pub upto-add : (f g : ℕ → ℕ) (n : ℕ) → upto (λ i. f i + g i) n ≡ upto f n + upto g n
upto-add f g zero = omega arith
upto-add f g (suc n) = omega (arith, upto-add f g n)

pub upto-zero : (n : ℕ) → upto (λ i. 0) n ≡ 0
upto-zero zero = refl
upto-zero (suc n) = omega (arith, upto-zero n)

pub upto-first : (f : ℕ → ℕ) (n : ℕ) → upto f (suc n) ≡ f 0 + upto (λ i. f (suc i)) n
upto-first f zero = omega arith
upto-first f (suc n) = omega (arith, upto-first f n)

pub upto-bound : (f : ℕ → ℕ) (c n : ℕ) → ((i : ℕ) → i < n → f i ≤ c) → upto f n ≤ n * c
upto-bound f c zero h = omega arith
upto-bound f c (suc n) h = omega (arith, h n (omega arith), upto-bound f c n (λ i lt. h i (omega arith)), suc-mul n c)

-- One of the values is within the sum.
pub upto-has : (f : ℕ → ℕ) (i n : ℕ) → i < n → f i ≤ upto f n
upto-has f i zero lt = absurd (omega arith)
upto-has f i (suc n) lt = by (cases_lt i n) (upto-has f i n)
  where
    by : (i < n) ⊎ (n ≤ i) → (i < n → f i ≤ upto f n) → f i ≤ upto f (suc n)
    by (inl h) rest = omega (arith, rest h)
    by (inr h) rest = let e : i ≡ n = omega arith in subst (λ (j : ℕ). f j ≤ upto f (suc n)) (sym e) (omega arith)

-- A sum that isn't 0 has a value that isn't 0.
pub upto-there : (f : ℕ → ℕ) (n : ℕ) → 1 ≤ upto f n → (i : ℕ) × (i < n) × (1 ≤ f i)
upto-there f zero h = absurd (omega arith)
upto-there f (suc n) h = by (cases_lt 0 (f n)) (upto-there f n)
  where
    by : (0 < f n) ⊎ (f n ≤ 0) → (1 ≤ upto f n → (i : ℕ) × (i < n) × (1 ≤ f i)) → (i : ℕ) × (i < suc n) × (1 ≤ f i)
    by (inl some) rest = (n, omega arith, some)
    by (inr none) rest = let r = rest (omega arith) in (r.0, omega (arith, r.1), r.2)

-- The sum of smaller values, one of them less.
pub upto-less : (f g : ℕ → ℕ) (i n : ℕ) → ((j : ℕ) → j < n → f j ≤ g j) → i < n → f i < g i → upto f n < upto g n
upto-less f g i zero h lt less = absurd (omega arith)
upto-less f g i (suc n) h lt less = by (cases_lt i n) (upto-less f g i n (λ j k. h j (omega arith)))
  where
    by : (i < n) ⊎ (n ≤ i) → (i < n → f i < g i → upto f n < upto g n) → upto f (suc n) < upto g (suc n)
    by (inl k) rest = omega (arith, rest k less, h n (omega arith))
    by (inr k) rest =
        let e : i ≡ n = omega arith in
        let last : f n < g n = subst (λ (j : ℕ). f j < g j) e less in
        omega (arith, last, upto-mono f g n (λ j k. h j (omega arith)))

-- Two sums change places.
pub total-upto : (f : ℕ → ℕ → ℕ) (l : List ℕ) (n : ℕ) → total (λ m. upto (f m) n) l ≡ upto (λ i. total (λ m. f m i) l) n
total-upto f [] n = sym (upto-zero n)
total-upto f (m ∷ l) n = omega (arith, total-upto f l n, upto-add (f m) (λ i. total (λ m. f m i) l) n)

pub total-bound : (f : ℕ → ℕ) (c : ℕ) (l : List ℕ) → ((x : ℕ) → Has x l → f x ≤ c) → total f l ≤ length l * c
total-bound f c [] h = omega arith
total-bound f c (x ∷ l) h = omega (arith, h x (inl refl), total-bound f c l (λ y i. h y (inr i)), suc-mul (length l) c)

-- The sum over the places of the paths, at one time, state by state.
abbrev pub shares : (ℕ → ℕ → List ℕ) → (ℕ → List ℕ → ℕ) → ℕ → ℕ → List ℕ → ℕ → ℕ
shares next f n s w i = upto (λ a. paths next s a (take i w) * f a (drop i w)) n

pub along-upto : (next : ℕ → ℕ → List ℕ) (f : ℕ → List ℕ → ℕ) (n : ℕ) → ((q l m : ℕ) → q < n → Has m (next q l) → m < n) → (w : List ℕ) (s : ℕ) → s < n → along next f s w ≤ upto (shares next f n s w) (suc (length w))
along-upto next f n inside [] s lt =
    let here = upto-has (λ a. one (eqb s a) * f a []) s n lt in
    let itself : one (eqb s s) * f s [] ≡ f s [] = ap (λ b. one b * f s []) (eq-eqb s s refl) ∙ one-mul (f s []) in
    omega (arith, here, itself)
along-upto next f n inside (l ∷ w) s lt =
    let here = upto-has (λ a. one (eqb s a) * f a (l ∷ w)) s n lt in
    let itself : one (eqb s s) * f s (l ∷ w) ≡ f s (l ∷ w) = ap (λ b. one b * f s (l ∷ w)) (eq-eqb s s refl) ∙ one-mul (f s (l ∷ w)) in
    let later = total-mono (λ m. along next f m w) (λ m. upto (shares next f n m w) (suc (length w))) (next s l) (λ m i. along-upto next f n inside w m (inside s l m lt i)) in
    let turned = total-upto (λ m i. shares next f n m w i) (next s l) (suc (length w)) in
    let each = upto-mono (λ i. total (λ m. shares next f n m w i) (next s l)) (λ i. shares next f n s (l ∷ w) (suc i)) (suc (length w)) (λ i small. swapped i) in
    let first = upto-first (shares next f n s (l ∷ w)) (suc (length w)) in
    omega (arith, here, itself, later, turned, each, first)
  where
    swapped : (i : ℕ) → total (λ m. shares next f n m w i) (next s l) ≤ shares next f n s (l ∷ w) (suc i)
    swapped i =
        let a = total-upto (λ m a. paths next m a (take i w) * f a (drop i w)) (next s l) n in
        let b = upto-mono (λ a. total (λ m. paths next m a (take i w) * f a (drop i w)) (next s l)) (λ a. total (λ m. paths next m a (take i w)) (next s l) * f a (drop i w)) n (λ a j. same a) in
        omega (arith, a, b)
      where
        same : (a : ℕ) → total (λ m. paths next m a (take i w) * f a (drop i w)) (next s l) ≤ total (λ m. paths next m a (take i w)) (next s l) * f a (drop i w)
        same a = omega (arith, total-times (λ m. paths next m a (take i w)) (f a (drop i w)) (next s l))
