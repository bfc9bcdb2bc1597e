-- The sum over the prefixes: from a bound on the paths along each word to a bound on all the paths that are counted.
use Rattle.std.proofs.Common.{◌≡◌, ◌≢◌, ◌∙◌, ℕ, zero, suc, ◌+◌, ◌*◌, ◌^◌, ◌<◌, ◌≤◌, ◌⊎◌, inl, inr, List, [], ◌∷◌, length, take, drop, Bool, refl, sym, ap, subst, arith, mul-le-mul, suc-mul, zero-mul}
use Rattle.std.proofs.lemmas.Bool.{cases_lt}
use Rattle.std.proofs.Math.Nat.{pow-le-pow_left, pow-succ', pow-zero, one-le-pow, mul-zero}
use Rattle.std.proofs.lemmas.List.{length-take-le}
use Rattle.rl_graph.specs.Paths.{Has, Pairs, total, one, paths, walked, along, IsWithin}
use Rattle.rl_graph.proofs.Sums.{total-add, total-same, total-there, each-has, distinct-short}
use Rattle.rl_graph.proofs.FirstSums.{upto, upto-first, upto-bound, shares, along-upto}
use Rattle.rl_graph.specs.Bounds.{bound_n, bound_k, bound_b, bound_h, bound_c}
use Rattle.rl_graph.proofs.PathLaws.{one-le, paths-nil, move-path, along_moves, positive}
use Rattle.rl_sets.specs.Live.{below}
use Rattle.rl_pairs.proofs.SetLaws.{below-has}
use Rattle.rl_pairs.proofs.CountLaws.{length-below}
use Rattle.rl_pairs.proofs.GraphWords.{pow-one}

-- A walked path is a path with one more move, to a state for which the test is true.
steps_on : (ℕ → ℕ → List ℕ) → (ℕ → List ℕ → Bool) → ℕ → List ℕ → ℕ
steps_on next ok a [] = 0
steps_on next ok a (l ∷ w) = total (λ m. one (ok m w)) (next a l)

walked-along : (next : ℕ → ℕ → List ℕ) (ok : ℕ → List ℕ → Bool) (w : List ℕ) (s : ℕ) → walked next ok s w ≡ along next (steps_on next ok) s w
unfolding steps_on
walked-along next ok [] s = refl
walked-along next ok (l ∷ w) s =
    let split = total-add (λ m. one (ok m w)) (λ m. walked next ok m w) (next s l) in
    let each = total-same (λ m. walked next ok m w) (λ m. along next (steps_on next ok) m w) (next s l) (λ m i. walked-along next ok w m) in
    omega (arith, split, each)

ones : (p : ℕ → Bool) (l : List ℕ) → total (λ m. one (p m)) l ≤ length l
ones p [] = omega arith
ones p (m ∷ l) = omega (arith, one-le (p m), ones p l)

steps-few : (next : ℕ → ℕ → List ℕ) (ok : ℕ → List ℕ → Bool) (n k : ℕ) → IsWithin next n k → (a : ℕ) (w : List ℕ) → a < n → steps_on next ok a w ≤ k
unfolding steps_on
steps-few next ok n k within a [] lt = omega arith
steps-few next ok n k within a (l ∷ w) lt = omega (arith, ones (λ m. ok m w) (next a l), within.moves a l lt)

module _ (next : ℕ → ℕ → List ℕ) (ok : ℕ → List ℕ → Bool) (n k : ℕ) (within : IsWithin next n k) (s : ℕ) (start : s < n) where
  share : List ℕ → ℕ → ℕ
  share w i = shares next (steps_on next ok) n s w i

  share-bound : (w : List ℕ) (i c : ℕ) → ((q : ℕ) → paths next s q (take i w) ≤ c) → share w i ≤ n * (c * k)
  unfolding share
  share-bound w i c h =
      upto-bound (λ a. paths next s a (take i w) * steps_on next ok a (drop i w)) (c * k) n (λ a lt. mul-le-mul (h a) (steps-few next ok n k within a (drop i w) lt))

  share-last : (w : List ℕ) → share w (length w) ≡ 0
  unfolding share steps_on
  share-last w =
      let most = upto-bound (λ a. paths next s a (take (length w) w) * steps_on next ok a (drop (length w) w)) 0 n (λ a lt. omega (arith, none a)) in
      omega (arith, most, mul-zero n)
    where
      drop-all : (w : List ℕ) → drop (length w) w ≡ []
      drop-all [] = refl
      drop-all (l ∷ w) = drop-all w

      none : (a : ℕ) → paths next s a (take (length w) w) * steps_on next ok a (drop (length w) w) ≡ 0
      none a = ap (λ (v : List ℕ). paths next s a (take (length w) w) * steps_on next ok a v) (drop-all w) ∙ mul-zero (paths next s a (take (length w) w))

  walked-shares : (w : List ℕ) → walked next ok s w ≤ upto (share w) (length w)
  unfolding share
  walked-shares w =
      let all : along next (steps_on next ok) s w ≤ upto (share w) (length w) + share w (length w) = along-upto next (steps_on next ok) n within.targets w s start in
      omega (arith, walked-along next ok w s, all, share-last w)

  -- If the number of paths along a word is at most `b` times a power of its length plus one.
  pub sum_of_prefixes : (b d : ℕ) → ((q : ℕ) (u : List ℕ) → paths next s q u ≤ b * suc (length u) ^ d) → (w : List ℕ) → walked next ok s w ≤ length w * (n * (b * length w ^ d * k))
  sum_of_prefixes b d h w =
      let all = upto-bound (share w) (n * (b * length w ^ d * k)) (length w) (λ i lt. share-bound w i (b * length w ^ d) (λ q. bounded i q lt)) in
      omega (arith, walked-shares w, all)
    where
      taken : (i : ℕ) (w : List ℕ) → i < length w → suc (length (take i w)) ≤ length w
      taken zero [] lt = absurd (omega arith)
      taken zero (l ∷ w) lt = omega arith
      taken (suc i) [] lt = absurd (omega arith)
      taken (suc i) (l ∷ w) lt = omega (arith, taken i w (omega arith))

      same : (b : ℕ) → b ≤ b
      same b = omega arith

      bounded : (i q : ℕ) → i < length w → paths next s q (take i w) ≤ b * length w ^ d
      bounded i q lt =
          let p : suc (length (take i w)) ^ d ≤ length w ^ d = pow-le-pow_left (taken i w lt) d in
          let m : b * suc (length (take i w)) ^ d ≤ b * length w ^ d = mul-le-mul (same b) p in
          omega (arith, h q (take i w), m)

-- Without a cycle a path visits each state once at most

-- Some non-empty word leads from `s` to `x`.
abbrev Onward : (ℕ → ℕ → List ℕ) → ℕ → ℕ → Type 0
Onward next s x = (l : ℕ) × (v : List ℕ) × (1 ≤ paths next s x (l ∷ v))

visited : (next : ℕ → ℕ → List ℕ) → ((q l : ℕ) (w : List ℕ) → paths next q q (l ∷ w) ≡ 0) → (u : List ℕ) (s t : ℕ) → 1 ≤ paths next s t u
    → (vs : List ℕ) × (length vs ≡ length u) × ((x : ℕ) → Has x vs → Onward next s x) × Pairs (λ x y. x ≢ y) (s ∷ vs)
visited next none [] s t h = ([], refl, (λ x i. absurd i), (tt, tt))
visited next none (l ∷ u) s t h =
    let m = total-there (λ m. paths next m t u) (next s l) h in
    let r = visited next none u m.0 t m.2 in
    (m.0 ∷ r.0, ap suc r.1, onward m.0 m.1 r.0 r.2, (each-has (λ y. s ≢ y) (m.0 ∷ r.0) (λ x i e. apart x (onward m.0 m.1 r.0 r.2 x i) e), r.3))
  where
    onward : (m : ℕ) → Has m (next s l) → (vs : List ℕ) → ((x : ℕ) → Has x vs → Onward next m x) → (x : ℕ) → Has x (m ∷ vs) → Onward next s x
    onward m j vs f x (inl e) = (l, [], move-path next s m x l [] j (subst (λ (y : ℕ). 1 ≤ paths next m y []) (sym e) (omega (arith, paths-nil next m))))
    onward m j vs f x (inr i) = let p = f x i in (l, p.0 ∷ p.1, move-path next s m x l (p.0 ∷ p.1) j p.2)

    apart : (x : ℕ) → Onward next s x → s ≡ x → ⊥
    apart x p e = let c : 1 ≤ paths next s s (p.0 ∷ p.1) = subst (λ (y : ℕ). 1 ≤ paths next s y (p.0 ∷ p.1)) (sym e) p.2 in absurd (omega (arith, c, none s p.0 p.1))

short-path : (next : ℕ → ℕ → List ℕ) (n : ℕ) → ((q l m : ℕ) → q < n → Has m (next q l) → m < n) → ((q l : ℕ) (w : List ℕ) → paths next q q (l ∷ w) ≡ 0) → (u : List ℕ) (s t : ℕ) → s < n → 1 ≤ paths next s t u → length u < n
short-path next n inside none u s t lt h =
    let v = visited next none u s t h in
    omega (arith, distinct-short (s ∷ v.0) (below n) v.3 (λ x i. below-has n x (within v.0 v.2 x i)), length-below n, v.1)
  where
    within : (vs : List ℕ) → ((x : ℕ) → Has x vs → Onward next s x) → (x : ℕ) → Has x (s ∷ vs) → x < n
    within vs f x (inl e) = omega arith
    within vs f x (inr i) = let p = f x i in along_moves (λ q. q < n) next (λ q l m. inside q l m) s x (p.0 ∷ p.1) lt p.2

upto-short : (f : ℕ → ℕ) (c n len : ℕ) → ((i : ℕ) → i < len → i < n → f i ≤ c) → ((i : ℕ) → i < len → n ≤ i → f i ≡ 0) → upto f len ≤ n * c
upto-short f c n zero h none = omega arith
upto-short f c zero (suc len) h none =
    omega (arith, none 0 (omega arith) (omega arith), upto-first f len, upto-short (λ i. f (suc i)) c zero len (λ i lt small. absurd (omega arith)) (λ i lt le. none (suc i) (omega arith) (omega arith)))
upto-short f c (suc n) (suc len) h none =
    omega (arith, h 0 (omega arith) (omega arith), upto-first f len, upto-short (λ i. f (suc i)) c n len (λ i lt small. h (suc i) (omega arith) (omega arith)) (λ i lt le. none (suc i) (omega arith) (omega arith)), suc-mul n c)

taken-length : (i : ℕ) (w : List ℕ) → i < length w → length (take i w) ≡ i
taken-length i w lt = length-take-le i w (omega arith)

-- If there is no cycle, and at most `b` paths lead to a state along a word.
pub walked_short : (next : ℕ → ℕ → List ℕ) (ok : ℕ → List ℕ → Bool) (n k : ℕ) → IsWithin next n k → (s : ℕ) → s < n → ((q l : ℕ) (w : List ℕ) → paths next q q (l ∷ w) ≡ 0) → (b : ℕ) → ((q : ℕ) (u : List ℕ) → paths next s q u ≤ b) → (w : List ℕ) → walked next ok s w ≤ n * (n * (b * k))
walked_short next ok n k within s start none b h w =
    omega (arith, walked-shares next ok n k within s start w, upto-short (share next ok n k within s start w) (n * (b * k)) n (length w) (λ i lt small. share-bound next ok n k within s start w i b (λ q. h q (take i w))) (λ i lt le. gone i lt le))
  where
    no-path : (i : ℕ) → i < length w → n ≤ i → (q : ℕ) → paths next s q (take i w) ≤ 0
    no-path i lt le q = by (cases_lt 0 (paths next s q (take i w)))
      where
        by : (0 < paths next s q (take i w)) ⊎ (paths next s q (take i w) ≤ 0) → paths next s q (take i w) ≤ 0
        by (inl more) = absurd (omega (arith, short-path next n within.targets none (take i w) s q start more, taken-length i w lt))
        by (inr few) = few

    nought : (n k x : ℕ) → x ≤ n * (0 * k) → x ≡ 0
    nought n k x h = omega (arith, zero-mul k, mul-zero n, ap (λ y. n * y) (zero-mul k))

    gone : (i : ℕ) → i < length w → n ≤ i → share next ok n k within s start w i ≡ 0
    gone i lt le = nought n k (share next ok n k within s start w i) (share-bound next ok n k within s start w i 0 (no-path i lt le))

-- The bounds with the constants

more-factors : (x : ℕ) (d : ℕ) → 1 ≤ x → x ^ d ≤ x ^ suc d
more-factors x d h = let a : 1 * x ^ d ≤ x * x ^ d = mul-le-mul h (same (x ^ d)) in omega (arith, a, pow-succ' x d)
  where
    same : (y : ℕ) → y ≤ y
    same y = omega arith

-- In plain numbers.
put-together : (n k b c len power m : ℕ) → n * k * b ≤ c → 1 ≤ len * power → m ≤ len * (n * (b * power * k)) → 1 + m ≤ (1 + c) * (len * power)
put-together n k b c len power m h some le =
    let a : n * k * b * (len * power) ≤ c * (len * power) = mul-le-mul h (same (len * power)) in
    omega (arith, a)
  where
    same : (y : ℕ) → y ≤ y
    same y = omega arith

square-more : (n k b c : ℕ) → 1 ≤ n → b ≤ c → n * k * b ≤ n * n * k * c
square-more n k b c some h =
    let a : 1 * (n * k * b) ≤ n * (n * k * c) = mul-le-mul some (mul-le-mul (same (n * k)) h) in
    omega (arith, a)
  where
    same : (y : ℕ) → y ≤ y
    same y = omega arith

factor-some : (n k : ℕ) → 1 ≤ bound_h n k * (1 + n * k)
unfolding bound_h
factor-some n k = positive (bound_h n k) (1 + n * k) (one-le-pow n (1 + n * n * k * bound_b n) (omega arith)) (omega arith)

pub bound_by_paths : (next : ℕ → ℕ → List ℕ) (ok : ℕ → List ℕ → Bool) (s d : ℕ) → 1 ≤ bound_n s → IsWithin next (bound_n s) (bound_k s) → ((q : ℕ) (u : List ℕ) → paths next 0 q u ≤ (bound_h (bound_n s) (bound_k s) * (1 + bound_n s * bound_k s)) ^ suc d * suc (length u) ^ d)
    → (w : List ℕ) → 1 ≤ length w → 1 + walked next ok 0 w ≤ bound_c s (suc d) * length w ^ suc d
unfolding bound_c
bound_by_paths next ok s d some within h w long =
    let n : ℕ = bound_n s in
    let k : ℕ = bound_k s in
    let x : ℕ = bound_h n k * (1 + n * k) in
    let sum = sum_of_prefixes next ok n k within 0 some (x ^ suc d) d h w in
    let factor = square-more n k (x ^ suc d) (x ^ suc (suc d)) some (more-factors x (suc d) (factor-some n k)) in
    let power = one-le-pow d (length w) long in
    let all = put-together n k (x ^ suc d) (n * n * k * x ^ suc (suc d)) (length w) (length w ^ d) (walked next ok 0 w) factor (positive (length w) (length w ^ d) long power) sum in
    subst (λ y. 1 + walked next ok 0 w ≤ (1 + n * n * k * x ^ suc (suc d)) * y) (sym (pow-succ' (length w) d)) all

pub bound_without_cycle : (next : ℕ → ℕ → List ℕ) (ok : ℕ → List ℕ → Bool) (s : ℕ) → 1 ≤ bound_n s → IsWithin next (bound_n s) (bound_k s) → ((q l : ℕ) (w : List ℕ) → paths next q q (l ∷ w) ≡ 0) → ((q : ℕ) (u : List ℕ) → paths next 0 q u ≤ bound_h (bound_n s) (bound_k s))
    → (w : List ℕ) → 1 + walked next ok 0 w ≤ bound_c s 0 * length w ^ 0
unfolding bound_c
bound_without_cycle next ok s some within none h w =
    let n : ℕ = bound_n s in
    let k : ℕ = bound_k s in
    let x : ℕ = bound_h n k * (1 + n * k) in
    let sum = walked_short next ok n k within 0 some none (bound_h n k) h w in
    let more : bound_h n k * 1 ≤ bound_h n k * (1 + n * k) = mul-le-mul (same (bound_h n k)) (one-more (n * k)) in
    let to_x : n * (n * (bound_h n k * k)) ≤ n * (n * (x * k)) = mul-le-mul (same n) (mul-le-mul (same n) (mul-le-mul (less (bound_h n k) x more) (same k))) in
    plain n k x (x ^ suc zero) (length w ^ 0) (walked next ok 0 w) (pow-one x) (pow-zero (length w)) (omega (arith, sum, to_x))
  where
    same : (y : ℕ) → y ≤ y
    same y = omega arith

    one-more : (y : ℕ) → 1 ≤ 1 + y
    one-more y = omega arith

    less : (y z : ℕ) → y * 1 ≤ z → y ≤ z
    less y z h = omega arith

    plain : (n k x y p m : ℕ) → y ≡ x → p ≡ 1 → m ≤ n * (n * (x * k)) → 1 + m ≤ (1 + n * n * k * y) * p
    plain n k x y p m e d h = rw (e, d) (omega arith)
