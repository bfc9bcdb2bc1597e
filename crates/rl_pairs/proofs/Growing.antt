-- Growth of powers: a power outgrows each smaller one, and a power of two outgrows each power.
use Rattle.std.proofs.Common.{◌≡◌, ◌∙◌, ℕ, zero, suc, ◌+◌, ◌*◌, ◌^◌, ◌<◌, ◌≤◌, sym, ap, subst, arith, le_trans, mul-le-mul, pow-suc, pow-add, pow_pos, pow_mono, mul-suc, suc-mul}
use Rattle.std.proofs.Math.Nat.{pow-le-pow_right, one-le-pow, pow-zero, two-pow-succ, mul-zero}
use Rattle.std.proofs.lemmas.Nat.{mul-pow}

-- In plain numbers.
too-many : (m x : ℕ) → 1 ≤ x → x * suc m ≤ m * x → ⊥
too-many m x some h = absurd (omega (arith, mul-suc x m))

at-most : (c b x y : ℕ) → y ≤ c * (b * x) → y ≤ c * b * x
at-most c b x y h = omega arith

-- The factor is in front.
parted : (c l k d y : ℕ) → y ≤ c * (l * k) ^ d → y ≤ c * l ^ d * k ^ d
parted c l k d y h = at-most c (l ^ d) (k ^ d) y (subst (λ (x : ℕ). y ≤ c * x) (mul-pow l k d) h)

no-power-below : (m d e : ℕ) → d < e → suc m ^ e ≤ m * suc m ^ d → ⊥
no-power-below m d e lt h = too-many m (suc m ^ d) (one-le-pow d (suc m) some) (subst (λ (x : ℕ). x ≤ m * suc m ^ d) (pow-suc (suc m) d) (le_trans (pow-le-pow_right some lt) h))
  where
    some : 0 < suc m
    some = omega arith

-- A power isn't bounded by a smaller one.
pub no-smaller-power : (c l d e : ℕ) → d < e → ((k : ℕ) → 1 ≤ k → k ^ e ≤ c * (l * k) ^ d) → ⊥
no-smaller-power c l d e lt h = no-power-below (c * l ^ d) d e lt (parted c l (suc (c * l ^ d)) d (suc (c * l ^ d) ^ e) (h (suc (c * l ^ d)) (omega arith)))

below-power : (n : ℕ) → n < 2 ^ n
below-power zero = pow_pos 0
below-power (suc n) = omega (arith, two-pow-succ n, below-power n)

power-of-power : (m d : ℕ) → (2 ^ m) ^ d ≡ 2 ^ (m * d)
power-of-power m zero = pow-zero (2 ^ m) ∙ sym (ap (λ (x : ℕ). 2 ^ x) (mul-zero m) ∙ pow-zero 2)
power-of-power m (suc d) =
    pow-suc (2 ^ m) d ∙ (ap (λ (x : ℕ). x * 2 ^ m) (power-of-power m d) ∙ sym (ap (λ (x : ℕ). 2 ^ x) (mul-suc m d) ∙ pow-add 2 (m * d) m))

-- In plain numbers.
doubled : (t n p : ℕ) → t * (n + n) ≤ p → (t + t) * n ≤ p
doubled t n p h = omega arith

both : (m a d : ℕ) → 1 ≤ m → m * (a + d) ≤ 2 ^ m → a + m * d ≤ 2 ^ m
both m a d some h = let more : 1 * a ≤ m * a = mul-le-mul some same in omega (arith, more)
  where
    same : a ≤ a
    same = omega arith

-- A number whose power of two exceeds a given multiple of it.
large : ℕ → ℕ
large n = suc n + suc n

large-some : (n : ℕ) → 1 ≤ large n
unfolding large
large-some n = omega arith

large-enough : (n : ℕ) → large n * n ≤ 2 ^ large n
unfolding large
large-enough n =
    let half : n + n ≤ 2 ^ suc n = omega (arith, two-pow-succ n, below-power n) in
    let less : suc n ≤ 2 ^ suc n = omega (arith, below-power (suc n)) in
    doubled (suc n) n (2 ^ (suc n + suc n)) (subst (λ (x : ℕ). suc n * (n + n) ≤ x) (sym (pow-add 2 (suc n) (suc n))) (mul-le-mul less half))

no-power-above : (a d m : ℕ) → a + m * d ≤ 2 ^ m → 2 ^ (2 ^ m) ≤ a * (2 ^ m) ^ d → ⊥
no-power-above a d m enough h = absurd (omega (arith, bound, lower, less, suc-mul a (2 ^ (m * d)), pow_pos (m * d)))
  where
    bound : 2 ^ (2 ^ m) ≤ a * 2 ^ (m * d)
    bound = subst (λ (x : ℕ). 2 ^ (2 ^ m) ≤ a * x) (power-of-power m d) h

    lower : 2 ^ a * 2 ^ (m * d) ≤ 2 ^ (2 ^ m)
    lower = subst (λ (x : ℕ). x ≤ 2 ^ (2 ^ m)) (pow-add 2 a (m * d)) (pow_mono enough)

    less : suc a * 2 ^ (m * d) ≤ 2 ^ a * 2 ^ (m * d)
    less = mul-le-mul (below-power a) (omega arith)

-- A power of two isn't bounded by a power.
pub no-power : (c l d : ℕ) → ((k : ℕ) → 1 ≤ k → 2 ^ k ≤ c * (l * k) ^ d) → ⊥
no-power c l d h =
    let a = c * l ^ d in
    let m = large (a + d) in
    no-power-above a d m (both m a d (large-some (a + d)) (large-enough (a + d))) (parted c l (2 ^ m) d (2 ^ (2 ^ m)) (h (2 ^ m) (pow_pos m)))
