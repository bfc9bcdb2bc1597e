-- The constants of the upper bound rise with the size of the tree and with the degree.
use Rattle.std.proofs.Common.{◌≡◌, ℕ, suc, ◌+◌, ◌*◌, ◌^◌, ◌<◌, ◌≤◌, sym, arith, le_trans, mul-le-mul, mul-le-mul_left, mul-pos, mul_assoc, pow-suc, pow_mono}
use Rattle.std.proofs.Math.Nat.{one-le-pow, pow-le-pow_left, pow-le-pow_right}
use Rattle.rl_graph.specs.Bounds.{bound_n, bound_k, bound_b, bound_h, bound_c}

power-more : (a b i j : ℕ) → 0 < b → a ≤ b → i ≤ j → a ^ i ≤ b ^ j
power-more a b i j some base exponent = le_trans (pow-le-pow_left base i) (pow-le-pow_right some exponent)

square-more : (n m : ℕ) → n ≤ m → n * n ≤ m * m
square-more n m le = mul-le-mul le le

n-more : (s r : ℕ) → s ≤ r → bound_n s ≤ bound_n r
unfolding bound_n
n-more s r le = let exponent : 8 * (s + 1) ≤ 8 * (r + 1) = omega arith in mul-le-mul exponent (pow_mono exponent)

k-more : (s r : ℕ) → s ≤ r → bound_k s ≤ bound_k r
unfolding bound_k
k-more s r le = pow_mono (square-more s r le)

b-more : (n m : ℕ) → n ≤ m → bound_b n ≤ bound_b m
unfolding bound_b
b-more n m le =
    let square = square-more n m le in
    power-more (n * n + 1) (m * m + 1) (3 * (n * n) + 1) (3 * (m * m) + 1) (omega arith) (omega (arith, square)) (omega (arith, square))

h-more : (n m k l : ℕ) → n ≤ m → k ≤ l → bound_h n k ≤ bound_h m l
unfolding bound_h
h-more n m k l states moves =
    let base : n * n * k * bound_b n ≤ m * m * l * bound_b m = mul-le-mul (mul-le-mul (square-more n m states) moves) (b-more n m states) in
    power-more (1 + n * n * k * bound_b n) (1 + m * m * l * bound_b m) n m (omega arith) (omega (arith, base)) states

n-eight : (s : ℕ) → 8 * 1 ≤ bound_n s
unfolding bound_n
n-eight s = let nodes : 8 ≤ 8 * (s + 1) = omega arith in mul-le-mul nodes (one-le-pow (8 * (s + 1)) 2 (omega arith))

k-some : (s : ℕ) → 0 < bound_k s
unfolding bound_k
k-some s = one-le-pow (s * s) 2 (omega arith)

h-some : (n k : ℕ) → 0 < bound_h n k
unfolding bound_h
h-some n k = one-le-pow n (1 + n * n * k * bound_b n) (omega arith)

-- A greater power of a number of at least 4 is so much greater that twice the sum fits.
room-for-two : (a b x y i j : ℕ) → a ≤ b → 1 ≤ b → x ≤ y → 4 ≤ y → i < j → 2 * (1 + a * x ^ i) ≤ 1 + b * y ^ j
room-for-two a b x y i j le some base four lt =
    let less : a * x ^ i ≤ b * y ^ i = mul-le-mul le (pow-le-pow_left base i) in
    let one : 0 < b * y ^ i = mul-pos some (one-le-pow i y (omega arith)) in
    let fourfold : b * y ^ i * 4 ≤ b * y ^ i * y = mul-le-mul_left (b * y ^ i) four in
    let same : b * y ^ suc i ≡ b * y ^ i * y = rw (pow-suc y i) (sym (mul_assoc b (y ^ i) y)) in
    let positive : 0 < y = omega arith in
    let greater : b * y ^ suc i ≤ b * y ^ j = mul-le-mul_left b (pow-le-pow_right positive lt) in
    omega (arith, less, one, fourfold, same, greater)

-- The constant of a greater degree is at least twice as large, also for a larger tree.
pub c-twice : (s r d e : ℕ) → s ≤ r → d < e → 2 * bound_c s d ≤ bound_c r e
unfolding bound_c
c-twice s r d e le lt =
    let states = n-more s r le in
    let moves = k-more s r le in
    let n = bound_n r in
    let k = bound_k r in
    let step : bound_n s * bound_k s ≤ n * k = mul-le-mul states moves in
    let wider : 1 + bound_n s * bound_k s ≤ 1 + n * k = omega (arith, step) in
    let eight : 8 * 1 * 1 ≤ n * k = mul-le-mul (n-eight r) (k-some r) in
    let more : 4 ≤ 1 + n * k = omega (arith, eight) in
    let some : 0 < n = omega (arith, n-eight r) in
    let factor : bound_n s * bound_n s * bound_k s ≤ n * n * k = mul-le-mul (mul-le-mul states states) moves in
    let base : bound_h (bound_n s) (bound_k s) * (1 + bound_n s * bound_k s) ≤ bound_h n k * (1 + n * k) =
    mul-le-mul (h-more (bound_n s) n (bound_k s) k states moves) wider in
    let four : 1 * 4 ≤ bound_h n k * (1 + n * k) = mul-le-mul (h-some n k) more in
    room-for-two (bound_n s * bound_n s * bound_k s) (n * n * k) (bound_h (bound_n s) (bound_k s) * (1 + bound_n s * bound_k s)) (bound_h n k * (1 + n * k)) (suc d) (suc e)
    factor (mul-pos (mul-pos some some) (k-some r)) base (omega (arith, four)) (omega arith)

pub c-some : (s d : ℕ) → 1 ≤ bound_c s d
unfolding bound_c
c-some s d = omega arith
