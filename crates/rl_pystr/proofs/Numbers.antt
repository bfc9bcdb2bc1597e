-- The number that a few digits spell is small, and only a few digits are counted.
use Rattle.std.proofs.Common.{◌≡◌, ℕ, zero, suc, ◌+◌, ◌*◌, ◌^◌, ◌<◌, ◌≤◌, ◌-◌, true, false, cond, List, [], ◌∷◌, length, get_or, drop, arith, ap, le_refl, le_of_eq}
use Rattle.std.specs.Prelude.{min}
use Rattle.std.specs.List.{prefix_len}
use Rattle.std.proofs.lemmas.Nat.{mul-le, pow-add}
use Rattle.rl_pystr.specs.Escapes.{is_octal}

-- A number that `count` digits spell, in a base of at most 16 and with digit values of at most 36, is small.
abbrev pub IsSmall : ℕ → ℕ → Type 0
IsSmall count number = number + 3 ≤ 3 * 16 ^ count

grows : (i j : ℕ) → 16 ^ i ≤ 16 ^ (i + j)
grows i zero = le_of_eq (ap (λ k. 16 ^ k) (omega arith))
grows i (suc j) =
    let e : i + suc j ≡ i + j + 1 = omega arith in
    omega (arith, grows i j, pow-add 16 (i + j) 1, ap (λ k. 16 ^ k) e)

pub small_step : (base digit number count : ℕ) → base ≤ 16 → digit ≤ 36 → IsSmall count number → IsSmall (count + 1) (number * base + digit)
small_step base digit number count b d h =
    let product : number * base ≤ number * 16 = mul-le number base number 16 (le_refl number) b in
    omega (arith, product, pow-add 16 count 1)

pub small_bound : (number count : ℕ) → count ≤ 8 → IsSmall count number → number < 2 ^ 34
small_bound number count few h =
    let e : count + (8 - count) ≡ 8 = omega arith in
    omega (arith, grows count (8 - count), ap (λ k. 16 ^ k) e)

-- One more octal digit.
pub octal_more : (most n : ℕ) (text : List ℕ) → 0 < most → 0 < length text → is_octal (get_or text 0 0) ≡ true → n ≡ min (most - 1) (prefix_len is_octal (drop 1 text))
    → 1 + n ≡ min most (prefix_len is_octal text)
octal_more most n [] some one h e = absurd (omega arith)
octal_more zero n (c ∷ cs) some one h e = absurd (omega arith)
octal_more (suc most) n (c ∷ cs) some one h e =
    let long : prefix_len is_octal (c ∷ cs) ≡ 1 + prefix_len is_octal cs = ap (λ b. cond b (1 + prefix_len is_octal cs) 0) h in
    let fewer : n ≡ min (suc most - 1) (prefix_len is_octal cs) = e in
    omega (arith, fewer, long)

pub octal_none : (most : ℕ) (text : List ℕ) → is_octal (get_or text 0 0) ≡ false → 0 ≡ min most (prefix_len is_octal text)
octal_none most [] h = omega arith
octal_none most (c ∷ cs) h =
    let none : prefix_len is_octal (c ∷ cs) ≡ 0 = ap (λ b. cond b (1 + prefix_len is_octal cs) 0) h in
    omega (arith, none)

pub ruleset octals = (octal_more, octal_none)
