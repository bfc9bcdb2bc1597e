-- The costs of the matches from the places of a text, added up.
use Rattle.std.proofs.Common.{◌≡◌, ℕ, suc, ◌+◌, ◌*◌, ◌^◌, ◌<◌, ◌≤◌, Bool, true, false, List, [], ◌∷◌, length, if◌then◌else◌, arith, mul-le-mul_left, mul-le-mul_right, mul-add, pow-suc}
use Rattle.std.proofs.Math.Nat.{pow-le-pow_left}
use Rattle.std.proofs.lemmas.List.Elements.{All-tail}
use Rattle.rl_ranges.specs.declared.universe.Universe.{Universe}
use Rattle.rl_ranges.specs.Text.{code_count, IsText}
use Rattle.rl_syntax.specs.declared.re.Ending.{Ending}
use Rattle.rl_syntax.specs.Tree.{Tree}
use Rattle.rl_syntax.specs.Cost.{cost, matched}
use Rattle.rl_reach.specs.Places.{cost_of_all, cost_in_turn}

none-or : (b : Bool) (n m : ℕ) → n ≤ m → (if b then 0 else n) ≤ m
none-or true n m le = omega arith
none-or false n m le = le

pub turn-all : (t : Tree) (ending : Ending) (w : List ℕ) → cost_in_turn t ending w ≤ 1 + cost_of_all t ending w
turn-all t ending [] = omega (arith, none-or (matched t ending []) 1 1 (omega arith))
turn-all t ending (c ∷ w) = omega (arith, none-or (matched t ending (c ∷ w)) (cost_in_turn t ending w) (1 + cost_of_all t ending w) (turn-all t ending w))

-- A power of a number and of one more.
one-step : (c n d : ℕ) → c * suc n ^ d + c * n ^ suc d ≤ c * suc n ^ suc d
one-step c n d =
    let wider : n ^ d ≤ suc n ^ d = pow-le-pow_left (omega arith) d in
    let e : n ^ suc d ≡ n ^ d * n = pow-suc n d in
    let f : suc n ^ suc d ≡ suc n ^ d * suc n = pow-suc (suc n) d in
    let g : n ^ d * n ≤ suc n ^ d * n = mul-le-mul_right n wider in
    let step : suc n ^ d + n ^ suc d ≤ suc n ^ suc d = grind (arith, e, f, g) in
    let all : c * (suc n ^ d + n ^ suc d) ≤ c * suc n ^ suc d = mul-le-mul_left c step in
    let parts : c * (suc n ^ d + n ^ suc d) ≡ c * suc n ^ d + c * n ^ suc d = mul-add c (suc n ^ d) (n ^ suc d) in
    omega (arith, all, parts)

pub all-power : (u : Universe) (t : Tree) (ending : Ending) (c d : ℕ) → ((v : List ℕ) → IsText u v → cost t ending v ≤ c * (length v + 1) ^ d)
    → (w : List ℕ) → IsText u w → cost_of_all t ending w ≤ c * (length w + 1) ^ suc d
all-power u t ending c d most [] text =
    let e : (0 + 1) ^ suc d ≡ (0 + 1) ^ d * (0 + 1) = pow-suc (0 + 1) d in
    let f : (0 + 1) ^ d * (0 + 1) ≡ (0 + 1) ^ d = omega arith in
    let m : cost t ending [] ≤ c * (0 + 1) ^ d = most [] text in
    rw (e, f) m
all-power u t ending c d most (a ∷ w) text =
    let rest : cost_of_all t ending w ≤ c * (length w + 1) ^ suc d = all-power u t ending c d most w (All-tail (λ x. x < code_count u) a w text) in
    let longer : suc (length w) + 1 ≡ suc (length w + 1) = omega arith in
    let first : cost t ending (a ∷ w) ≤ c * suc (length w + 1) ^ d = rw longer at (most (a ∷ w) text) in
    let step : c * suc (length w + 1) ^ d + c * (length w + 1) ^ suc d ≤ c * suc (length w + 1) ^ suc d = one-step c (length w + 1) d in
    rw longer (omega (arith, rest, first, step))
