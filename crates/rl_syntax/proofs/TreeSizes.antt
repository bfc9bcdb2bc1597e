-- The sizes of joined and of repeated trees.
use Rattle.std.proofs.Common.{◌≡◌, ℕ, zero, suc, ◌+◌, ◌-◌, ◌*◌, ◌<◌, ◌≤◌, Bool, true, false, List, [], ◌∷◌, ◌++◌, length, replicate, Option, None, Some, refl, sym, ap, ◌∙◌, ⊎_elim, arith}
use Rattle.std.proofs.lemmas.Bool.{cases_lt}
use Rattle.rl_syntax.specs.Tree.{Tree, size, capped}
use Rattle.rl_syntax.specs.Lowering.{in_turn, one_of, option_of, options, tail_of, times}
use Rattle.rl_syntax.specs.Counting.{joined_nodes}

-- The number of nodes of all trees together.
abbrev pub all_nodes : List Tree → ℕ
all_nodes [] = 0
all_nodes (t ∷ ts) = size t + all_nodes ts

-- The trees in sequence have their own nodes and those that join them.
pub size-in_turn : (ts : List Tree) → size (in_turn ts) ≡ joined_nodes (length ts) (all_nodes ts)
size-in_turn [] = refl
size-in_turn (t ∷ []) = omega arith
size-in_turn (t ∷ u ∷ us) = let e : size (in_turn (u ∷ us)) ≡ joined_nodes (length (u ∷ us)) (all_nodes (u ∷ us)) = size-in_turn (u ∷ us) in omega arith

pub size-one_of : (ts : List Tree) → size (one_of ts) ≡ joined_nodes (length ts) (all_nodes ts)
size-one_of [] = refl
size-one_of (t ∷ []) = omega arith
size-one_of (t ∷ u ∷ us) = let e : size (one_of (u ∷ us)) ≡ joined_nodes (length (u ∷ us)) (all_nodes (u ∷ us)) = size-one_of (u ∷ us) in omega arith

-- The nodes of the trees, plus one for each tree.
abbrev pub weight : List Tree → ℕ
weight [] = 0
weight (t ∷ ts) = suc (size t) + weight ts

-- Joined, they have one node less.
abbrev pub less_one : ℕ → ℕ
less_one zero = 1
less_one (suc n) = n

weight-in_turn : (t : Tree) (ts : List Tree) → weight (t ∷ ts) ≡ suc (size (in_turn (t ∷ ts)))
weight-in_turn t [] = omega arith
weight-in_turn t (u ∷ us) = let e : weight (u ∷ us) ≡ suc (size (in_turn (u ∷ us))) = weight-in_turn u us in omega arith

pub size-weight : (ts : List Tree) → size (in_turn ts) ≡ less_one (weight ts)
size-weight [] = refl
size-weight (t ∷ ts) = sym (ap less_one (weight-in_turn t ts))

pub weight-copies : (n : ℕ) (t : Tree) (ts : List Tree) → weight (replicate n t ++ ts) ≡ n * (size t + 1) + weight ts
weight-copies zero t ts = omega arith
weight-copies (suc n) t ts =
    let e : weight (replicate n t ++ ts) ≡ n * (size t + 1) + weight ts = weight-copies n t ts in
    let f : suc n * (size t + 1) ≡ (size t + 1) + n * (size t + 1) = grind arith in
    omega arith

size-option_of : (greedy : Bool) (t : Tree) → size (option_of greedy t) ≡ size t + 2
size-option_of true t = omega arith
size-option_of false t = omega arith

pub weight-options : (greedy : Bool) (t : Tree) (k : ℕ) → weight (options greedy t k) ≡ k * (size t + 3)
weight-options greedy t zero = omega arith
weight-options greedy t (suc zero) = let e : size (option_of greedy t) ≡ size t + 2 = size-option_of greedy t in omega arith
weight-options greedy t (suc (suc k)) =
    let u : Tree = in_turn (t ∷ options greedy t (suc k)) in
    let e : size (option_of greedy u) ≡ size u + 2 = size-option_of greedy u in
    let f : weight (options greedy t (suc k)) ≡ suc k * (size t + 3) = weight-options greedy t (suc k) in
    let g : suc (suc k) * (size t + 3) ≡ (size t + 3) + suc k * (size t + 3) = grind arith in
    omega arith

-- The weight of the copies after the required ones.
abbrev pub tail_weight : ℕ → Option ℕ → ℕ → ℕ
tail_weight least None nodes = nodes + 2
tail_weight least (Some most) nodes = (most - least) * (nodes + 3)

pub weight-tail : (greedy : Bool) (t : Tree) (least : ℕ) (most : Option ℕ) → weight (tail_of greedy t least most) ≡ tail_weight least most (size t)
weight-tail greedy t least None = omega arith
weight-tail greedy t least (Some most) = weight-options greedy t (most - least)

pub size-times : (least : ℕ) (most : Option ℕ) (greedy : Bool) (t : Tree) → size (times least most greedy t) ≡ less_one (least * (size t + 1) + tail_weight least most (size t))
size-times least most greedy t =
    size-weight (replicate least t ++ tail_of greedy t least most)
    ∙ ap less_one (weight-copies least t (tail_of greedy t least most) ∙ ap (λ n. least * (size t + 1) + n) (weight-tail greedy t least most))

-- A number above the cap is still capped when it is one less.
capped-less_one : (n : ℕ) → 18446744073709551615 < n → capped (less_one n) ≡ 18446744073709551615
capped-less_one zero h = absurd (omega arith)
capped-less_one (suc n) h = omega arith

past_copies : (a k y s : ℕ) → 18446744073709551615 ≤ s → 0 < y → 0 < a + k → 18446744073709551615 < a * (s + 1) + k * (s + y)
past_copies zero zero y s h p q = absurd (omega arith)
past_copies (suc a) k y s h p q =
    let e : suc a * (s + 1) ≡ (s + 1) + a * (s + 1) = grind arith in
    omega arith
past_copies zero (suc k) y s h p q =
    let e : suc k * (s + y) ≡ (s + y) + k * (s + y) = grind arith in
    omega arith

-- Copies of a tree with a capped size have the same capped size.
pub capped-copies : (a k y s : ℕ) → 0 < y → capped (less_one (a * (capped s + 1) + k * (capped s + y))) ≡ capped (less_one (a * (s + 1) + k * (s + y)))
capped-copies a k y s p =
    ⊎_elim (λ h.
    ⊎_elim (λ q. capped-less_one _ (past_copies a k y (capped s) (omega arith) p q) ∙ sym (capped-less_one _ (past_copies a k y s (omega arith) p q)))
    (λ q. let e : a ≡ 0 = omega arith in let f : k ≡ 0 = omega arith in
    let zeros : (x y : ℕ) → 0 * x + 0 * y ≡ 0 = λ x y. omega arith in
    rw (e, f) (ap (λ n. capped (less_one n)) (zeros (capped s + 1) (capped s + y) ∙ sym (zeros (s + 1) (s + y)))))
    (cases_lt 0 (a + k)))
    (λ h. let e : capped s ≡ s = omega arith in ap (λ n. capped (less_one (a * (n + 1) + k * (n + y)))) e)
    (cases_lt 18446744073709551615 s)

one-times : (n : ℕ) → 1 * n ≡ n
one-times n = omega arith

pub less_one-positive : (n m : ℕ) → n ≡ m → (n ≡ 0 → ⊥) → n - 1 ≡ less_one m
less_one-positive n zero e h = absurd (h e)
less_one-positive n (suc m) e h = omega arith

pub capped-times : (least : ℕ) (most : Option ℕ) (greedy : Bool) (t : Tree) (body : ℕ) → body ≡ capped (size t)
    → capped (less_one (least * (body + 1) + tail_weight least most body)) ≡ capped (size (times least most greedy t))
capped-times least None greedy t body e =
    ap (λ n. capped (less_one (least * (n + 1) + (n + 2)))) e
    ∙ ap (λ n. capped (less_one (least * (capped (size t) + 1) + n))) (sym (one-times (capped (size t) + 2)))
    ∙ capped-copies least 1 2 (size t) (omega arith)
    ∙ ap (λ n. capped (less_one (least * (size t + 1) + n))) (one-times (size t + 2))
    ∙ sym (ap capped (size-times least None greedy t))
capped-times least (Some most) greedy t body e =
    ap (λ n. capped (less_one (least * (n + 1) + (most - least) * (n + 3)))) e
    ∙ capped-copies least (most - least) 3 (size t) (omega arith)
    ∙ sym (ap capped (size-times least (Some most) greedy t))
