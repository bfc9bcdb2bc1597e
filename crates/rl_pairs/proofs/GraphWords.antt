-- What pumped words do on any graph: a twin gives powers of two, a chain of splits that ends on a cycle gives powers of the
-- number of rounds.
use Rattle.std.proofs.Common.{◌≡◌, ℕ, zero, suc, ◌+◌, ◌*◌, ◌^◌, ◌≤◌, List, [], ◌∷◌, ◌++◌, length, Bool, true, false, eqb, eqb-true, refl, sym, ap, subst, ◌∙◌, arith, append_assoc, mul-le-mul}
use Rattle.std.proofs.Math.Nat.{pow-zero, pow-suc, pow-succ', one-mul}
use Rattle.rl_syntax.specs.Family.{copies, pumped}
use Rattle.rl_graph.specs.Paths.{one, paths, walked}
use Rattle.rl_graph.specs.Twins.{IsSplit, Link}
use Rattle.rl_graph.proofs.Sums.{total-mono, total-times}
use Rattle.rl_graph.proofs.PathLaws.{paths-nil, through-nil, through_one, through_two, one-le, one-true, positive}
use Rattle.rl_pairs.specs.Families.{Chained, chain_heads, chain_pumps}

pub pow-one : (k : ℕ) → k ^ 1 ≡ k
pow-one k = pow-suc k 0 ∙ (ap (λ n. n * k) (pow-zero k) ∙ one-mul k)

share-last : (e ok : Bool) (n m : ℕ) → (e ≡ true → (ok ≡ true) × (m ≡ n)) → one e * suc n ≤ one ok + m
share-last true ok n m h = rw ((h refl).0) (omega (arith, (h refl).1))
share-last false ok n m h = omega arith

share-more : (b n m : ℕ) (ok : Bool) → b * n ≤ m → b * n ≤ one ok + m
share-more b n m true h = omega arith
share-more b n m false h = omega arith

-- Paths to a state whose own paths are counted too, with the empty one.
pub walked_there : (next : ℕ → ℕ → List ℕ) (ok : ℕ → List ℕ → Bool) (s q : ℕ) (u v : List ℕ) → ok q v ≡ true → 1 ≤ length u → paths next s q u * suc (walked next ok q v) ≤ walked next ok s (u ++ v)
walked_there next ok s q [] v h k = absurd (omega arith)
walked_there next ok s q (l ∷ []) v h k =
    let a = total-times (λ m. paths next m q []) (suc (walked next ok q v)) (next s l) in
    let b = total-mono (λ m. paths next m q [] * suc (walked next ok q v)) (λ m. one (ok m v) + walked next ok m v) (next s l)
    (λ m i. share-last (eqb m q) (ok m v) (walked next ok q v) (walked next ok m v) (λ e. let same : m ≡ q = eqb-true m q e in (rw same h, rw same refl))) in
    omega (arith, a, b)
walked_there next ok s q (l ∷ (c ∷ u)) v h k =
    let a = total-times (λ m. paths next m q (c ∷ u)) (suc (walked next ok q v)) (next s l) in
    let b = total-mono (λ m. paths next m q (c ∷ u) * suc (walked next ok q v)) (λ m. one (ok m ((c ∷ u) ++ v)) + walked next ok m ((c ∷ u) ++ v)) (next s l)
    (λ m i. share-more (paths next m q (c ∷ u)) (suc (walked next ok q v)) (walked next ok m ((c ∷ u) ++ v)) (ok m ((c ∷ u) ++ v)) (walked_there next ok m q (c ∷ u) v h (omega arith))) in
    omega (arith, a, b)

-- Paths to a state whose own paths are counted.
pub walked_behind : (next : ℕ → ℕ → List ℕ) (ok : ℕ → List ℕ → Bool) (s q : ℕ) (u v : List ℕ) → paths next s q u * walked next ok q v ≤ walked next ok s (u ++ v)
walked_behind next ok s q [] v =
    through-nil (one (eqb s q)) (walked next ok q v) (walked next ok s v) (one-le (eqb s q)) (λ e. ap (λ x. walked next ok x v) (sym (eqb-true s q (one-true (eqb s q) e))))
walked_behind next ok s q (l ∷ u) v =
    let a = total-times (λ m. paths next m q u) (walked next ok q v) (next s l) in
    let b = total-mono (λ m. paths next m q u * walked next ok q v) (λ m. one (ok m (u ++ v)) + walked next ok m (u ++ v)) (next s l)
    (λ m i. share-more (paths next m q u) (walked next ok q v) (walked next ok m (u ++ v)) (ok m (u ++ v)) (walked_behind next ok m q u v)) in
    omega (arith, a, b)

-- The same from a bound on the number of paths.
times_behind : (next : ℕ → ℕ → List ℕ) (ok : ℕ → List ℕ → Bool) (s q k : ℕ) (u v : List ℕ) → k ≤ paths next s q u → k * walked next ok q v ≤ walked next ok s (u ++ v)
times_behind next ok s q k u v h =
    let a : k * walked next ok q v ≤ paths next s q u * walked next ok q v = mul-le-mul h le-self in
    omega (arith, a, walked_behind next ok s q u v)
  where
    le-self : walked next ok q v ≤ walked next ok q v
    le-self = omega arith

once_behind : (next : ℕ → ℕ → List ℕ) (ok : ℕ → List ℕ → Bool) (s q : ℕ) (u v : List ℕ) → 1 ≤ paths next s q u → walked next ok q v ≤ walked next ok s (u ++ v)
once_behind next ok s q u v h = omega (arith, times_behind next ok s q 1 u v h)

word_some : (next : ℕ → ℕ → List ℕ) (q : ℕ) (y : List ℕ) → 2 ≤ paths next q q y → 1 ≤ length y
word_some next q [] h = absurd (omega (arith, one-le (eqb q q)))
word_some next q (l ∷ y) h = omega arith

-- Each further round of a twin doubles.
twin_rounds : (next : ℕ → ℕ → List ℕ) (ok : ℕ → List ℕ → Bool) (q : ℕ) (y rest : List ℕ) (k : ℕ) → 2 ≤ paths next q q y → ok q rest ≡ true → 2 ^ suc k ≤ walked next ok q (copies (suc k) y ++ rest)
twin_rounds next ok q y rest zero h r =
    rw (append_assoc) (let a = walked_there next ok q q y rest r (word_some next q y h) in let b = mul-le-mul h le-one in omega (arith, a, b))
  where
    le-one : 1 ≤ suc (walked next ok q rest)
    le-one = omega arith
twin_rounds next ok q y rest (suc k) h r =
    let word : copies (suc (suc k)) y ++ rest ≡ y ++ (copies (suc k) y ++ rest) = append_assoc y (copies (suc k) y) rest in
    let power : 2 ^ suc (suc k) ≤ walked next ok q (y ++ (copies (suc k) y ++ rest)) = omega (arith, times_behind next ok q q 2 y (copies (suc k) y ++ rest) h, twin_rounds next ok q y rest k h r) in
    subst (λ (w : List ℕ). 2 ^ suc (suc k) ≤ walked next ok q w) (sym word) power

pub two_to_the : (next : ℕ → ℕ → List ℕ) (ok : ℕ → List ℕ → Bool) (s q : ℕ) (x y rest : List ℕ) (k : ℕ) → 1 ≤ paths next s q x → 2 ≤ paths next q q y → ok q rest ≡ true → 2 ^ k ≤ 1 + walked next ok s (x ++ (copies k y ++ rest))
two_to_the next ok s q x y rest zero g h r = omega arith
two_to_the next ok s q x y rest (suc k) g h r =
    omega (arith, once_behind next ok s q x (copies (suc k) y ++ rest) g, twin_rounds next ok q y rest k h r)

-- A state whose rest is refused is led to only by longer rests that are refused.
abbrev pub Stays : (ℕ → ℕ → List ℕ) → (ℕ → List ℕ → Bool) → Type 0
Stays next ok = (s t : ℕ) (u v : List ℕ) → 1 ≤ paths next s t u → ok t v ≡ true → ok s (u ++ v) ≡ true

-- Rounds of a cycle lead back.
pub round_paths : (next : ℕ → ℕ → List ℕ) (q : ℕ) (y : List ℕ) (k : ℕ) → 1 ≤ paths next q q y → 1 ≤ paths next q q (copies k y)
round_paths next q y zero h = omega (arith, paths-nil next q)
round_paths next q y (suc k) h =
    omega (arith, through_one next q q q y (copies k y), positive (paths next q q y) (paths next q q (copies k y)) h (round_paths next q y k h))

-- In any one of the rounds a split may be crossed.
pub across : (next : ℕ → ℕ → List ℕ) (r q : ℕ) (y : List ℕ) (k : ℕ) → IsSplit next r q y → k ≤ paths next r q (copies k y)
across next r q y zero h = omega arith
across next r q y (suc k) h =
    let a = through_two next r r q q y (copies k y) h.apart in
    let b : 1 * k ≤ paths next r r y * paths next r q (copies k y) = mul-le-mul h.before (across next r q y k h) in
    let c = positive (paths next r q y) (paths next q q (copies k y)) h.over (round_paths next q y k h.behind) in
    omega (arith, a, b, c)

-- The last cycle may be left after any one of the rounds.
pub cycle_rounds : (next : ℕ → ℕ → List ℕ) (ok : ℕ → List ℕ → Bool) (z : ℕ) (y rest : List ℕ) (k : ℕ) → Stays next ok → 1 ≤ paths next z z y → 1 ≤ length y → ok z rest ≡ true → k ≤ walked next ok z (copies k y ++ rest)
cycle_rounds next ok z y rest zero stays h some r = omega arith
cycle_rounds next ok z y rest (suc k) stays h some r =
    let v : List ℕ = copies k y ++ rest in
    let a = walked_there next ok z z y v (stays z z (copies k y) rest (round_paths next z y k h) r) some in
    let b : 1 * suc (walked next ok z v) ≤ paths next z z y * suc (walked next ok z v) = mul-le-mul h le-self in
    let all : suc k ≤ walked next ok z (y ++ v) = omega (arith, a, b, cycle_rounds next ok z y rest k stays h some r) in
    subst (λ (w : List ℕ). suc k ≤ walked next ok z w) (sym (append_assoc y (copies k y) rest)) all
  where
    le-self : suc (walked next ok z (copies k y ++ rest)) ≤ suc (walked next ok z (copies k y ++ rest))
    le-self = omega arith

-- The words of a chain, with `k` rounds of each split, and what leads to its end.
abbrev pub chain_word : ℕ → List Link → List ℕ → List ℕ
chain_word k [] x = x
chain_word k (m ∷ links) x = m.lead ++ (copies k m.word ++ chain_word k links x)

pub power_of_links : (next : ℕ → ℕ → List ℕ) (ok : ℕ → List ℕ → Bool) (s : ℕ) (links : List Link) (x : List ℕ) (z : ℕ) (y rest : List ℕ) (k : ℕ) → Stays next ok → Chained next s links x z → 1 ≤ paths next z z y → 1 ≤ length y → ok z rest ≡ true
    → k ^ suc (length links) ≤ walked next ok s (chain_word k links x ++ (copies k y ++ rest))
power_of_links next ok s [] x z y rest k stays c h some r =
    omega (arith, pow-one k, once_behind next ok s z x (copies k y ++ rest) c, cycle_rounds next ok z y rest k stays h some r)
power_of_links next ok s (m ∷ links) x z y rest k stays c h some r =
    let v : List ℕ = copies k y ++ rest in
    let t : List ℕ = chain_word k links x ++ v in
    let inner = power_of_links next ok m.to links x z y rest k stays c.2 h some r in
    let a : k * k ^ suc (length links) ≤ k * walked next ok m.to t = mul-le-mul (le-self k) inner in
    let b = times_behind next ok m.from m.to k (copies k m.word) t (across next m.from m.to m.word k c.1) in
    let d = once_behind next ok s m.from m.lead (copies k m.word ++ t) c.0 in
    let power : k ^ suc (suc (length links)) ≡ k * k ^ suc (length links) = pow-succ' k (suc (length links)) in
    let word : (m.lead ++ (copies k m.word ++ chain_word k links x)) ++ v ≡ m.lead ++ (copies k m.word ++ t) = simp append_assoc in
    rw word (omega (arith, power, a, b, d))
  where
    le-self : (n : ℕ) → n ≤ n
    le-self n = omega arith

pub text_of_chain : (k : ℕ) (links : List Link) (x last y end : List ℕ) → pumped k (chain_heads links x last) (chain_pumps links y) ++ end ≡ chain_word k links x ++ (copies k y ++ (last ++ end))
text_of_chain k [] x last y end = simp append_assoc
text_of_chain k (m ∷ links) x last y end =
    let t : List ℕ = pumped k (chain_heads links x last) (chain_pumps links y) in
    let apart : ((m.lead ++ copies k m.word) ++ t) ++ end ≡ m.lead ++ (copies k m.word ++ (t ++ end)) = simp append_assoc in
    let v : List ℕ = copies k y ++ (last ++ end) in
    let together : m.lead ++ (copies k m.word ++ (chain_word k links x ++ v)) ≡ (m.lead ++ (copies k m.word ++ chain_word k links x)) ++ v = simp append_assoc in
    apart ∙ (ap (λ (w : List ℕ). m.lead ++ (copies k m.word ++ w)) (text_of_chain k links x last y end) ∙ together)
