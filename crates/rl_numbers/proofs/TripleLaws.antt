-- The product of three copies of a graph: its moves by number, and its bounds.
use Rattle.std.proofs.Common.{◌≡◌, ◌∙◌, ℕ, zero, suc, ◌+◌, ◌*◌, ◌/◌, ◌%◌, ◌<◌, ◌≤◌, ◌^◌, List, length, get_or, map, flat_map, sym, refl, ap, ap₂, subst, arith, mul_comm, mul-le-mul}
use Rattle.std.proofs.lemmas.Nat.{mul-add-lt, div_below, mod_below}
use Rattle.rl_graph.specs.Graph.{Graph, edges_of}
use Rattle.rl_graph.specs.Paths.{Has, IsBounded}
use Rattle.rl_graph.specs.Product.{pair_moves}
use Rattle.rl_graph.proofs.Sums.{has-map, has-flat_map}
use Rattle.rl_graph.proofs.ProductLaws.{pairs_of, length-pairs, at-place, bounded-pairs}
use Rattle.rl_numbers.specs.Triples.{triple_moves, IsLow}

pub small-square : (a b : ℕ) → a ≤ 65536 → b ≤ 65536 → a * b ≤ 4294967296
small-square a b h k = let x : a * b ≤ 65536 * 65536 = mul-le-mul h k in x

pub small-cube : (a b : ℕ) → a ≤ 4294967296 → b ≤ 65536 → a * b ≤ 281474976710656
small-cube a b h k = let x : a * b ≤ 4294967296 * 65536 = mul-le-mul h k in x

-- If there is a triple, there is a state.
pub some-states : (n t : ℕ) → t < n * n * n → 0 < n
some-states zero t lt = absurd (omega (arith, lt))
some-states (suc n) t lt = omega arith

-- The states of a triple are states.
pub first-below : (n m t : ℕ) → m ≡ n → t < n * n * n → t / m / m < n
first-below n m t e lt = subst (λ (k : ℕ). t / k / k < n) (sym e) (div_below (t / n) n n (some-states n t lt) (div_below t n (n * n) (some-states n t lt) lt))

pub middle-below : (n m t : ℕ) → m ≡ n → t < n * n * n → t / m % m < n
middle-below n m t e lt = subst (λ (k : ℕ). t / k % k < n) (sym e) (mod_below (t / n) n (some-states n t lt))

pub last-below : (n m t : ℕ) → m ≡ n → t < n * n * n → t % m < n
last-below n m t e lt = subst (λ (k : ℕ). t % k < n) (sym e) (mod_below t n (some-states n t lt))

-- A triple has few moves.
pub triples-few : (g : Graph) (t l : ℕ) → IsLow g → length (triple_moves (edges_of g) g.states t l) ≤ 281474976710656
triples-few g t l low =
    let a = low.few_moves (t / g.states / g.states) l in
    let b = low.few_moves (t / g.states % g.states) l in
    let c = low.few_moves (t % g.states) l in
    let pairs = length-pairs g.states (edges_of g (t / g.states / g.states) l) (edges_of g (t / g.states % g.states) l) in
    let all = length-pairs g.states (pair_moves (edges_of g) g.states (t / g.states) l) (edges_of g (t % g.states) l) in
    let few = small-square (length (edges_of g (t / g.states / g.states) l)) (length (edges_of g (t / g.states % g.states) l)) (omega (arith, a)) (omega (arith, b)) in
    omega (arith, all, small-cube (length (pair_moves (edges_of g) g.states (t / g.states) l)) (length (edges_of g (t % g.states) l)) (omega (arith, pairs, few)) (omega (arith, c)))

pub bounded-triples : (next : ℕ → ℕ → List ℕ) (n k : ℕ) → IsBounded next n k → IsBounded (triple_moves next n) (n * n * n) k
bounded-triples next n k h = record { targets = targets; letters = λ t l i. ap (flat_map (λ x. map (λ y. x * n + y) (next (t % n) l))) ((bounded-pairs next n k h).letters (t / n) l i) }
  where
    targets : (t l m : ℕ) → Has m (triple_moves next n t l) → m < n * n * n
    targets t l m i =
        let a = has-flat_map (λ x. map (λ y. x * n + y) (next (t % n) l)) m (pair_moves next n (t / n) l) i in
        let b = has-map (λ y. a.0 * n + y) m (next (t % n) l) a.2 in
        omega (arith, b.2, mul_comm n (n * n), mul-add-lt a.0 n b.0 (n * n) ((bounded-pairs next n k h).targets (t / n) l a.0 a.1) (h.targets (t % n) l b.0 b.1))

module _ (g h : Graph) (q l n : ℕ) (row : List ℕ) (same : h ≡ g) (count : n ≡ g.states) (is : row ≡ edges_of h (q % n) l) where
  row-is : row ≡ edges_of g (q % g.states) l
  row-is = is ∙ ap₂ (λ (x : Graph) (m : ℕ). edges_of x (q % m) l) same count

  pairs-are : pair_moves (edges_of h) h.states (q / n) l ≡ pair_moves (edges_of g) g.states (q / g.states) l
  pairs-are = ap₂ (λ (x : Graph) (m : ℕ). pair_moves (edges_of x) x.states (q / m) l) same count

  pub triple-count : (m : ℕ) → m ≡ length (pair_moves (edges_of h) h.states (q / n) l) → m * length row ≡ length (triple_moves (edges_of g) g.states q l)
  triple-count m e =
      ap₂ (λ (u : ℕ) (v : List ℕ). u * length v) (e ∙ ap length pairs-are) row-is
      ∙ sym (length-pairs g.states (pair_moves (edges_of g) g.states (q / g.states) l) (edges_of g (q % g.states) l))

  pub triple-fits : (m : ℕ) → m ≡ length (pair_moves (edges_of h) h.states (q / n) l) → IsLow g → m * length row < 2 ^ 64
  triple-fits m e low =
      let a = low.few_moves (q / g.states / g.states) l in
      let b = low.few_moves (q / g.states % g.states) l in
      let c = low.few_moves (q % g.states) l in
      let pairs = length-pairs g.states (edges_of g (q / g.states / g.states) l) (edges_of g (q / g.states % g.states) l) in
      let la : length (edges_of g (q / g.states / g.states) l) ≤ 65536 = omega (arith, a) in
      let lb : length (edges_of g (q / g.states % g.states) l) ≤ 65536 = omega (arith, b) in
      let few = small-square (length (edges_of g (q / g.states / g.states) l)) (length (edges_of g (q / g.states % g.states) l)) la lb in
      let m_few : m ≤ 4294967296 = omega (arith, e, ap length pairs-are, pairs, few) in
      let row_few : length row ≤ 65536 = omega (arith, ap length row-is, c) in
      omega (arith, small-cube m (length row) m_few row_few)

  module _ (number : ℕ) (lt : number < length (triple_moves (edges_of g) g.states q l)) where
    bound : number < length (pair_moves (edges_of h) h.states (q / n) l) * length row
    bound = subst (λ (x : ℕ). number < x) (sym (triple-count (length (pair_moves (edges_of h) h.states (q / n) l)) refl)) lt

    wide : (a b : ℕ) → number < a * b → 0 < b
    wide a zero h = absurd (omega arith)
    wide a (suc b) h = omega arith

    pub row-some : 0 < length row
    row-some = wide (length (pair_moves (edges_of h) h.states (q / n) l)) (length row) bound

    pub pair-in : number / length row < length (pair_moves (edges_of h) h.states (q / n) l)
    pair-in = div_below number (length row) (length (pair_moves (edges_of h) h.states (q / n) l)) row-some bound

    pub last-in : number % length row < length row
    last-in = mod_below number (length row) row-some

    pub triple-target : (pair last : ℕ) → pair ≡ get_or (pair_moves (edges_of h) h.states (q / n) l) (number / length row) 0 → last ≡ get_or row (number % length row) 0
        → pair * n + last ≡ get_or (triple_moves (edges_of g) g.states q l) number 0
    triple-target pair last e d =
        ap₂ (λ (x y : ℕ). x * n + y) e d
        ∙ (ap (λ (m : ℕ). get_or (pair_moves (edges_of h) h.states (q / n) l) (number / length row) 0 * m + get_or row (number % length row) 0) count
        ∙ (sym (at-place g.states (pair_moves (edges_of h) h.states (q / n) l) row number bound)
        ∙ ap₂ (λ (a b : List ℕ). get_or (pairs_of g.states b a) number 0) pairs-are row-is))
