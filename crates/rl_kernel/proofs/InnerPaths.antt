-- Paths along inner moves, and in the product of two copies of a graph.
use Rattle.std.proofs.Common.{◌≡◌, ℕ, zero, suc, ◌+◌, ◌*◌, ◌/◌, ◌%◌, ◌<◌, ◌≤◌, ◌⊎◌, inl, inr, true, List, [], ◌∷◌, length, get_or, sym, ◌∙◌, ap, subst, arith, div-add-mod'}
use Rattle.std.proofs.lemmas.Bool.{cases_lt}
use Rattle.std.proofs.lemmas.Nat.{div_below, mod_below}
use Rattle.rl_graph.specs.Paths.{Has, paths, Reaches, OnCycle, IsBounded}
use Rattle.rl_graph.specs.Graph.{Graph, edges_of, IsWhole}
use Rattle.rl_graph.specs.Product.{pair_moves}
use Rattle.rl_graph.specs.Parts.{PartTable, IsParts, number_of}
use Rattle.rl_graph.proofs.Sums.{total-there}
use Rattle.rl_graph.proofs.PathLaws.{nil-same, paths-nil, move-path, positive, Reaches-move, Reaches-trans, OnCycle-move}
use Rattle.rl_graph.proofs.GraphLaws.{edges-letter}
use Rattle.rl_graph.proofs.ProductLaws.{pair_paths}
use Rattle.rl_kernel.specs.Inner.{IsInner}
use Rattle.rl_kernel.specs.Members.{is_member}
use Rattle.rl_kernel.specs.Seats.{Seats, state_at, AreSeats}
use Rattle.rl_kernel.proofs.MemberLaws.{member-there}

-- Inner moves

pub inner-path : (g h : Graph) (p : PartTable) (s : Seats) → IsInner g p s h → (i j : ℕ) (w : List ℕ) → 1 ≤ paths (edges_of h) i j w → 1 ≤ paths (edges_of g) (state_at s i) (state_at s j) w
inner-path g h p s is i j [] k = let e = nil-same (edges_of h) i j k in rw e (omega (arith, paths-nil (edges_of g) (state_at s j)))
inner-path g h p s is i j (l ∷ w) k =
    let f = total-there (λ m. paths (edges_of h) m j w) (edges_of h i l) k in
    move-path (edges_of g) (state_at s i) (state_at s f.0) (state_at s j) l w ((is.kept i l f.0).0 f.1).move (inner-path g h p s is f.0 j w f.2)

-- A path within a component whose states are all there.
pub path-inner : (g h : Graph) (p : PartTable) (s : Seats) (k : ℕ) → IsWhole g → IsParts (edges_of g) g.states p → AreSeats p g.states g.states s → IsInner g p s h
    → ((f : ℕ) → f < g.states → number_of p f ≡ k → is_member s.states s.places f ≡ true)
    → (i j : ℕ) (w : List ℕ) → i < length s.states → j < length s.states → number_of p (state_at s i) ≡ k → number_of p (state_at s j) ≡ k
    → 1 ≤ paths (edges_of g) (state_at s i) (state_at s j) w → 1 ≤ paths (edges_of h) i j w
path-inner g h p s k whole parts seats is all i j [] hi hj ei ej way =
    let d = nil-same (edges_of g) (state_at s i) (state_at s j) way in
    let e : i ≡ j = sym (seats.place i hi) ∙ (ap (λ z. get_or s.places z 0) d ∙ seats.place j hj) in
    rw e (omega (arith, paths-nil (edges_of h) j))
path-inner g h p s k whole parts seats is all i j (l ∷ w) hi hj ei ej way =
    let f = total-there (λ m. paths (edges_of g) m (state_at s j) w) (edges_of g (state_at s i) l) way in
    let hm = whole.targets (state_at s i) l f.0 f.1 in
    let a = parts.order (state_at s i) f.0 (seats.below i hi) hm (Reaches-move (edges_of g) (state_at s i) f.0 l f.1) in
    let b = parts.order f.0 (state_at s j) hm (seats.below j hj) (w, f.2) in
    let c : number_of p f.0 ≡ k = omega (arith, a, b, ei, ej) in
    let t = member-there s.states s.places f.0 (all f.0 hm c) in
    let q = get_or s.places f.0 0 in
    move-path (edges_of h) i q j l w
    ((is.kept i l q).1 (record {
      from_in = hi;
      to_in = t.0;
      move = subst (λ (z : ℕ). Has z (edges_of g (state_at s i) l)) (sym t.1) f.1;
      same = ap (number_of p) t.1 ∙ (c ∙ sym ei);
    }))
    (path-inner g h p s k whole parts seats is all q j w t.0 hj (ap (number_of p) t.1 ∙ c) ej
    (subst (λ (z : ℕ). 1 ≤ paths (edges_of g) z (state_at s j) w) (sym t.1) f.2))

pub bounded-inner : (g h : Graph) (p : PartTable) (s : Seats) → IsInner g p s h → IsBounded (edges_of h) h.states g.letters
bounded-inner g h p s is = record {
  targets = λ q l m has. omega (arith, is.same_states, ((is.kept q l m).0 has).to_in);
  letters = λ q l k. edges-letter h q l (omega (arith, is.same_letters));
}

-- Pairs

pub positive-parts : (a b : ℕ) → 1 ≤ a * b → (1 ≤ a) × (1 ≤ b)
positive-parts zero b h = absurd (none h)
  where
    none : 1 ≤ 0 * b → ⊥
    none h = omega arith
positive-parts (suc a) zero h = absurd (none h)
  where
    none : 1 ≤ suc a * 0 → ⊥
    none h = omega arith
positive-parts (suc a) (suc b) h = (omega arith, omega arith)

pub pair-first : (n x : ℕ) → x < n * n → x / n < n
pair-first n x h = by (cases_lt 0 n)
  where
    by : (0 < n) ⊎ (n ≤ 0) → x / n < n
    by (inl k) = div_below x n n k h
    by (inr k) = let e : n ≡ 0 = omega arith in absurd (none (rw e at h))
      where
        none : x < 0 * 0 → ⊥
        none h = omega arith

pub pair-second : (n x : ℕ) → x < n * n → x % n < n
pair-second n x h = by (cases_lt 0 n)
  where
    by : (0 < n) ⊎ (n ≤ 0) → x % n < n
    by (inl k) = mod_below x n k
    by (inr k) = let e : n ≡ 0 = omega arith in absurd (none (rw e at h))
      where
        none : x < 0 * 0 → ⊥
        none h = omega arith

-- A path of the product is a path of each copy.
pub pair-both : (h : ℕ → ℕ → List ℕ) (n k : ℕ) → IsBounded h n k → (x y : ℕ) (w : List ℕ) → x < n * n → y < n * n → 1 ≤ paths (pair_moves h n) x y w → (1 ≤ paths h (x / n) (y / n) w) × (1 ≤ paths h (x % n) (y % n) w)
pair-both h n k b x y w hx hy p =
    let e = pair_paths h n k b (x / n) (x % n) (y / n) (y % n) w (pair-first n x hx) (pair-second n x hx) (pair-first n y hy) (pair-second n y hy) in
    let q : 1 ≤ paths (pair_moves h n) (x / n * n + x % n) (y / n * n + y % n) w =
    subst (λ (z : ℕ). 1 ≤ paths (pair_moves h n) z (y / n * n + y % n) w) (sym (div-add-mod' x n)) (subst (λ (z : ℕ). 1 ≤ paths (pair_moves h n) x z w) (sym (div-add-mod' y n)) p) in
    positive-parts (paths h (x / n) (y / n) w) (paths h (x % n) (y % n) w) (subst (λ (z : ℕ). 1 ≤ z) e q)

-- Paths of both copies are one of the product.
pub both-paths : (h : ℕ → ℕ → List ℕ) (n k : ℕ) → IsBounded h n k → (a b c d : ℕ) (w : List ℕ) → a < n → b < n → c < n → d < n → 1 ≤ paths h a c w → 1 ≤ paths h b d w → 1 ≤ paths (pair_moves h n) (a * n + b) (c * n + d) w
both-paths h n k bounded a b c d w ha hb hc hd p q =
    subst (λ (z : ℕ). 1 ≤ z) (sym (pair_paths h n k bounded a b c d w ha hb hc hd)) (positive (paths h a c w) (paths h b d w) p q)

-- A state that reaches a state on a cycle and is reached from it is on one.
pub cycle-same : (next : ℕ → ℕ → List ℕ) (x y : ℕ) → Reaches next x y → Reaches next y x → OnCycle next x → OnCycle next y
cycle-same next x y r back c = by back.0 back.1
  where
    by : (u : List ℕ) → 1 ≤ paths next y x u → OnCycle next y
    by [] p = subst (OnCycle next) (sym (nil-same next y x p)) c
    by (l ∷ u) p =
        let m = total-there (λ m. paths next m x u) (next y l) p in
        OnCycle-move next y l m.0 m.1 (Reaches-trans next m.0 x y (u, m.2) r)
