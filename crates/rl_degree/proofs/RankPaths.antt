-- Paths by ranks: where the states have numbers that never rise along a move, and no split lies between states of equal
-- number, the number of paths grows at most as a power of the length of the word.
use Rattle.std.proofs.lemmas.Bool.{eqb-false}
use Rattle.std.proofs.Common.{◌≡◌, ◌∙◌, ℕ, zero, suc, ◌+◌, ◌*◌, ◌^◌, ◌<◌, ◌≤◌, List, [], ◌∷◌, length, take, drop, Bool, true, eqb, eqb-true, sym, ap, subst, arith, mul-le-mul, zero-mul}
use Rattle.std.proofs.Math.Nat.{pow-succ', pow-zero, one-le-pow, pow-le-pow_left}
use Rattle.rl_graph.specs.Paths.{paths, inside, IsWithin}
use Rattle.rl_graph.specs.Twins.{HasNoTwin, IsRank}
use Rattle.rl_graph.specs.Bounds.{bound_b, bound_h}
use Rattle.rl_graph.proofs.Sums.{total-there}
use Rattle.rl_graph.proofs.PathLaws.{along_moves, positive, split-word}
use Rattle.rl_graph.proofs.FirstSums.{upto-bound, shares, along-upto}
use Rattle.rl_degree.specs.Leavers.{NeverRises, HasNoSplit, HasNoEqualSplit}
use Rattle.rl_degree.proofs.Leaving.{leaving, stay_or_leave, inside-less, inside-within, inside-no_twin, Has-passes, leaving-bound, strictly}
use Rattle.rl_degree.proofs.FiveTimes.{falls-along}
use Rattle.rl_degree.proofs.WithoutSplit.{without_split}
use Rattle.rl_degree.proofs.SplitLaws.{ranks-fall, ranks-split}

-- A path inside that is not empty ends at a state that passes the test.
ends-inside : (next : ℕ → ℕ → List ℕ) (p : ℕ → Bool) (s t : ℕ) (w : List ℕ) → 1 ≤ length w → 1 ≤ paths (inside p next) s t w → p t ≡ true
ends-inside next p s t [] some h = absurd (omega arith)
ends-inside next p s t (l ∷ w) some h =
    let m = total-there (λ m. paths (inside p next) m t w) (inside p next s l) h in
    along_moves (λ m. p m ≡ true) (inside p next) (λ a l m q i. Has-passes p m (next a l) i) m.0 t w (Has-passes p m.0 (next s l) m.1) m.2

module _ (next : ℕ → ℕ → List ℕ) (n k : ℕ) (rank : ℕ → ℕ) (within : IsWithin next n k) (no_twin : HasNoTwin next) (falls : NeverRises next n rank) (no_split : HasNoEqualSplit next n rank) where
  -- The states of one rank.
  abbrev of_rank : ℕ → ℕ → Bool
  of_rank c a = eqb (rank a) c

  no-split-inside : (c : ℕ) → HasNoSplit (inside (of_rank c) next) n
  no-split-inside c r q y lt h =
      let long = split-word (inside (of_rank c) next) r q y h in
      let one_rank = eqb-true (rank r) c (ends-inside next (of_rank c) r r y long h.before) in
      let other_rank = eqb-true (rank q) c (ends-inside next (of_rank c) r q y long h.over) in
      no_split r q y lt (one_rank ∙ sym other_rank) (record {
        apart = h.apart;
        before = more r r y h.before;
        over = more r q y h.over;
        behind = more q q y h.behind;
      })
    where
      more : (a b : ℕ) (y : List ℕ) → 1 ≤ paths (inside (of_rank c) next) a b y → 1 ≤ paths next a b y
      more a b y h = omega (arith, h, inside-less next (of_rank c) a b y)

  -- Few paths stay in one rank.
  few-inside : (c s t : ℕ) (w : List ℕ) → s < n → paths (inside (of_rank c) next) s t w ≤ bound_h n k
  few-inside c s t w lt = without_split (inside (of_rank c) next) n k (inside-within next (of_rank c) n k within) (inside-no_twin next (of_rank c) no_twin) (no-split-inside c) s t w lt

  product-few : (x y h c : ℕ) → x ≤ h → (1 ≤ x → y ≤ c) → x * y ≤ h * c
  product-few zero y h c le f = omega (arith, zero-mul y)
  product-few (suc x) y h c le f = mul-le-mul le (f (omega arith))

  -- Few paths leave their rank at one time, if a lower rank has at most `c` paths along what is left.
  rank-share : (s t c : ℕ) (w : List ℕ) → s < n → ((m : ℕ) (u : List ℕ) → m < n → rank m < rank s → length u < length w → paths next m t u ≤ c)
      → (i : ℕ) → shares (inside (of_rank (rank s)) next) (leaving next (of_rank (rank s)) t) n s w i ≤ n * (bound_h n k * (k * c))
  rank-share s t c w lt lower i =
      upto-bound (λ a. paths (inside (of_rank (rank s)) next) s a (take i w) * leaving next (of_rank (rank s)) t a (drop i w)) (bound_h n k * (k * c)) n
      (λ a small. product-few (paths (inside (of_rank (rank s)) next) s a (take i w)) (leaving next (of_rank (rank s)) t a (drop i w)) (bound_h n k) (k * c) (few-inside (rank s) s a (take i w) lt) (there a small))
    where
      leaves-few : (a : ℕ) (v : List ℕ) → length v ≤ length w → a < n → rank a ≤ rank s → leaving next (of_rank (rank s)) t a v ≤ k * c
      leaves-few a [] short small le = omega arith
      leaves-few a (l ∷ v) short small le =
          leaving-bound next (of_rank (rank s)) n k t a c l v within small
          (λ m j out. lower m v (within.targets a l m small j) (strictly (rank m) (rank s) (omega (arith, falls a l m small j)) (eqb-false (rank m) (rank s) out)) (omega arith))

      dropped : (i : ℕ) (w : List ℕ) → length (drop i w) ≤ length w
      dropped zero w = omega arith
      dropped (suc i) [] = omega arith
      dropped (suc i) (l ∷ w) = omega (arith, dropped i w)

      there : (a : ℕ) → a < n → 1 ≤ paths (inside (of_rank (rank s)) next) s a (take i w) → leaving next (of_rank (rank s)) t a (drop i w) ≤ k * c
      there a small h =
          let path : 1 ≤ paths next s a (take i w) = omega (arith, h, inside-less next (of_rank (rank s)) s a (take i w)) in
          leaves-few a (drop i w) (dropped i w) small (falls-along next n k rank within falls s a (take i w) lt path).1

  -- In plain numbers, `x` is the bound within one rank, `y` is the power of the lower ranks, and `z` is that of the length.
  rank-step : (n k x y z len m : ℕ) → 1 ≤ y → 1 ≤ z → 1 ≤ len → m ≤ x + len * (n * (x * (k * (y * z)))) → m ≤ (x * (1 + n * k) * y) * (len * z)
  rank-step n k x y z len m one-y one-z one-len h =
      let p : 1 ≤ y * (len * z) = positive y (len * z) one-y (positive len z one-len one-z) in
      let q : x * 1 ≤ x * (y * (len * z)) = mul-le-mul (same x) p in
      omega (arith, q)
    where
      same : (y : ℕ) → y ≤ y
      same y = omega arith

  rank-start : (n k x y z m : ℕ) → y ≡ x * (1 + n * k) → z ≡ 1 → m ≤ x → m ≤ y * z
  rank-start n k x y z m e d h = rw (e, d) (omega arith)

  one-h : 1 ≤ bound_h n k * (1 + n * k)
  unfolding bound_h
  one-h = positive (bound_h n k) (1 + n * k) (one-le-pow n (1 + n * n * k * bound_b n) (omega arith)) (omega arith)

  power-one : (x : ℕ) → x ^ 1 ≡ x
  power-one x = omega (arith, pow-succ' x 0, ap (λ y. x * y) (pow-zero x))

  pub by_ranks : (d s t : ℕ) (w : List ℕ) → s < n → rank s ≤ d → paths next s t w ≤ (bound_h n k * (1 + n * k)) ^ suc d * suc (length w) ^ d
  by_ranks zero s t w lt le =
      let all = along-upto (inside (of_rank (rank s)) next) (leaving next (of_rank (rank s)) t) n (inside-within next (of_rank (rank s)) n k within).targets w s lt in
      let each = upto-bound (shares (inside (of_rank (rank s)) next) (leaving next (of_rank (rank s)) t) n s w) (n * (bound_h n k * (k * 0))) (suc (length w)) (λ i small. rank-share s t 0 w lt (λ m u j lower short. absurd (omega arith)) i) in
      let sum = stay_or_leave next (of_rank (rank s)) t s w in
      rank-start n k (bound_h n k) ((bound_h n k * (1 + n * k)) ^ 1) (suc (length w) ^ 0) (paths next s t w) (power-one (bound_h n k * (1 + n * k))) (pow-zero (suc (length w)))
      (omega (arith, all, each, sum, few-inside (rank s) s t w lt))
  by_ranks (suc d) s t w lt le =
      let y : ℕ = bound_h n k * (1 + n * k) in
      let len : ℕ = suc (length w) in
      let c : ℕ = y ^ suc d * len ^ d in
      let all = along-upto (inside (of_rank (rank s)) next) (leaving next (of_rank (rank s)) t) n (inside-within next (of_rank (rank s)) n k within).targets w s lt in
      let each = upto-bound (shares (inside (of_rank (rank s)) next) (leaving next (of_rank (rank s)) t) n s w) (n * (bound_h n k * (k * c))) len (λ i small. rank-share s t c w lt (λ m u j lower short. shorter m u short (by_ranks d m t u j (omega arith))) i) in
      let sum = stay_or_leave next (of_rank (rank s)) t s w in
      let step = rank-step n k (bound_h n k) (y ^ suc d) (len ^ d) len (paths next s t w) (one-le-pow (suc d) y one-h) (one-le-pow d len (omega arith)) (omega arith) (omega (arith, all, each, sum, few-inside (rank s) s t w lt)) in
      subst (λ z. paths next s t w ≤ y ^ suc (suc d) * z) (sym (pow-succ' len d)) (subst (λ z. paths next s t w ≤ z * (len * len ^ d)) (sym (pow-succ' y (suc d))) step)
    where
      same : (y : ℕ) → y ≤ y
      same y = omega arith

      shorter : (m : ℕ) (u : List ℕ) → length u < length w → paths next m t u ≤ (bound_h n k * (1 + n * k)) ^ suc d * suc (length u) ^ d → paths next m t u ≤ (bound_h n k * (1 + n * k)) ^ suc d * suc (length w) ^ d
      shorter m u short few =
          let p : suc (length u) ^ d ≤ suc (length w) ^ d = pow-le-pow_left (longer (length u) (length w) short) d in
          let q : (bound_h n k * (1 + n * k)) ^ suc d * suc (length u) ^ d ≤ (bound_h n k * (1 + n * k)) ^ suc d * suc (length w) ^ d = mul-le-mul (same ((bound_h n k * (1 + n * k)) ^ suc d)) p in
          omega (arith, few, q)
        where
          longer : (i j : ℕ) → i < j → suc i ≤ suc j
          longer i j lt = omega arith

-- The same holds of the ranks, which are the lengths of longest chains.
pub by_degree : (next : ℕ → ℕ → List ℕ) (n k : ℕ) (rank : ℕ → ℕ) → IsWithin next n k → HasNoTwin next → ((q : ℕ) → q < n → IsRank next q (rank q))
    → (s t : ℕ) (w : List ℕ) → s < n → paths next s t w ≤ (bound_h n k * (1 + n * k)) ^ suc (rank s) * suc (length w) ^ rank s
by_degree next n k rank within none ranks s t w lt =
    by_ranks next n k rank within none (ranks-fall next n k rank within ranks) (ranks-split next n k rank within ranks) (rank s) s t w lt (omega arith)
