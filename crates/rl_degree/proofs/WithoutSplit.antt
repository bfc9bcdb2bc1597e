-- Paths in a graph without a twin and without a split: their number has a bound that does not grow with the word.
use Rattle.std.proofs.Common.{◌≡◌, ◌∙◌, ℕ, zero, suc, ◌+◌, ◌*◌, ◌^◌, ◌<◌, ◌≤◌, ◌⊎◌, inl, inr, List, [], ◌∷◌, ◌++◌, length, take, drop, cond, Bool, true, false, eqb, eqb-true, eq-eqb, refl, sym, ap, subst, arith, mul-le-mul, zero-mul}
use Rattle.std.proofs.lemmas.Bool.{cases_lt, eqb-false}
use Rattle.std.proofs.Math.Nat.{pow-succ', one-le-pow}
use Rattle.rl_graph.specs.Paths.{Has, Each, Pairs, paths, inside, IsWithin}
use Rattle.rl_graph.specs.Twins.{HasNoTwin}
use Rattle.rl_graph.specs.Bounds.{bound_b, bound_h}
use Rattle.rl_graph.proofs.Sums.{total-there, Has-filter}
use Rattle.rl_graph.proofs.PathLaws.{nil-same, through_one, along_moves, one-le}
use Rattle.rl_graph.proofs.FirstSums.{upto, upto-there, upto-bound, shares, along-upto}
use Rattle.rl_degree.specs.Leavers.{Runs, HasNoSplit}
use Rattle.rl_degree.proofs.Pigeons.{Each-map}
use Rattle.rl_degree.proofs.Leaving.{leaving, stay_or_leave, inside-less, inside-within, Has-passes, leaving-bound, strictly}
use Rattle.rl_degree.proofs.FiveTimes.{first_then, runs-there, runs-part, falls-along, Leaver, LeavesLater, split_of_many}
use Rattle.rl_degree.proofs.Levels.{stable, table, IsLevel, level-of, Reached, reach_count}

-- The path passes a test at one time, and does not pass it at the next.
record Leaves (next : ℕ → ℕ → List ℕ) (p : ℕ → Bool) (s i : ℕ) (w : List ℕ) : Type 0 where
  at : ℕ → ℕ
  start : at 0 ≡ s
  runs : Runs next w at
  within : i < length w
  in_it : p (at i) ≡ true
  out_of_it : p (at (suc i)) ≡ false

-- If a product isn't 0, its factors aren't 0.
factors : (x y : ℕ) → 1 ≤ x * y → (1 ≤ x) × (1 ≤ y)
factors zero y h = absurd (omega (arith, zero-mul y))
factors (suc x) zero h = absurd (omega arith)
factors (suc x) (suc y) h = (omega arith, omega arith)

leaves-there : (next : ℕ → ℕ → List ℕ) (p : ℕ → Bool) (t i s a : ℕ) (w : List ℕ) → p s ≡ true → 1 ≤ paths (inside p next) s a (take i w) → 1 ≤ leaving next p t a (drop i w) → Leaves next p s i w
leaves-there next p t zero s a [] here h k = absurd (omega arith)
leaves-there next p t (suc i) s a [] here h k = absurd (omega arith)
leaves-there next p t zero s a (l ∷ w) here h k =
    let m = total-there (λ m. cond (p m) 0 (paths next m t w)) (next a l) k in
    let out = goes (p m.0) (paths next m.0 t w) m.2 in
    let r = runs-there next m.0 t w out.1 in
    let same : s ≡ a = nil-same (inside p next) s a h in
    record {
      at = first_then s r.0;
      start = refl;
      runs = (subst (λ (x : ℕ). Has x (next s l)) (sym r.1) (subst (λ (x : ℕ). Has m.0 (next x l)) (sym same) m.1), r.2);
      within = omega arith;
      in_it = here;
      out_of_it = ap p r.1 ∙ out.0;
    }
  where
    goes : (b : Bool) (x : ℕ) → 1 ≤ cond b 0 x → (b ≡ false) × (1 ≤ x)
    goes true x h = absurd (omega arith)
    goes false x h = (refl, h)
leaves-there next p t (suc i) s a (l ∷ w) here h k =
    let m = total-there (λ m. paths (inside p next) m a (take i w)) (inside p next s l) h in
    let r = leaves-there next p t i m.0 a w (Has-passes p m.0 (next s l) m.1) m.2 k in
    record {
      at = first_then s r.at;
      start = refl;
      runs = (subst (λ (x : ℕ). Has x (next s l)) (sym r.start) (Has-filter p m.0 (next s l) m.1), r.runs);
      within = omega (arith, r.within);
      in_it = r.in_it;
      out_of_it = r.out_of_it;
    }

module _ (next : ℕ → ℕ → List ℕ) (n k : ℕ) (level : ℕ → ℕ) (within : IsWithin next n k) (levels : IsLevel next n level) (no_twin : HasNoTwin next) (no_split : HasNoSplit next n) where
  -- The states on the level of `s`.
  abbrev on : ℕ → ℕ → Bool
  on s a = eqb (level a) (level s)

  -- On one level, at most one path leads from a state to another along a word.
  single : (s q : ℕ) (u : List ℕ) → s < n → paths (inside (on s) next) s q u ≤ 1
  single s q u lt = by (cases_lt 1 (paths (inside (on s) next) s q u))
    where
      by : (1 < paths (inside (on s) next) s q u) ⊎ (paths (inside (on s) next) s q u ≤ 1) → paths (inside (on s) next) s q u ≤ 1
      by (inr few) = few
      by (inl two) =
          let there : 1 ≤ paths next s q u = omega (arith, inside-less next (on s) s q u) in
          let passes : on s q ≡ true = along_moves (λ m. on s m ≡ true) (inside (on s) next) (λ a l m p i. Has-passes (on s) m (next a l) i) s q u (eq-eqb (level s) (level s) refl) (omega arith) in
          let small = falls-along next n k level within levels.falls s q u lt there in
          let back = levels.back s q lt small.0 (eqb-true (level q) (level s) passes) (u, there) in
          let both : 2 * 1 ≤ paths next s q u * paths next q s back.0 = mul-le-mul (more (inside-less next (on s) s q u)) back.1 in
          absurd (omega (arith, both, through_one next s q s u back.0, no_twin s (u ++ back.0)))
        where
          more : paths (inside (on s) next) s q u ≤ paths next s q u → 2 ≤ paths next s q u
          more h = omega arith

  -- A path that leaves the level is one of a leaver.
  leaver : (s i : ℕ) (w : List ℕ) → s < n → Leaves next (on s) s i w → (x : Leaver next level s w) × (x.time ≡ i)
  leaver s i w lt x = (record { time = i; at = x.at; start = x.start; runs = x.runs; within = x.within; on_it = eqb-true (level (x.at i)) (level s) x.in_it; below_it = less }, refl)
    where
      less : level (x.at (suc i)) < level s
      less =
          let p : 1 ≤ paths next (x.at 0) (x.at (suc i)) (take (suc i) w) = runs-part next w x.at 0 (suc i) (suc i) x.runs (omega arith) (omega (arith, x.within)) in
          let small : x.at 0 < n = subst (λ (q : ℕ). q < n) (sym x.start) lt in
          let r = falls-along next n k level within levels.falls (x.at 0) (x.at (suc i)) (take (suc i) w) small p in
          strictly (level (x.at (suc i))) (level s) (subst (λ (q : ℕ). level (x.at (suc i)) ≤ level q) x.start r.1) (eqb-false (level (x.at (suc i))) (level s) x.out_of_it)

  -- There is a leaver for each time at which a path leaves, the later ones first.
  gathered : (s : ℕ) (w : List ℕ) (f : ℕ → ℕ) (c m : ℕ) → ((i : ℕ) → f i ≤ c) → ((i : ℕ) → 1 ≤ f i → (x : Leaver next level s w) × (x.time ≡ i))
      → (l : List (Leaver next level s w)) × Pairs LeavesLater l × Each (λ x. x.time < m) l × (upto f m ≤ length l * c)
  gathered s w f c zero h there = ([], tt, tt, omega arith)
  gathered s w f c (suc m) h there = by (cases_lt 0 (f m)) (gathered s w f c m h there)
    where
      earlier : (i j m : ℕ) → i < m → j ≡ m → i < j
      earlier i j m lt e = omega arith

      wider : (i m : ℕ) → i < m → i < suc m
      wider i m lt = omega arith

      last : (i m : ℕ) → i ≡ m → i < suc m
      last i m e = omega arith

      by : (0 < f m) ⊎ (f m ≤ 0) → (l : List (Leaver next level s w)) × Pairs LeavesLater l × Each (λ x. x.time < m) l × (upto f m ≤ length l * c)
          → (l : List (Leaver next level s w)) × Pairs LeavesLater l × Each (λ x. x.time < suc m) l × (upto f (suc m) ≤ length l * c)
      by (inl some) r =
          let x = there m some in (
            x.0 ∷ r.0,
            (Each-map (λ y. y.time < m) (LeavesLater x.0) r.0 (λ y lt. earlier y.time x.0.time m lt x.1) r.2, r.1),
            (last x.0.time m x.1, Each-map (λ y. y.time < m) (λ y. y.time < suc m) r.0 (λ y lt. wider y.time m lt) r.2),
            omega (arith, r.3, h m),
          )
      by (inr none) r = (r.0, r.1, Each-map (λ y. y.time < m) (λ y. y.time < suc m) r.0 (λ y lt. wider y.time m lt) r.2, omega (arith, r.3))

  -- Few paths leave at one time, if a lower level has at most `c` paths.
  share-few : (s t c : ℕ) (w : List ℕ) → s < n → ((m : ℕ) (u : List ℕ) → m < n → level m < level s → paths next m t u ≤ c)
      → (i : ℕ) → shares (inside (on s) next) (leaving next (on s) t) n s w i ≤ n * (k * c)
  share-few s t c w lt lower i = upto-bound (λ a. paths (inside (on s) next) s a (take i w) * leaving next (on s) t a (drop i w)) (k * c) n (λ a small. by a small (cases_lt 0 (paths (inside (on s) next) s a (take i w))))
    where
      leaves-few : (a : ℕ) (v : List ℕ) → a < n → level a ≤ level s → leaving next (on s) t a v ≤ k * c
      leaves-few a [] small le = omega arith
      leaves-few a (l ∷ v) small le =
          leaving-bound next (on s) n k t a c l v within small
          (λ m j out. lower m v (within.targets a l m small j) (strictly (level m) (level s) (omega (arith, levels.falls a l m small j)) (eqb-false (level m) (level s) out)))

      none : (x y z : ℕ) → x ≤ 0 → x * y ≤ z
      none zero y z h = omega (arith, zero-mul y)
      none (suc x) y z h = absurd (omega arith)

      once : (x y z : ℕ) → x ≤ 1 → y ≤ z → x * y ≤ z
      once zero y z h g = omega (arith, zero-mul y)
      once (suc zero) y z h g = omega arith
      once (suc (suc x)) y z h g = absurd (omega arith)

      by : (a : ℕ) → a < n → (0 < paths (inside (on s) next) s a (take i w)) ⊎ (paths (inside (on s) next) s a (take i w) ≤ 0) → paths (inside (on s) next) s a (take i w) * leaving next (on s) t a (drop i w) ≤ k * c
      by a small (inr nothing) = none (paths (inside (on s) next) s a (take i w)) (leaving next (on s) t a (drop i w)) (k * c) nothing
      by a small (inl some) =
          let there : 1 ≤ paths next s a (take i w) = omega (arith, inside-less next (on s) s a (take i w)) in
          let r = falls-along next n k level within levels.falls s a (take i w) lt there in
          once (paths (inside (on s) next) s a (take i w)) (leaving next (on s) t a (drop i w)) (k * c) (single s a (take i w) lt) (leaves-few a (drop i w) small r.1)

  -- If a path is counted, it leaves at that time.
  share-there : (s t : ℕ) (w : List ℕ) → s < n → (i : ℕ) → 1 ≤ shares (inside (on s) next) (leaving next (on s) t) n s w i → (x : Leaver next level s w) × (x.time ≡ i)
  share-there s t w lt i h =
      let a = upto-there (λ a. paths (inside (on s) next) s a (take i w) * leaving next (on s) t a (drop i w)) n h in
      let both = factors (paths (inside (on s) next) s a.0 (take i w)) (leaving next (on s) t a.0 (drop i w)) a.2 in
      leaver s i w lt (leaves-there next (on s) t i s a.0 w (eq-eqb (level s) (level s) refl) both.0 both.1)

  -- The step in plain numbers.
  level-step : (n k b y few m : ℕ) → 1 ≤ n → 1 ≤ y → few ≤ b → m ≤ 1 + few * (n * (k * y)) → m ≤ (1 + n * n * k * b) * y
  level-step n k b y few m some one-y h le =
      let z : few * (n * (k * y)) ≤ b * (n * (k * y)) = mul-le-mul h (same (n * (k * y))) in
      let square : 1 * (b * (n * (k * y))) ≤ n * (b * (n * (k * y))) = mul-le-mul some (same (b * (n * (k * y)))) in
      omega (arith, z, square)
    where
      same : (y : ℕ) → y ≤ y
      same y = omega arith

  by_levels : (t e s : ℕ) (w : List ℕ) → s < n → level s ≤ e → paths next s t w ≤ (1 + n * n * k * bound_b n) ^ e
  by_levels t zero s w lt le = absurd (omega (arith, levels.some s lt))
  by_levels t (suc e) s w lt le =
      let x : ℕ = 1 + n * n * k * bound_b n in
      let g = gathered s w (shares (inside (on s) next) (leaving next (on s) t) n s w) (n * (k * x ^ e)) (suc (length w))
      (share-few s t (x ^ e) w lt (λ m u small lower. by_levels t e m u small (omega arith)))
      (share-there s t w lt) in
      let all = along-upto (inside (on s) next) (leaving next (on s) t) n (inside-within next (on s) n k within).targets w s lt in
      let sum = stay_or_leave next (on s) t s w in
      let stays = single s t w lt in
      let power = one-le-pow e x (omega arith) in
      subst (λ y. paths next s t w ≤ y) (sym (pow-succ' x e))
      (level-step n k (bound_b n) (x ^ e) (length g.0) (paths next s t w) (omega arith) power (few g.0 g.1 (cases_lt (length g.0) (bound_b n))) (omega (arith, all, sum, stays, g.3)))
    where
      few : (l : List (Leaver next level s w)) → Pairs LeavesLater l → (length l < bound_b n) ⊎ (bound_b n ≤ length l) → length l ≤ bound_b n
      few l p (inl h) = omega arith
      few l p (inr h) = let r = split_of_many next n k level within levels.falls s lt w l p h in absurd (no_split r.0 r.1 r.2 r.3 r.4)

pub without_split : (next : ℕ → ℕ → List ℕ) (n k : ℕ) → IsWithin next n k → HasNoTwin next → HasNoSplit next n → (s t : ℕ) (w : List ℕ) → s < n → paths next s t w ≤ bound_h n k
unfolding bound_h
without_split next n k within no_twin no_split s t w lt =
    stable (paths next s t w) (bound_h n k)
    (λ none. table (Reached next n) (n * n)
    (λ found. let levels = level-of next n k within found in
    none (by_levels next n k (reach_count found.says n) within levels no_twin no_split t n s w lt (levels.few s lt))))

-- Between two states that reach each other, at most one path leads along a word.
pub one_path_inside : (next : ℕ → ℕ → List ℕ) → HasNoTwin next → (s t : ℕ) (w z : List ℕ) → 1 ≤ paths next t s z → paths next s t w ≤ 1
one_path_inside next none s t w z back = once (paths next s t w) (paths next t s z) (paths next s s (w ++ z)) back (through_one next s t s w z) (none s (w ++ z))
  where
    once : (x y m : ℕ) → 1 ≤ y → x * y ≤ m → m ≤ 1 → x ≤ 1
    once x y m h le few = let a : x * 1 ≤ x * y = mul-le-mul (same x) h in omega (arith, a)
      where
        same : (x : ℕ) → x ≤ x
        same x = omega arith

-- Without a cycle there is neither a twin nor a split.
pub without_cycle : (next : ℕ → ℕ → List ℕ) (n k : ℕ) → IsWithin next n k → ((q l : ℕ) (w : List ℕ) → paths next q q (l ∷ w) ≡ 0) → (s t : ℕ) (w : List ℕ) → s < n → paths next s t w ≤ bound_h n k
without_cycle next n k within none s t w lt = without_split next n k within no_twin no_split s t w lt
  where
    no_twin : HasNoTwin next
    no_twin q [] = one-le (eqb q q)
    no_twin q (l ∷ u) = omega (arith, none q l u)

    no_split : HasNoSplit next n
    no_split r q [] small split = split.apart (nil-same next r q split.over)
    no_split r q (l ∷ y) small split = absurd (omega (arith, none r l y, split.before))
