-- Levels: numbers of the states that never rise along a move, and are equal only where a path leads back. A state's number
-- is how many states it reaches; a bound may be shown as if a table of what is reached were at hand.
use Rattle.std.proofs.Common.{◌≡◌, ◌≢◌, ℕ, zero, suc, ◌+◌, ◌*◌, ◌/◌, ◌%◌, ◌<◌, ◌≤◌, ◌⊎◌, inl, inr, List, cond, Bool, true, false, eqb, eq-eqb, ne_eqb, refl, sym, ap, subst, arith}
use Rattle.std.proofs.lemmas.Bool.{cases_Bool, cases_lt, cases_eq}
use Rattle.std.proofs.lemmas.Nat.{mul-add-lt, div-mul-add, mod-mul-add}
use Rattle.rl_graph.specs.Paths.{Has, one, Reaches, IsWithin}
use Rattle.rl_graph.proofs.PathLaws.{one-le, Reaches-self, Reaches-move, Reaches-trans}
use Rattle.rl_graph.proofs.FirstSums.{upto, upto-mono, upto-has, upto-less, upto-bound}
use Rattle.rl_degree.specs.Leavers.{NeverRises}

-- An order of numbers that can't be refuted holds.
pub stable : (x y : ℕ) → ((x ≤ y → ⊥) → ⊥) → x ≤ y
stable x y h = by (cases_lt y x)
  where
    by : (y < x) ⊎ (x ≤ y) → x ≤ y
    by (inl more) = absurd (h (λ le. absurd (omega arith)))
    by (inr le) = le

-- The table says for the first `n` numbers whether a fact holds.
pub record Table (P : ℕ → Type 0) (n : ℕ) : Type 0 where
  pub says : ℕ → Bool
  pub right : (i : ℕ) → i < n → says i ≡ true → P i
  pub whole : (i : ℕ) → i < n → P i → says i ≡ true

-- A table can have one more entry.
more : (P : ℕ → Type 0) (n : ℕ) → Table P n → (b : Bool) → (b ≡ true → P n) → (P n → b ≡ true) → Table P (suc n)
more P n t b if_so if_held = record {
  says = λ i. cond (eqb i n) b (t.says i);
  right = λ i lt h. right i lt h (cases_eq i n);
  whole = λ i lt h. whole i lt h (cases_eq i n);
}
  where
    below : (i : ℕ) → i < suc n → i ≢ n → i < n
    below i lt ne = omega arith

    right : (i : ℕ) → i < suc n → cond (eqb i n) b (t.says i) ≡ true → (i ≡ n) ⊎ (i ≢ n) → P i
    right i lt h (inl e) = let k = rw (eq-eqb i n e) at h in subst P (sym e) (if_so k)
    right i lt h (inr ne) = let k = rw (ne_eqb i n ne) at h in t.right i (below i lt ne) k

    whole : (i : ℕ) → i < suc n → P i → (i ≡ n) ⊎ (i ≢ n) → cond (eqb i n) b (t.says i) ≡ true
    whole i lt h (inl e) = rw (eq-eqb i n e) (if_held (subst P e h))
    whole i lt h (inr ne) = rw (ne_eqb i n ne) (t.whole i (below i lt ne) h)

-- It can't be refuted that there is a table.
pub table : (P : ℕ → Type 0) (n : ℕ) → (Table P n → ⊥) → ⊥
table P zero none = none (record { says = λ i. false; right = λ i lt h. absurd (omega arith); whole = λ i lt h. absurd (omega arith) })
table P (suc n) none =
    table P n (λ t. none (more P n t false (λ e. absurd (no e)) (λ h. absurd (none (more P n t true (λ e. h) (λ k. refl))))))
  where
    no : false ≡ true → ⊥
    no e = cc

-- The numbers are levels of a graph of `n` states.
pub record IsLevel (next : ℕ → ℕ → List ℕ) (n : ℕ) (level : ℕ → ℕ) : Type 0 where
  pub falls : NeverRises next n level
  pub back : (s a : ℕ) → s < n → a < n → level a ≡ level s → Reaches next s a → Reaches next a s
  pub some : (s : ℕ) → s < n → 1 ≤ level s
  pub few : (s : ℕ) → s < n → level s ≤ n

-- The table says row by row which states are reached.
abbrev pub Reached : (ℕ → ℕ → List ℕ) → ℕ → ℕ → Type 0
Reached next n j = Reaches next (j / n) (j % n)

-- The number of states that `q` reaches.
abbrev pub reach_count : (ℕ → Bool) → ℕ → ℕ → ℕ
reach_count says n q = upto (λ m. one (says (q * n + m))) n

pub level-of : (next : ℕ → ℕ → List ℕ) (n k : ℕ) → IsWithin next n k → (t : Table (Reached next n) (n * n)) → IsLevel next n (reach_count t.says n)
level-of next n k within t = record {
  falls = λ q l m lt i. falls q l m lt (within.targets q l m lt i) i;
  back = λ s a ls la e r. back s a ls la e r (cases_Bool (t.says (a * n + s)));
  some = some;
  few = λ s lt. few s;
}
  where
    reached : (q m : ℕ) → q < n → m < n → t.says (q * n + m) ≡ true → Reaches next q m
    reached q m lq lm e =
        let r : Reaches next ((q * n + m) / n) ((q * n + m) % n) = t.right (q * n + m) (mul-add-lt q n m n lq lm) e in
        subst (λ (j : ℕ). Reaches next q j) (mod-mul-add q n m lm) (subst (λ (j : ℕ). Reaches next j ((q * n + m) % n)) (div-mul-add q n m lm) r)

    marked : (q m : ℕ) → q < n → m < n → Reaches next q m → t.says (q * n + m) ≡ true
    marked q m lq lm r =
        t.whole (q * n + m) (mul-add-lt q n m n lq lm)
        (subst (λ (j : ℕ). Reaches next j ((q * n + m) % n)) (sym (div-mul-add q n m lm)) (subst (λ (j : ℕ). Reaches next q j) (sym (mod-mul-add q n m lm)) r))

    -- If one state reaches another, it reaches whatever that one reaches.
    more_reached : (q m x : ℕ) → q < n → m < n → x < n → Reaches next q m → one (t.says (m * n + x)) ≤ one (t.says (q * n + x))
    more_reached q m x lq lm lx r = by (cases_Bool (t.says (m * n + x)))
      where
        by : (t.says (m * n + x) ≡ true) ⊎ (t.says (m * n + x) ≡ false) → one (t.says (m * n + x)) ≤ one (t.says (q * n + x))
        by (inl e) = rw (marked q x lq lx (Reaches-trans next q m x r (reached m x lm lx e))) (one-le (t.says (m * n + x)))
        by (inr e) = rw e (omega arith)

    falls : (q l m : ℕ) → q < n → m < n → Has m (next q l) → reach_count t.says n m ≤ reach_count t.says n q
    falls q l m lq lm i =
        upto-mono (λ x. one (t.says (m * n + x))) (λ x. one (t.says (q * n + x))) n (λ x lx. more_reached q m x lq lm lx (Reaches-move next q m l i))

    back : (s a : ℕ) → s < n → a < n → reach_count t.says n a ≡ reach_count t.says n s → Reaches next s a → (t.says (a * n + s) ≡ true) ⊎ (t.says (a * n + s) ≡ false) → Reaches next a s
    back s a ls la e r (inl told) = reached a s la ls told
    back s a ls la e r (inr untold) =
        let less = upto-less (λ x. one (t.says (a * n + x))) (λ x. one (t.says (s * n + x))) s n (λ x lx. more_reached s a x ls la lx r) ls here in
        absurd (omega arith)
      where
        here : one (t.says (a * n + s)) < one (t.says (s * n + s))
        here = rw (untold, marked s s ls ls (Reaches-self next s)) (omega arith)

    some : (s : ℕ) → s < n → 1 ≤ reach_count t.says n s
    some s lt =
        let h = upto-has (λ x. one (t.says (s * n + x))) s n lt in
        let e : one (t.says (s * n + s)) ≡ 1 = ap one (marked s s lt lt (Reaches-self next s)) in
        omega (arith, h, e)

    few : (s : ℕ) → reach_count t.says n s ≤ n
    few s = omega (arith, upto-bound (λ x. one (t.says (s * n + x))) 1 n (λ x lx. one-le (t.says (s * n + x))))
