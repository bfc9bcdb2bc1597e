-- The product by half steps reaches the same pairs as the product by whole steps.
use Rattle.std.proofs.Common.{◌≡◌, ℕ, zero, suc, ◌+◌, ◌-◌, ◌*◌, ◌/◌, ◌%◌, ◌<◌, ◌≤◌, ◌⊎◌, ◌↔◌, inl, inr, Bool, true, false, true≢false, not, cond, ◌&&◌, List, [], ◌∷◌, ◌++◌, length, get_or, map, flat_map, eqb, le-ltb, lt-ltb, ne_eqb, refl, sym, ◌∙◌, ap, subst, arith, mul_comm, div-add-mod'}
use Rattle.std.proofs.lemmas.Bool.{cases_lt, and_parts, and_from, cond-true, cond-false, cond_both}
use Rattle.std.proofs.lemmas.List.{length-map, length_push, get_or-map, get_or_past, get_or_read, get_or_push, get_or_append_left}
use Rattle.std.proofs.lemmas.Nat.{mul-add-lt, div-mul-add, mod-mul-add, div_below, mod_below}
use Rattle.rl_graph.specs.Paths.{Has, paths, Reaches, OnCycle, IsBounded}
use Rattle.rl_graph.specs.Graph.{Graph, edges_of, IsWhole}
use Rattle.rl_graph.specs.Product.{pair_moves, marked_moves}
use Rattle.rl_graph.specs.Parts.{PartTable, IsParts}
use Rattle.rl_graph.specs.internal.Dense.{IsDense}
use Rattle.rl_graph.specs.internal.Halves.{row_at, IsOwned, AreNumbered, AreMore, is_pair, half_moves, halves}
use Rattle.rl_graph.proofs.Sums.{has-map, Has-map, has-flat_map, Has-get_or, Has-left, Has-right}
use Rattle.rl_graph.proofs.PathLaws.{along_moves, Reaches-self, Reaches-move, Reaches-trans, OnCycle-move, OnCycle-first}
use Rattle.rl_graph.proofs.GraphLaws.{edges-in, edges-letter}
use Rattle.rl_graph.proofs.MarkedLaws.{there-if, has-if, move-in}
use Rattle.rl_graph.proofs.DenseLaws.{dense-parts}

Has-flat_map : (f : ℕ → List ℕ) (x y : ℕ) (l : List ℕ) → Has x l → Has y (f x) → Has y (flat_map f l)
Has-flat_map f x y [] h i = absurd h
Has-flat_map f x y (a ∷ l) (inl e) i = Has-left y (f a) (flat_map f l) (subst (λ z. Has y (f z)) e i)
Has-flat_map f x y (a ∷ l) (inr h) i = Has-right y (f a) (flat_map f l) (Has-flat_map f x y l h i)

-- A list of two, by a test

of-two : (b : Bool) (m : ℕ) (l k : List ℕ) → Has m (cond b l k) → ((b ≡ true) × Has m l) ⊎ ((b ≡ false) × Has m k)
of-two true m l k h = inl (refl, h)
of-two false m l k h = inr (refl, h)

some-length : (x : ℕ) (l : List ℕ) → Has x l → not (eqb (length l) 0) ≡ true
some-length x [] h = absurd h
some-length x (a ∷ l) h = ap not (ne_eqb (length (a ∷ l)) 0 (λ e. absurd (omega (arith, e))))

less-self : (n r : ℕ) → n + r - n ≡ r
less-self n r = omega arith

-- A move of a pair by half steps goes to the half node of a row of the first state with a new state of the second one.
record IsHalf (next : ℕ → ℕ → List ℕ) (n : ℕ) (marks : List Bool) (number : ℕ → ℕ → ℕ) (x l h : ℕ) : Type 0 where
  second : ℕ
  has : Has second (next (x % n) l)
  mark : get_or marks x false ≡ true
  is : h ≡ (n + number (x / n) l) * n + second

-- A half node moves to the pair of a target of its row with its state.
record IsBack (n : ℕ) (row : ℕ → List ℕ) (z m : ℕ) : Type 0 where
  first : ℕ
  has : Has first (row (z / n - n))
  is : m ≡ first * n + z % n

-- What a half node leads to: each target of the row, with the state.
abbrev OnWay : (n : ℕ) (row : ℕ → List ℕ) → (ℕ → Type 0) → ℕ → Type 0
OnWay n row Reached z = (z / n < n → Reached z) × (n ≤ z / n → (t : ℕ) → Has t (row (z / n - n)) → Reached (t * n + z % n))

-- A path of at least one move.
abbrev OneOrMore : (ℕ → ℕ → List ℕ) → ℕ → ℕ → Type 0
OneOrMore next x y = (l : ℕ) × (m : ℕ) × Has m (next x l) × Reaches next m y

pair-has : (next : ℕ → ℕ → List ℕ) (n x l t u : ℕ) → Has t (next (x / n) l) → Has u (next (x % n) l) → Has (t * n + u) (pair_moves next n x l)
pair-has next n x l t u h i =
    Has-flat_map (λ v. map (λ y. v * n + y) (next (x % n) l)) t (t * n + u) (next (x / n) l) h (Has-map (λ y. t * n + y) u (next (x % n) l) i)

module _ (next : ℕ → ℕ → List ℕ) (n k : ℕ) (marks : List Bool) (number : ℕ → ℕ → ℕ) (row : ℕ → List ℕ)
    (bounded : (q l m : ℕ) → Has m (next q l) → m < n)
    (from_in : (q l m : ℕ) → Has m (next q l) → (q < n) × (l < k))
    (same : (p l : ℕ) → p < n → l < k → row (number p l) ≡ next p l)
    (rows_in : (r t : ℕ) → Has t (row r) → t < n) where
  to-half : (x l h : ℕ) → x / n < n → Has h (half_moves next n marks number row x l) → IsHalf next n marks number x l h
  to-half x l h lt i = by (of-two (is_pair n x) h
      (cond (get_or marks x false && not (eqb (length (next (x / n) l)) 0)) (map (λ u. (n + number (x / n) l) * n + u) (next (x % n) l)) [])
      (cond (eqb l 0) (map (λ t. t * n + x % n) (row (x / n - n))) []) i)
    where
      by : ((is_pair n x ≡ true) × Has h (cond (get_or marks x false && not (eqb (length (next (x / n) l)) 0)) (map (λ u. (n + number (x / n) l) * n + u) (next (x % n) l)) []))
          ⊎ ((is_pair n x ≡ false) × Has h (cond (eqb l 0) (map (λ t. t * n + x % n) (row (x / n - n))) [])) → IsHalf next n marks number x l h
      by (inr a) = absurd (true≢false (sym (lt-ltb (x / n) n lt) ∙ a.0))
      by (inl a) =
          let b = there-if (get_or marks x false && not (eqb (length (next (x / n) l)) 0)) h (map (λ u. (n + number (x / n) l) * n + u) (next (x % n) l)) a.1 in
          let c = has-map (λ u. (n + number (x / n) l) * n + u) h (next (x % n) l) b.1 in
          record { second = c.0; has = c.1; mark = (and_parts (get_or marks x false) (not (eqb (length (next (x / n) l)) 0)) b.0).0; is = c.2 }

  -- The place of a half node: its row and its state.
  half-first : (r u : ℕ) → u < n → ((n + r) * n + u) / n ≡ n + r
  half-first r u lt = div-mul-add (n + r) n u lt

  half-second : (r u : ℕ) → u < n → ((n + r) * n + u) % n ≡ u
  half-second r u lt = mod-mul-add (n + r) n u lt

  -- A half node that a pair moves to leads to the targets of the pair's moves.
  from-pair : (Reached : ℕ → Type 0) (z l h : ℕ) → z / n < n → ((m : ℕ) → Has m (marked_moves next n marks z l) → Reached m)
      → Has h (half_moves next n marks number row z l) → OnWay n row Reached h
  from-pair Reached z l h lt reached i =
      let a = to-half z l h lt i in
      let r = number (z / n) l in
      let small = bounded (z % n) l a.second a.has in
      let first : h / n ≡ n + r = ap (λ x. x / n) a.is ∙ half-first r a.second small in
      let second : h % n ≡ a.second = ap (λ x. x % n) a.is ∙ half-second r a.second small in
      let its : row (h / n - n) ≡ next (z / n) l =
      ap (λ x. row (x - n)) first ∙ (ap row (less-self n r) ∙ same (z / n) l lt (from_in (z % n) l a.second a.has).1) in (
        (λ low. absurd (omega (arith, first, low))),
        (λ high t has. reached (t * n + h % n)
            (has-if (get_or marks z false) (t * n + h % n) (pair_moves next n z l) a.mark
            (subst (λ (u : ℕ). Has (t * n + u) (pair_moves next n z l)) (sym second) (pair-has next n z l t a.second (subst (Has t) its has) a.has)))),
      )

  to-pair : (z l m : ℕ) → n ≤ z / n → Has m (half_moves next n marks number row z l) → IsBack n row z m
  to-pair z l m le i = by (of-two (is_pair n z) m
      (cond (get_or marks z false && not (eqb (length (next (z / n) l)) 0)) (map (λ u. (n + number (z / n) l) * n + u) (next (z % n) l)) [])
      (cond (eqb l 0) (map (λ t. t * n + z % n) (row (z / n - n))) []) i)
    where
      by : ((is_pair n z ≡ true) × Has m (cond (get_or marks z false && not (eqb (length (next (z / n) l)) 0)) (map (λ u. (n + number (z / n) l) * n + u) (next (z % n) l)) []))
          ⊎ ((is_pair n z ≡ false) × Has m (cond (eqb l 0) (map (λ t. t * n + z % n) (row (z / n - n))) [])) → IsBack n row z m
      by (inl a) = absurd (true≢false (sym a.0 ∙ le-ltb (z / n) n le))
      by (inr a) =
          let b = there-if (eqb l 0) m (map (λ t. t * n + z % n) (row (z / n - n))) a.1 in
          let c = has-map (λ t. t * n + z % n) m (row (z / n - n)) b.1 in
          record { first = c.0; has = c.1; is = c.2 }

  -- A half node moves to pairs on the way.
  from-half : (Reached : ℕ → Type 0) (z l m : ℕ) → n ≤ z / n → OnWay n row Reached z → Has m (half_moves next n marks number row z l) → OnWay n row Reached m
  from-half Reached z l m le way i =
      let b = to-pair z l m le i in
      let lt = rows_in (z / n - n) b.first b.has in
      let first : m / n ≡ b.first = ap (λ x. x / n) b.is ∙ div-mul-add b.first n (z % n) (mod_below z n (omega (arith, lt))) in (
        (λ low. subst Reached (sym b.is) (way.1 le b.first b.has)),
        (λ high. absurd (omega (arith, first, high, lt))),
      )

  on-way : (Reached : ℕ → Type 0) → ((z l m : ℕ) → Reached z → Has m (marked_moves next n marks z l) → Reached m)
      → (z l m : ℕ) → OnWay n row Reached z → Has m (half_moves next n marks number row z l) → OnWay n row Reached m
  on-way Reached closed z l m way i = by (cases_lt (z / n) n)
    where
      by : (z / n < n) ⊎ (n ≤ z / n) → OnWay n row Reached m
      by (inl lt) = from-pair Reached z l m lt (λ y has. closed z l y (way.0 lt) has) i
      by (inr le) = from-half Reached z l m le way i

  -- By half steps no more is reached

  pub half-reaches : (x y : ℕ) (w : List ℕ) → y / n < n → 1 ≤ paths (half_moves next n marks number row) x y w → x / n < n → Reaches (marked_moves next n marks) x y
  half-reaches x y w hy h hx =
      (along_moves (OnWay n row (Reaches (marked_moves next n marks) x)) (half_moves next n marks number row)
      (on-way (Reaches (marked_moves next n marks) x) (λ z l m r has. Reaches-trans (marked_moves next n marks) x z m r (Reaches-move (marked_moves next n marks) z m l has)))
      x y w (start hx) h).0 hy
    where
      start : x / n < n → OnWay n row (Reaches (marked_moves next n marks) x) x
      start lt = ((λ _. Reaches-self (marked_moves next n marks) x), (λ le. absurd (omega (arith, lt, le))))

  pub half-cycle : (x : ℕ) → x / n < n → OnCycle (half_moves next n marks number row) x → OnCycle (marked_moves next n marks) x
  half-cycle x lt c =
      let f = OnCycle-first (half_moves next n marks number row) x c in
      let more = (along_moves (OnWay n row (OneOrMore (marked_moves next n marks) x)) (half_moves next n marks number row)
      (on-way (OneOrMore (marked_moves next n marks) x) (λ z l m r has. (r.0, r.1, r.2, Reaches-trans (marked_moves next n marks) r.1 z m r.3 (Reaches-move (marked_moves next n marks) z m l has))))
      f.1 x f.3.0 (from-pair (OneOrMore (marked_moves next n marks) x) x f.0 f.1 lt (λ m has. (f.0, m, has, Reaches-self (marked_moves next n marks) m)) f.2) f.3.1).0 lt in
      OnCycle-move (marked_moves next n marks) x more.0 more.1 more.2 more.3

  -- And no less

  two-steps : (x l m : ℕ) → Has m (marked_moves next n marks x l) → (h : ℕ) × Has h (half_moves next n marks number row x l) × Has m (half_moves next n marks number row h 0)
  two-steps x l m i =
      let a = there-if (get_or marks x false) m (pair_moves next n x l) i in
      let b = has-flat_map (λ t. map (λ u. t * n + u) (next (x % n) l)) m (next (x / n) l) a.1 in
      let c = has-map (λ u. b.0 * n + u) m (next (x % n) l) b.2 in
      let r = number (x / n) l in
      let its = from_in (x / n) l b.0 b.1 in
      let small = bounded (x % n) l c.0 c.1 in
      let h : ℕ = (n + r) * n + c.0 in
      let first = half-first r c.0 small in
      let second = half-second r c.0 small in
      let test = and_from (get_or marks x false) (not (eqb (length (next (x / n) l)) 0)) a.0 (some-length b.0 (next (x / n) l) b.1) in
      let there = has-if (get_or marks x false && not (eqb (length (next (x / n) l)) 0)) h (map (λ u. (n + r) * n + u) (next (x % n) l)) test (Has-map (λ u. (n + r) * n + u) c.0 (next (x % n) l) c.1) in
      let its_row : row (h / n - n) ≡ next (x / n) l = ap (λ z. row (z - n)) first ∙ (ap row (less-self n r) ∙ same (x / n) l its.0 its.1) in
      let target : m ≡ b.0 * n + h % n = c.2 ∙ ap (λ u. b.0 * n + u) (sym second) in
      let back : Has m (map (λ t. t * n + h % n) (row (h / n - n))) =
      subst (λ (z : ℕ). Has z (map (λ t. t * n + h % n) (row (h / n - n)))) (sym target) (Has-map (λ t. t * n + h % n) b.0 (row (h / n - n)) (subst (Has b.0) (sym its_row) b.1)) in (
        h,
        subst (λ (z : List ℕ). Has h z) (sym (cond-true (is_pair n x) (cond (get_or marks x false && not (eqb (length (next (x / n) l)) 0)) (map (λ u. (n + r) * n + u) (next (x % n) l)) []) (cond (eqb l 0) (map (λ t. t * n + x % n) (row (x / n - n))) []) (lt-ltb (x / n) n its.0))) there,
        subst (λ (z : List ℕ). Has m z) (sym (cond-false (is_pair n h) (cond (get_or marks h false && not (eqb (length (next (h / n) 0)) 0)) (map (λ u. (n + number (h / n) 0) * n + u) (next (h % n) 0)) []) (map (λ t. t * n + h % n) (row (h / n - n))) (le-ltb (h / n) n (omega (arith, first))))) back,
      )

  two-reach : (x l m : ℕ) → Has m (marked_moves next n marks x l) → Reaches (half_moves next n marks number row) x m
  two-reach x l m i =
      let t = two-steps x l m i in
      Reaches-trans (half_moves next n marks number row) x t.0 m (Reaches-move (half_moves next n marks number row) x t.0 l t.1) (Reaches-move (half_moves next n marks number row) t.0 m 0 t.2)

  pub marked-reaches : (x y : ℕ) (w : List ℕ) → 1 ≤ paths (marked_moves next n marks) x y w → Reaches (half_moves next n marks number row) x y
  marked-reaches x y w h =
      along_moves (Reaches (half_moves next n marks number row) x) (marked_moves next n marks)
      (λ z l m r has. Reaches-trans (half_moves next n marks number row) x z m r (two-reach z l m has)) x y w (Reaches-self (half_moves next n marks number row) x) h

  pub marked-cycle : (x : ℕ) → OnCycle (marked_moves next n marks) x → OnCycle (half_moves next n marks number row) x
  marked-cycle x c =
      let f = OnCycle-first (marked_moves next n marks) x c in
      let t = two-steps x f.0 f.1 f.2 in
      OnCycle-move (half_moves next n marks number row) x f.0 t.0 t.1
      (Reaches-trans (half_moves next n marks number row) t.0 f.1 x (Reaches-move (half_moves next n marks number row) t.0 f.1 0 t.2) (marked-reaches f.1 x f.3.0 f.3.1))

  -- No node has a move to itself.
  pub no-loop : (x l : ℕ) → Has x (half_moves next n marks number row x l) → ⊥
  no-loop x l i = by (cases_lt (x / n) n)
    where
      by : (x / n < n) ⊎ (n ≤ x / n) → ⊥
      by (inl lt) =
          let a = to-half x l x lt i in
          omega (arith, ap (λ z. z / n) a.is, half-first (number (x / n) l) a.second (bounded (x % n) l a.second a.has), lt)
      by (inr le) =
          let b = to-pair x l x le i in
          let lt = rows_in (x / n - n) b.first b.has in
          omega (arith, ap (λ z. z / n) b.is, div-mul-add b.first n (x % n) (mod_below x n (omega (arith, lt))), le, lt)

  -- The moves stay among the half nodes of the rows.
  pub half-bounded : (size : ℕ) → 0 < k → ((q l : ℕ) → k ≤ l → next q l ≡ []) → ((p l : ℕ) → p < n → l < k → number p l < size) → IsBounded (half_moves next n marks number row) ((n + size) * n) k
  half-bounded size some letters within = record { targets = λ x l m i. at x l m i (cases_lt (x / n) n); letters = none }
    where
      at : (x l m : ℕ) → Has m (half_moves next n marks number row x l) → (x / n < n) ⊎ (n ≤ x / n) → m < (n + size) * n
      at x l m i (inl lt) =
          let a = to-half x l m lt i in
          let its = from_in (x % n) l a.second a.has in
          let w = within (x / n) l lt its.1 in
          omega (arith, a.is, mul-add-lt (n + number (x / n) l) n a.second (n + size) (omega (arith, w)) (bounded (x % n) l a.second a.has))
      at x l m i (inr le) =
          let b = to-pair x l m le i in
          let lt = rows_in (x / n - n) b.first b.has in
          omega (arith, b.is, mul-add-lt b.first n (x % n) n lt (mod_below x n (omega (arith, lt))))

      none : (x l : ℕ) → k ≤ l → half_moves next n marks number row x l ≡ []
      none x l le =
          cond_both (is_pair n x) (cond (get_or marks x false && not (eqb (length (next (x / n) l)) 0)) (map (λ u. (n + number (x / n) l) * n + u) (next (x % n) l)) [])
          (cond (eqb l 0) (map (λ t. t * n + x % n) (row (x / n - n))) []) (λ z. z ≡ [])
          (λ _. cond_both (get_or marks x false && not (eqb (length (next (x / n) l)) 0)) (map (λ u. (n + number (x / n) l) * n + u) (next (x % n) l)) [] (λ z. z ≡ [])
          (λ _. ap (map (λ u. (n + number (x / n) l) * n + u)) (letters (x % n) l le)) (λ _. refl))
          (λ _. cond-false (eqb l 0) (map (λ t. t * n + x % n) (row (x / n - n))) [] (ne_eqb l 0 (λ e. absurd (omega (arith, e)))))

-- The rows of a graph

pub rows-in : (g : Graph) → IsWhole g → (i t : ℕ) → Has t (row_at g i) → t < g.states
rows-in g whole i t h = by (cases_lt i (length g.rows))
  where
    some : (l : ℕ) → i < g.states * l → 0 < l
    some zero lt = absurd (omega arith)
    some (suc l) lt = omega arith

    by : (i < length g.rows) ⊎ (length g.rows ≤ i) → t < g.states
    by (inr past) = absurd (subst (Has t) (get_or_past g.rows i [] past) h)
    by (inl lt) =
        let place : i < g.states * g.letters = omega (arith, whole.size) in
        let letters = some g.letters place in
        let e : edges_of g (i / g.letters) (i % g.letters) ≡ row_at g i =
        edges-in g (i / g.letters) (i % g.letters) (div_below i g.letters g.states letters place) (mod_below i g.letters letters)
        ∙ ap (λ (z : ℕ). get_or g.rows z []) (div-add-mod' i g.letters) in
        whole.targets (i / g.letters) (i % g.letters) t (subst (Has t) (sym e) h)

module _ (g : Graph) (numbers owners : List ℕ) (whole : IsWhole g) (some : 0 < g.letters) (named : AreNumbered g (g.states * g.letters) numbers owners) where
  owned : (p l : ℕ) → p < g.states → l < g.letters → IsOwned g owners (p * g.letters + l) (get_or numbers (p * g.letters + l) 0)
  owned p l hp hl = named.owned (p * g.letters + l) (omega (arith, mul-add-lt p g.letters l g.states hp hl, mul_comm g.letters g.states))

  pub number-within : (p l : ℕ) → p < g.states → l < g.letters → get_or numbers (p * g.letters + l) 0 < length owners
  number-within p l hp hl = (owned p l hp hl).within

  number-row : (p l : ℕ) → p < g.states → l < g.letters → row_at g (get_or owners (get_or numbers (p * g.letters + l) 0) 0) ≡ edges_of g p l
  number-row p l hp hl = (owned p l hp hl).same ∙ sym (edges-in g p l hp hl)

  pub halves-bounded : (marks : List Bool) → IsBounded (halves g marks numbers owners) ((g.states + length owners) * g.states) g.letters
  halves-bounded marks =
      half-bounded (edges_of g) g.states g.letters marks (λ p l. get_or numbers (p * g.letters + l) 0) (λ r. row_at g (get_or owners r 0))
      whole.targets (move-in g) number-row (λ r. rows-in g whole (get_or owners r 0)) (length owners) some (edges-letter g) number-within

  pub halves-no_loop : (marks : List Bool) (x l : ℕ) → Has x (halves g marks numbers owners x l) → ⊥
  halves-no_loop marks =
      no-loop (edges_of g) g.states g.letters marks (λ p l. get_or numbers (p * g.letters + l) 0) (λ r. row_at g (get_or owners r 0))
      whole.targets (move-in g) number-row (λ r. rows-in g whole (get_or owners r 0))

  pub halves-parts : (marks : List Bool) (p d : PartTable) → IsParts (halves g marks numbers owners) ((g.states + length owners) * g.states) p → IsDense p (g.states * g.states) d
      → IsParts (marked_moves (edges_of g) g.states marks) (g.states * g.states) d
  halves-parts marks p d h t =
      dense-parts (halves g marks numbers owners) (marked_moves (edges_of g) g.states marks) ((g.states + length owners) * g.states) (g.states * g.states) p d
      (omega (arith)) reach cycle h t
    where
      first-in : (x : ℕ) → x < g.states * g.states → x / g.states < g.states
      first-in x lt = by g.states lt
        where
          by : (n : ℕ) → x < n * n → x / n < n
          by zero lt = absurd (omega arith)
          by (suc n) lt = div_below x (suc n) (suc n) (omega arith) lt

      reach : (x y : ℕ) → x < g.states * g.states → y < g.states * g.states → Reaches (halves g marks numbers owners) x y ↔ Reaches (marked_moves (edges_of g) g.states marks) x y
      reach x y hx hy = (
        λ r. half-reaches (edges_of g) g.states g.letters marks (λ p l. get_or numbers (p * g.letters + l) 0) (λ r. row_at g (get_or owners r 0))
            whole.targets (move-in g) number-row (λ r. rows-in g whole (get_or owners r 0)) x y r.0 (first-in y hy) r.1 (first-in x hx),
        λ r. marked-reaches (edges_of g) g.states g.letters marks (λ p l. get_or numbers (p * g.letters + l) 0) (λ r. row_at g (get_or owners r 0))
            whole.targets (move-in g) number-row (λ r. rows-in g whole (get_or owners r 0)) x y r.0 r.1,
      )

      cycle : (x : ℕ) → x < g.states * g.states → OnCycle (halves g marks numbers owners) x ↔ OnCycle (marked_moves (edges_of g) g.states marks) x
      cycle x hx = (
        half-cycle (edges_of g) g.states g.letters marks (λ p l. get_or numbers (p * g.letters + l) 0) (λ r. row_at g (get_or owners r 0))
            whole.targets (move-in g) number-row (λ r. rows-in g whole (get_or owners r 0)) x (first-in x hx),
        marked-cycle (edges_of g) g.states g.letters marks (λ p l. get_or numbers (p * g.letters + l) 0) (λ r. row_at g (get_or owners r 0))
            whole.targets (move-in g) number-row (λ r. rows-in g whole (get_or owners r 0)) x,
      )

-- The moves of a node by its kind

pub half-of-row : (next : ℕ → ℕ → List ℕ) (n : ℕ) (marks : List Bool) (number : ℕ → ℕ → ℕ) (row : ℕ → List ℕ) (x l : ℕ) → n ≤ x / n
    → half_moves next n marks number row x l ≡ cond (eqb l 0) (map (λ t. t * n + x % n) (row (x / n - n))) []
half-of-row next n marks number row x l le =
    cond-false (is_pair n x) (cond (get_or marks x false && not (eqb (length (next (x / n) l)) 0)) (map (λ u. (n + number (x / n) l) * n + u) (next (x % n) l)) [])
    (cond (eqb l 0) (map (λ t. t * n + x % n) (row (x / n - n))) []) (le-ltb (x / n) n le)

pub half-of-pair : (next : ℕ → ℕ → List ℕ) (n : ℕ) (marks : List Bool) (number : ℕ → ℕ → ℕ) (row : ℕ → List ℕ) (x l : ℕ) → x / n < n
    → half_moves next n marks number row x l ≡ cond (get_or marks x false && not (eqb (length (next (x / n) l)) 0)) (map (λ u. (n + number (x / n) l) * n + u) (next (x % n) l)) []
half-of-pair next n marks number row x l lt =
    cond-true (is_pair n x) (cond (get_or marks x false && not (eqb (length (next (x / n) l)) 0)) (map (λ u. (n + number (x / n) l) * n + u) (next (x % n) l)) [])
    (cond (eqb l 0) (map (λ t. t * n + x % n) (row (x / n - n))) []) (lt-ltb (x / n) n lt)

-- What the program reads at a half node: the row of its number

pub row-in : (n k x : ℕ) → x < (n + k) * n → n ≤ x / n → x / n - n < k
row-in zero k x lt le = absurd (omega arith)
row-in (suc n) k x lt le = omega (arith, div_below x (suc n) (suc n + k) (omega arith) lt)

pub row-moves : (g : Graph) (marks : List Bool) (numbers owners : List ℕ) (x l place : ℕ) (row : List ℕ) → g.states ≤ x / g.states → x < (g.states + length owners) * g.states
    → place ≡ get_or owners (x / g.states - g.states) place → row ≡ row_at g place
    → halves g marks numbers owners x l ≡ cond (eqb l 0) (map (λ t. t * g.states + x % g.states) row) []
row-moves g marks numbers owners x l place row le lt e r =
    half-of-row (edges_of g) g.states marks (λ p l. get_or numbers (p * g.letters + l) 0) (λ r. row_at g (get_or owners r 0)) x l le
    ∙ ap (λ (z : List ℕ). cond (eqb l 0) (map (λ t. t * g.states + x % g.states) z) [])
    (ap (row_at g) (sym (get_or_read owners (x / g.states - g.states) place (row-in g.states (length owners) x lt le) e 0)) ∙ sym r)

row-target : (f : ℕ → ℕ) (row all : List ℕ) (b : Bool) (i : ℕ) → all ≡ cond b (map f row) [] → i < length all → (i < length row) × (get_or all i 0 ≡ f (get_or row i 0))
row-target f row all true i e lt =
    let small : i < length row = omega (arith, ap length e, length-map row f) in (small, ap (λ (z : List ℕ). get_or z i 0) e ∙ get_or-map f row i 0 0 small)
row-target f row all false i e lt = absurd (omega (arith, ap length e))

-- The move of a half node with a number; `n` is the number of states as the program has it.
pub row-read : (g : Graph) (marks : List Bool) (numbers owners : List ℕ) (x l i n place : ℕ) (row : List ℕ) → n ≡ g.states → n ≤ x / n → x < (g.states + length owners) * g.states
    → place ≡ get_or owners (x / n - n) place → row ≡ row_at g place → i < length (halves g marks numbers owners x l)
    → (i < length row) × (get_or row i 0 * n + x % n ≡ get_or (halves g marks numbers owners x l) i 0)
row-read g marks numbers owners x l i n place row e le lt read r h =
    let high : g.states ≤ x / g.states = subst (λ (k : ℕ). k ≤ x / k) e le in
    let there : place ≡ get_or owners (x / g.states - g.states) place = subst (λ (k : ℕ). place ≡ get_or owners (x / k - k) place) e read in
    let moves = row-moves g marks numbers owners x l place row high lt there r in
    let t = row-target (λ t. t * g.states + x % g.states) row (halves g marks numbers owners x l) (eqb l 0) i moves h in
    (t.0, ap (λ (k : ℕ). get_or row i 0 * k + x % k) e ∙ sym t.1)

pub back-in : (n k t x : ℕ) → t < n → t * n + x % n < (n + k) * n
back-in n k t x lt = omega (arith, mul-add-lt t n (x % n) n lt (mod_below x n (omega (arith, lt))))

-- And at a pair: the number of the row of its first state

pair-moved : (g : Graph) (marks : List Bool) (numbers owners : List ℕ) (x l i : ℕ) → x / g.states < g.states → i < length (halves g marks numbers owners x l)
    → (i < length (edges_of g (x % g.states) l)) × (get_or (halves g marks numbers owners x l) i 0 ≡ (g.states + get_or numbers (x / g.states * g.letters + l) 0) * g.states + get_or (edges_of g (x % g.states) l) i 0)
pair-moved g marks numbers owners x l i lt h =
    row-target (λ u. (g.states + get_or numbers (x / g.states * g.letters + l) 0) * g.states + u) (edges_of g (x % g.states) l) (halves g marks numbers owners x l)
    (get_or marks x false && not (eqb (length (edges_of g (x / g.states) l)) 0)) i
    (half-of-pair (edges_of g) g.states marks (λ p l. get_or numbers (p * g.letters + l) 0) (λ r. row_at g (get_or owners r 0)) x l lt) h

number-read : (g : Graph) (numbers owners : List ℕ) → AreNumbered g (g.states * g.letters) numbers owners → (p l place r : ℕ) → p < g.states → l < g.letters
    → place ≡ p * g.letters + l → r ≡ get_or numbers place r → (r ≡ get_or numbers (p * g.letters + l) 0) × (r < length owners)
number-read g numbers owners named p l place r hp hl e f =
    let lt : p * g.letters + l < g.states * g.letters = omega (arith, mul-add-lt p g.letters l g.states hp hl, mul_comm g.letters g.states) in
    let same : r ≡ get_or numbers (p * g.letters + l) 0 = get_or_read numbers place r (omega (arith, e, lt, named.size)) f 0 ∙ ap (λ z. get_or numbers z 0) e in
    (same, subst (λ (z : ℕ). z < length owners) (sym same) (named.owned (p * g.letters + l) lt).within)

-- The move of a pair with a number; `n` and `k` are the numbers of states and letters as the program has them.
pub record IsPairMove (g : Graph) (owners all targets : List ℕ) (n r i : ℕ) : Type 0 where
  pub row : r < length owners
  pub number : i < length targets
  pub small : get_or targets i 0 < n
  pub target : (n + r) * n + get_or targets i 0 ≡ get_or all i 0
  pub inside : (n + r) * n + get_or targets i 0 < (g.states + length owners) * g.states

pub pair-read : (g : Graph) (marks : List Bool) (numbers owners : List ℕ) (x l i n k r : ℕ) (targets : List ℕ) → IsWhole g → AreNumbered g (g.states * g.letters) numbers owners → n ≡ g.states → k ≡ g.letters
    → x / n < n → l < g.letters → i < length (halves g marks numbers owners x l) → r ≡ get_or numbers (x / n * k + l) r → targets ≡ edges_of g (x % n) l
    → IsPairMove g owners (halves g marks numbers owners x l) targets n r i
pair-read g marks numbers owners x l i n k r targets whole named e f lt hl h read t =
    let row = edges_of g (x % g.states) l in
    let low : x / g.states < g.states = subst (λ (z : ℕ). x / z < z) e lt in
    let place : x / n * k + l ≡ x / g.states * g.letters + l = ap (λ (z : ℕ). x / z * k + l) e ∙ ap (λ (z : ℕ). x / g.states * z + l) f in
    let its = number-read g numbers owners named (x / g.states) l (x / n * k + l) r low hl place read in
    let moved = pair-moved g marks numbers owners x l i low h in
    let same : targets ≡ row = t ∙ ap (λ (z : ℕ). edges_of g (x % z) l) e in
    let u : get_or targets i 0 ≡ get_or row i 0 = ap (λ (z : List ℕ). get_or z i 0) same in
    let inner : get_or row i 0 < g.states = whole.targets (x % g.states) l (get_or row i 0) (Has-get_or row i 0 moved.0) in
    let small : get_or targets i 0 < g.states = subst (λ (z : ℕ). z < g.states) (sym u) inner in
    let inside : (g.states + r) * g.states + get_or targets i 0 < (g.states + length owners) * g.states =
    omega (arith, mul-add-lt (g.states + r) g.states (get_or targets i 0) (g.states + length owners) (omega (arith, its.1)) small) in
    record {
      row = its.1;
      number = subst (λ (z : List ℕ). i < length z) (sym same) moved.0;
      small = subst (λ (z : ℕ). get_or targets i 0 < z) (sym e) small;
      target = ap (λ (z : ℕ). (z + r) * z + get_or targets i 0) e ∙ (ap (λ (z : ℕ). (g.states + r) * g.states + z) u ∙ (ap (λ (z : ℕ). (g.states + z) * g.states + get_or row i 0) its.0 ∙ sym moved.1));
      inside = subst (λ (z : ℕ). (z + r) * z + get_or targets i 0 < (g.states + length owners) * g.states) (sym e) inside;
    }

-- One more place of a row

pub numbered-more : (g : Graph) (end : ℕ) (numbers owners more : List ℕ) (number : ℕ) → AreMore owners more → AreNumbered g end numbers owners → IsOwned g more end number
    → AreNumbered g (end + 1) (numbers ++ number ∷ []) more
numbered-more g end numbers owners more number m a o = record {
  size = length_push numbers number ∙ ap (λ z. z + 1) a.size;
  owned = λ i lt. by i lt (cases_lt i end);
}
  where
    by : (i : ℕ) → i < end + 1 → (i < end) ⊎ (end ≤ i) → IsOwned g more i (get_or (numbers ++ number ∷ []) i 0)
    by i lt (inl s) =
        let w = a.owned i s in
        subst (IsOwned g more i) (sym (get_or_append_left numbers (number ∷ []) 0 i (omega (arith, a.size))))
        (record { within = omega (arith, w.within, m.longer); same = ap (row_at g) (m.same (get_or numbers i 0) w.within) ∙ w.same })
    by i lt (inr s) =
        let e : i ≡ end = omega arith in
        subst (IsOwned g more i) (sym (get_or_push numbers number 0 i (a.size ∙ sym e))) (subst (λ (z : ℕ). IsOwned g more z number) (sym e) o)
