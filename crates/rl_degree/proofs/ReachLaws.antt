-- The components that are reached from each component: one more row, and what the rows say of paths.
use Rattle.std.proofs.Common.{◌≡◌, ℕ, ◌+◌, ◌<◌, ◌≤◌, ◌⊎◌, inl, inr, Bool, true, false, not, List, [], ◌∷◌, ◌++◌, length, get_or, set, replicate, sym, ◌∙◌, ap, subst, arith}
use Rattle.std.proofs.lemmas.Bool.{cases_eq, cases_lt, cases_Bool, both_ways, or_left, or_right, not_from_true, not_from_false}
use Rattle.std.proofs.lemmas.List.{length_push, get_or_push, get_or_append_left, get_or-set_same, get_or-set_other, length-set, get_or-replicate, length-replicate}
use Rattle.rl_lanes.specs.Rows.{list_or, IsSubset}
use Rattle.rl_lanes.proofs.RowLemmas.{get_or-list_or}
use Rattle.rl_graph.specs.Paths.{Has, paths}
use Rattle.rl_graph.specs.Graph.{Graph, edges_of, IsWhole}
use Rattle.rl_graph.specs.Parts.{PartTable, IsParts, number_of}
use Rattle.rl_graph.proofs.Sums.{total-there}
use Rattle.rl_graph.proofs.PathLaws.{nil-same, Reaches-move}
use Rattle.rl_graph.proofs.MarkedLaws.{move-in}
use Rattle.rl_degree.specs.internal.Reached.{reached_from, leads_to, reaches, IsReachedRow, AreReachedUpTo, AreReached, IsHopelessUpTo, IsHopeless, IsFilled, AreFilled}

-- The laws below are about the union of two rows.

pub union-left : (a b c : List Bool) → length a ≡ length b → c ≡ list_or a b → IsSubset a c
union-left a b c same e i on =
    ap (λ (r : List Bool). get_or r i false) e ∙ (get_or-list_or a b i same ∙ or_left (get_or a i false) (get_or b i false) on)

pub union-right : (a b c : List Bool) → length a ≡ length b → c ≡ list_or a b → IsSubset b c
union-right a b c same e i on =
    ap (λ (r : List Bool). get_or r i false) e ∙ (get_or-list_or a b i same ∙ or_right (get_or a i false) (get_or b i false) on)

-- The laws below are about rows.

pub reached-none : (next : ℕ → ℕ → List ℕ) (n : ℕ) (p : PartTable) (rows : List (List Bool)) → rows ≡ [] → AreReachedUpTo next n p 0 rows
reached-none next n p rows e = record {
  size = ap length e;
  wide = λ k lt. absurd (omega arith);
  own = λ k lt. absurd (omega arith);
  moves = λ q l m hq lt has. absurd (omega arith);
}

-- One more row is right.
pub reached-more : (g : Graph) (p : PartTable) (end : ℕ) (rows new : List (List Bool)) (row : List Bool) → IsWhole g → IsParts (edges_of g) g.states p
    → AreReachedUpTo (edges_of g) g.states p end rows → IsReachedRow (edges_of g) g.states p rows end row → new ≡ rows ++ row ∷ [] → AreReachedUpTo (edges_of g) g.states p (end + 1) new
reached-more g p end rows new row whole parts old is e = record {
  size = ap length e ∙ (length_push rows row ∙ ap (λ z. z + 1) old.size);
  wide = λ k lt. wide k (cases_lt k end) lt;
  own = λ k lt. own k (cases_lt k end) lt;
  moves = λ q l m hq lt has. moves q l m hq has lt (cases_lt (number_of p q) end);
}
  where
    before : (k : ℕ) → k < end → reached_from new k ≡ reached_from rows k
    before k lt = ap (λ (z : List (List Bool)). get_or z k []) e ∙ get_or_append_left rows (row ∷ []) [] k (omega (arith, old.size))

    last : (k : ℕ) → k ≡ end → reached_from new k ≡ row
    last k same = ap (λ (z : List (List Bool)). get_or z k []) e ∙ get_or_push rows row [] k (old.size ∙ sym same)

    wide : (k : ℕ) → (k < end) ⊎ (end ≤ k) → k < end + 1 → length (reached_from new k) ≡ g.states
    wide k (inl a) lt = ap length (before k a) ∙ old.wide k a
    wide k (inr a) lt = ap length (last k (omega arith)) ∙ is.wide

    own : (k : ℕ) → (k < end) ⊎ (end ≤ k) → k < end + 1 → get_or (reached_from new k) k false ≡ true
    own k (inl a) lt = ap (λ (r : List Bool). get_or r k false) (before k a) ∙ old.own k a
    own k (inr a) lt =
        let same : k ≡ end = omega arith in
        ap (λ (r : List Bool). get_or r k false) (last k same) ∙ (ap (λ z. get_or row z false) same ∙ is.own)

    lower : (q l m : ℕ) → q < g.states → Has m (edges_of g q l) → number_of p m ≤ number_of p q
    lower q l m hq has = parts.order q m hq (whole.targets q l m has) (Reaches-move (edges_of g) q m l has)

    moves : (q l m : ℕ) → q < g.states → Has m (edges_of g q l) → number_of p q < end + 1 → (number_of p q < end) ⊎ (end ≤ number_of p q)
        → IsSubset (reached_from new (number_of p m)) (reached_from new (number_of p q))
    moves q l m hq has lt (inl a) =
        let b : number_of p m < end = omega (arith, a, lower q l m hq has) in
        λ i on. ap (λ (r : List Bool). get_or r i false) (before (number_of p q) a)
        ∙ old.moves q l m hq a has i (sym (ap (λ (r : List Bool). get_or r i false) (before (number_of p m) b)) ∙ on)
    moves q l m hq has lt (inr a) = by (cases_lt (number_of p m) end)
      where
        own-number : number_of p q ≡ end
        own-number = omega (arith, lt, a)

        by : (number_of p m < end) ⊎ (end ≤ number_of p m) → IsSubset (reached_from new (number_of p m)) (reached_from new (number_of p q))
        by (inl b) = λ i on.
            ap (λ (r : List Bool). get_or r i false) (last (number_of p q) own-number)
            ∙ is.joined q hq own-number l m has (omega (arith, b, old.size)) i (sym (ap (λ (r : List Bool). get_or r i false) (before (number_of p m) b)) ∙ on)
        by (inr b) =
            let same : number_of p m ≡ number_of p q = omega (arith, b, lower q l m hq has, own-number) in
            λ i on. ap (λ z. get_or (reached_from new z) i false) (sym same) ∙ on

-- The laws below are about what the rows say of paths.

module _ (g : Graph) (p : PartTable) (rows : List (List Bool)) (whole : IsWhole g) (parts : IsParts (edges_of g) g.states p) (are : AreReached (edges_of g) g.states p rows) where
  pub own-reached : (q : ℕ) → q < g.states → reaches p rows q q ≡ true
  own-reached q hq = are.own (number_of p q) (parts.below q hq)

  move-reached : (q l m t : ℕ) → q < g.states → Has m (edges_of g q l) → reaches p rows m t ≡ true → reaches p rows q t ≡ true
  move-reached q l m t hq has on = are.moves q l m hq (parts.below q hq) has (number_of p t) on

  -- A path leads only to what the row has.
  pub path-reached : (r q : ℕ) (w : List ℕ) → r < g.states → q < g.states → 1 ≤ paths (edges_of g) r q w → reaches p rows r q ≡ true
  path-reached r q [] hr hq way = let e = nil-same (edges_of g) r q way in rw e (own-reached q hq)
  path-reached r q (l ∷ w) hr hq way =
      let t = total-there (λ m. paths (edges_of g) m q w) (edges_of g r l) way in
      move-reached r l t.0 q hr t.1 (path-reached t.0 q w (whole.targets r l t.0 t.1) hq t.2)

  -- No move leads out of the states that don't reach `q`.
  pub hopeless-closed : (q : ℕ) (row : List Bool) → IsHopeless g.states p rows (number_of p q) row → (m l k : ℕ) → get_or row m false ≡ true → Has k (edges_of g m l) → get_or row k false ≡ true
  hopeless-closed q row is m l k on has =
      let hm = (move-in g m l k has).0 in
      let hk = whole.targets m l k has in
      let here : not (reaches p rows m q) ≡ true = sym (is.right m hm) ∙ on in
      is.right k hk ∙ by hm here (cases_Bool (reaches p rows k q))
    where
      by : m < g.states → not (reaches p rows m q) ≡ true → (reaches p rows k q ≡ true) ⊎ (reaches p rows k q ≡ false) → not (reaches p rows k q) ≡ true
      by hm here (inr none) = not_from_false (reaches p rows k q) none
      by hm here (inl some) = absurd (both_ways (not (reaches p rows m q)) (not_from_true (reaches p rows m q) (move-reached m l k q hm has some)) here)

  -- The state itself is not one of those that don't reach it.
  pub hopeless-lacks : (q : ℕ) (row : List Bool) → q < g.states → IsHopeless g.states p rows (number_of p q) row → get_or row q false ≡ true → ⊥
  hopeless-lacks q row hq is on = both_ways (get_or row q false) (is.right q hq ∙ not_from_true (reaches p rows q q) (own-reached q hq)) on

-- One more state of such a row is right.
pub hopeless-more : (n : ℕ) (p : PartTable) (rows : List (List Bool)) (c end : ℕ) (row new : List Bool) (b : Bool) → end < n → b ≡ not (leads_to p rows end c) → new ≡ set row end b
    → IsHopelessUpTo n p rows c end row → IsHopelessUpTo n p rows c (end + 1) new
hopeless-more n p rows c end row new b lt is e old = record {
  wide = ap length e ∙ (length-set row end b ∙ old.wide);
  right = λ m small. ap (λ (r : List Bool). get_or r m false) e ∙ by m small (cases_eq m end);
}
  where
    by : (m : ℕ) → m < end + 1 → (m ≡ end) ⊎ (m ≡ end → ⊥) → get_or (set row end b) m false ≡ not (leads_to p rows m c)
    by m small (inl same) = rw same (get_or-set_same row end b false (omega (arith, lt, old.wide)) ∙ is)
    by m small (inr other) = get_or-set_other row end m b false other ∙ old.right m (omega arith)

-- Rows without places are no rows yet.
pub filled-none : (n : ℕ) (p : PartTable) (rows hopeless : List (List Bool)) → hopeless ≡ replicate n [] → AreFilled n p rows hopeless
filled-none n p rows hopeless e = record {
  size = ap length e ∙ length-replicate n [];
  right = λ k lt some. absurd (omega (arith, some, ap (λ (r : List (List Bool)). length (get_or r k [])) e, ap length (get_or-replicate {A = List Bool} n k [] [] lt)));
}

-- One more row is there.
pub filled-set : (n : ℕ) (p : PartTable) (rows hopeless : List (List Bool)) (c : ℕ) (row : List Bool) → c < n → AreFilled n p rows hopeless → IsHopeless n p rows c row → AreFilled n p rows (set hopeless c row)
filled-set n p rows hopeless c row lt are is = record {
  size = length-set hopeless c row ∙ are.size;
  right = λ k hk some. by k hk some (cases_eq k c);
}
  where
    by : (k : ℕ) → k < n → IsFilled (set hopeless c row) k → (k ≡ c) ⊎ (k ≡ c → ⊥) → IsHopeless n p rows k (get_or (set hopeless c row) k [])
    by k hk some (inl same) = rw same (subst (IsHopeless n p rows c) (sym (get_or-set_same hopeless c row [] (omega (arith, lt, are.size)))) is)
    by k hk some (inr other) =
        let e = get_or-set_other hopeless c k row [] other in
        subst (IsHopeless n p rows k) (sym e) (are.right k hk (omega (arith, some, ap length e)))

-- The rows of the components before `end` in a list are there.
abbrev pub AreThere : List ℕ → ℕ → List (List Bool) → Type 0
AreThere listed end hopeless = (i : ℕ) → i < end → IsFilled hopeless (get_or listed i 0)
