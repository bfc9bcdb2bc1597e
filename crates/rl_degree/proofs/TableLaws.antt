-- Tables of bits: one more bit, one more row, and the moves on a letter.
use Rattle.std.proofs.Common.{◌∷◌, ◌++◌, ◌≡◌, ◌≢◌, ℕ, ◌+◌, ◌<◌, ◌≤◌, ◌⊎◌, inl, inr, Bool, true, false, List, [], length, get_or, set, sym, ◌∙◌, ap, subst, arith}
use Rattle.std.proofs.lemmas.Bool.{cases_eq, cases_lt, or_cases, or_left, or_right, both_ways}
use Rattle.std.proofs.lemmas.List.{get_or_append_left, get_or_push, get_or-set_same, get_or-set_other, length-set, get_or_past}
use Rattle.rl_lanes.specs.Rows.{list_or}
use Rattle.rl_lanes.proofs.RowLemmas.{get_or-list_or}
use Rattle.rl_lanes.proofs.ImageLemmas.{row_lengths-set}
use Rattle.rl_graph.specs.Paths.{Has}
use Rattle.rl_graph.specs.Graph.{Graph, edges_of, IsWhole}
use Rattle.rl_graph.proofs.Sums.{at-has, at-short, at-get_or, Has-get_or}
use Rattle.rl_degree.specs.internal.Moves.{cell, with_cell, IsMoveTable, IsMoveTableUpTo, IsUsed}

-- The laws below are about one more bit of a table.

-- A bit that holds true lies in its table.
pub cell-within : (rows : List (List Bool)) (i k : ℕ) → cell rows i k ≡ true → i < length rows
cell-within rows i k h = by (cases_lt i (length rows))
  where
    by : (i < length rows) ⊎ (length rows ≤ i) → i < length rows
    by (inl a) = a
    by (inr a) = absurd (both_ways (get_or (get_or rows i []) k false) (ap (λ (r : List Bool). get_or r k false) (get_or_past rows i [] a)) h)

pub cell-one_back : (rows : List (List Bool)) (s t i k : ℕ) → s < length rows → cell (with_cell rows s t) i k ≡ true → (cell rows i k ≡ true) ⊎ ((i ≡ s) × (k ≡ t))
cell-one_back rows s t i k hs h = by (cases_eq i s) (cases_eq k t)
  where
    by : (i ≡ s) ⊎ (i ≢ s) → (k ≡ t) ⊎ (k ≢ t) → (cell rows i k ≡ true) ⊎ ((i ≡ s) × (k ≡ t))
    by (inr n) b = inl (sym (ap (λ (r : List Bool). get_or r k false) (get_or-set_other rows s i (set (get_or rows s []) t true) [] n)) ∙ h)
    by (inl e) (inl f) = inr (e, f)
    by (inl e) (inr n) =
        let a : get_or (with_cell rows s t) i [] ≡ set (get_or rows s []) t true = ap (λ z. get_or (with_cell rows s t) z []) e ∙ get_or-set_same rows s (set (get_or rows s []) t true) [] hs in
        let b : get_or (get_or (with_cell rows s t) i []) k false ≡ get_or (get_or rows s []) k false = ap (λ (r : List Bool). get_or r k false) a ∙ get_or-set_other (get_or rows s []) t k true false n in
        inl (ap (λ z. cell rows z k) e ∙ (sym b ∙ h))

pub cell-one_here : (rows : List (List Bool)) (s t : ℕ) → s < length rows → t < length (get_or rows s []) → cell (with_cell rows s t) s t ≡ true
cell-one_here rows s t hs ht =
    ap (λ (r : List Bool). get_or r t false) (get_or-set_same rows s (set (get_or rows s []) t true) [] hs) ∙ get_or-set_same (get_or rows s []) t true false ht

pub cell-one_stays : (rows : List (List Bool)) (s t i k : ℕ) → s < length rows → t < length (get_or rows s []) → cell rows i k ≡ true → cell (with_cell rows s t) i k ≡ true
cell-one_stays rows s t i k hs ht h = by (cases_eq i s) (cases_eq k t)
  where
    by : (i ≡ s) ⊎ (i ≢ s) → (k ≡ t) ⊎ (k ≢ t) → cell (with_cell rows s t) i k ≡ true
    by (inr n) b = ap (λ (r : List Bool). get_or r k false) (get_or-set_other rows s i (set (get_or rows s []) t true) [] n) ∙ h
    by (inl e) (inl f) = rw (e, f) (cell-one_here rows s t hs ht)
    by (inl e) (inr n) =
        rw e (ap (λ (r : List Bool). get_or r k false) (get_or-set_same rows s (set (get_or rows s []) t true) [] hs)
        ∙ (get_or-set_other (get_or rows s []) t k true false n ∙ rw e at h))

-- One row is joined with another one.

abbrev pub joined : List (List Bool) → ℕ → List Bool → List (List Bool)
joined rows p image = set rows p (list_or (get_or rows p []) image)

pub cell-or_back : (rows : List (List Bool)) (p i k : ℕ) (image : List Bool) → p < length rows → length (get_or rows p []) ≡ length image → cell (joined rows p image) i k ≡ true
    → (cell rows i k ≡ true) ⊎ ((i ≡ p) × (get_or image k false ≡ true))
cell-or_back rows p i k image hp same h = by (cases_eq i p)
  where
    by : (i ≡ p) ⊎ (i ≢ p) → (cell rows i k ≡ true) ⊎ ((i ≡ p) × (get_or image k false ≡ true))
    by (inr n) = inl (sym (ap (λ (r : List Bool). get_or r k false) (get_or-set_other rows p i (list_or (get_or rows p []) image) [] n)) ∙ h)
    by (inl e) =
        let a : get_or (joined rows p image) i [] ≡ list_or (get_or rows p []) image = ap (λ z. get_or (joined rows p image) z []) e ∙ get_or-set_same rows p (list_or (get_or rows p []) image) [] hp in
        let b = ap (λ (r : List Bool). get_or r k false) a ∙ get_or-list_or (get_or rows p []) image k same in
        last e (or_cases (get_or (get_or rows p []) k false) (get_or image k false) (sym b ∙ h))
      where
        last : i ≡ p → (cell rows p k ≡ true) ⊎ (get_or image k false ≡ true) → (cell rows i k ≡ true) ⊎ ((i ≡ p) × (get_or image k false ≡ true))
        last e (inl x) = inl (rw e x)
        last e (inr x) = inr (e, x)

pub cell-or_here : (rows : List (List Bool)) (p k : ℕ) (image : List Bool) → p < length rows → length (get_or rows p []) ≡ length image → get_or image k false ≡ true → cell (joined rows p image) p k ≡ true
cell-or_here rows p k image hp same h =
    ap (λ (r : List Bool). get_or r k false) (get_or-set_same rows p (list_or (get_or rows p []) image) [] hp)
    ∙ (get_or-list_or (get_or rows p []) image k same ∙ or_right (get_or (get_or rows p []) k false) (get_or image k false) h)

pub cell-or_stays : (rows : List (List Bool)) (p i k : ℕ) (image : List Bool) → p < length rows → length (get_or rows p []) ≡ length image → cell rows i k ≡ true → cell (joined rows p image) i k ≡ true
cell-or_stays rows p i k image hp same h = by (cases_eq i p)
  where
    by : (i ≡ p) ⊎ (i ≢ p) → cell (joined rows p image) i k ≡ true
    by (inr n) = ap (λ (r : List Bool). get_or r k false) (get_or-set_other rows p i (list_or (get_or rows p []) image) [] n) ∙ h
    by (inl e) =
        rw e (ap (λ (r : List Bool). get_or r k false) (get_or-set_same rows p (list_or (get_or rows p []) image) [] hp)
        ∙ (get_or-list_or (get_or rows p []) image k same ∙ or_left (get_or (get_or rows p []) k false) (get_or image k false) (rw e at h)))

-- The laws below are about the moves on a letter.

-- The targets of the first moves of a state are marked.
pub record IsMarkedUpTo (g : Graph) (letter state end : ℕ) (rows : List (List Bool)) : Type 0 where
  pub so_far : IsMoveTableUpTo g letter state rows
  pub first : (i : ℕ) → i < end → cell rows state (get_or (edges_of g state letter) i 0) ≡ true

pub marked-more : (g : Graph) (letter state end : ℕ) (rows : List (List Bool)) → IsWhole g → state < g.states → end < length (edges_of g state letter) → IsMarkedUpTo g letter state end rows
    → IsMarkedUpTo g letter state (end + 1) (with_cell rows state (get_or (edges_of g state letter) end 0))
marked-more g letter state end rows whole hs he m = record {
  so_far = record {
    high = length-set rows state (set (get_or rows state []) t true) ∙ m.so_far.high;
    wide = row_lengths-set g.states state t true rows hr m.so_far.wide;
    moves = λ q x h. back q x (cell-one_back rows state t q x hr h);
    all = λ q x lt has. cell-one_stays rows state t q x hr ht (m.so_far.all q x lt has);
  };
  first = λ i lt. by i lt (cases_lt i end);
}
  where
    t : ℕ
    t = get_or (edges_of g state letter) end 0

    has : Has (get_or (edges_of g state letter) end 0) (edges_of g state letter)
    has = Has-get_or (edges_of g state letter) end 0 he

    hr : state < length rows
    hr = omega (arith, m.so_far.high)

    ht : get_or (edges_of g state letter) end 0 < length (get_or rows state [])
    ht = omega (arith, m.so_far.wide state [] hr, whole.targets state letter (get_or (edges_of g state letter) end 0) has)

    back : (q x : ℕ) → (cell rows q x ≡ true) ⊎ ((q ≡ state) × (x ≡ get_or (edges_of g state letter) end 0)) → Has x (edges_of g q letter)
    back q x (inl h) = m.so_far.moves q x h
    back q x (inr h) = rw (h.0, h.1) has

    by : (i : ℕ) → i < end + 1 → (i < end) ⊎ (end ≤ i) → cell (with_cell rows state (get_or (edges_of g state letter) end 0)) state (get_or (edges_of g state letter) i 0) ≡ true
    by i lt (inl a) = cell-one_stays rows state (get_or (edges_of g state letter) end 0) state (get_or (edges_of g state letter) i 0) hr ht (m.first i a)
    by i lt (inr a) = let e : i ≡ end = omega arith in rw e (cell-one_here rows state (get_or (edges_of g state letter) end 0) hr ht)

pub marked-all : (g : Graph) (letter state end : ℕ) (rows : List (List Bool)) → length (edges_of g state letter) ≤ end → IsMarkedUpTo g letter state end rows → IsMoveTableUpTo g letter (state + 1) rows
marked-all g letter state end rows long m = record {
  high = m.so_far.high;
  wide = m.so_far.wide;
  moves = m.so_far.moves;
  all = λ q x lt has. by q x lt has (cases_lt q state);
}
  where
    by : (q x : ℕ) → q < state + 1 → Has x (edges_of g q letter) → (q < state) ⊎ (state ≤ q) → cell rows q x ≡ true
    by q x lt has (inl a) = m.so_far.all q x a has
    by q x lt has (inr a) =
        let e : q ≡ state = omega arith in
        let i = at-has x (edges_of g state letter) (rw e at has) in
        let f = at-get_or (edges_of g state letter) i.0 x 0 i.1 in
        rw e (subst (λ (z : ℕ). cell rows state z ≡ true) f (m.first i.0 (omega (arith, at-short (edges_of g state letter) i.0 x i.1))))

-- One more table is right.
pub tables-more : (g inner : Graph) (end : ℕ) (old new : List (List (List Bool))) (table : List (List Bool)) → length old ≡ end → new ≡ old ++ table ∷ [] → (IsUsed inner end → IsMoveTable g end table)
    → ((k : ℕ) → k < end → IsUsed inner k → IsMoveTable g k (get_or old k [])) → (k : ℕ) → k < end + 1 → IsUsed inner k → IsMoveTable g k (get_or new k [])
tables-more g inner end old new table long e here before k lt used = by (cases_lt k end)
  where
    by : (k < end) ⊎ (end ≤ k) → IsMoveTable g k (get_or new k [])
    by (inl a) =
        let at : get_or new k [] ≡ get_or old k [] = ap (λ (v : List (List (List Bool))). get_or v k []) e ∙ get_or_append_left old (table ∷ []) [] k (omega (arith, long)) in
        subst (IsMoveTable g k) (sym at) (before k a used)
    by (inr a) =
        let same : k ≡ end = omega arith in
        let at : get_or new k [] ≡ table = ap (λ (v : List (List (List Bool))). get_or v k []) e ∙ get_or_push old table [] k (omega (arith, long)) in
        subst (IsMoveTable g k) (sym at) (subst (λ (z : ℕ). IsMoveTable g z table) (sym same) (here (subst (IsUsed inner) same used)))
