-- The graph of the inner moves of a graph, as it grows.
use Rattle.std.proofs.Common.{◌≡◌, ◌≢◌, ℕ, zero, suc, ◌+◌, ◌<◌, ◌≤◌, ◌⊎◌, inl, inr, List, [], ◌∷◌, length, get_or, refl, sym, ◌∙◌, ap, subst, arith}
use Rattle.std.proofs.lemmas.Bool.{cases_eq, cases_lt}
use Rattle.rl_graph.specs.Paths.{Has, Pairs}
use Rattle.rl_graph.specs.Graph.{Graph, edges_of, IsWhole, IsBare, IsAdded}
use Rattle.rl_graph.specs.Parts.{PartTable, number_of}
use Rattle.rl_graph.proofs.Sums.{Has-last, Has-get_or, Pairs-push, at-has, at-short, at-get_or, distinct-short}
use Rattle.rl_kernel.proofs.InnerLaws.{IsFilling, filling-added, filling-passed, move-state, added-row, row-added}
use Rattle.rl_numbers.specs.internal.Inner.{IsKept, IsAddedOnce, IsInner, Before, IsInnerUpTo}

-- A row without parallel moves, and a move that it doesn't have.
added-once : (h k : Graph) (s c t q l : ℕ) → IsAdded h k s c t → (Has t (edges_of h s c) → ⊥) → Pairs (λ x y. x ≢ y) (edges_of h q l) → Pairs (λ x y. x ≢ y) (edges_of k q l)
added-once h k s c t q l a fresh old = by (cases_eq q s) (cases_eq l c)
  where
    by : (q ≡ s) ⊎ (q ≢ s) → (l ≡ c) ⊎ (l ≢ c) → Pairs (λ x y. x ≢ y) (edges_of k q l)
    by (inr n) b = subst (Pairs (λ (x y : ℕ). x ≢ y)) (sym (a.elsewhere q l (inl n))) old
    by (inl e) (inr n) = subst (Pairs (λ (x y : ℕ). x ≢ y)) (sym (a.elsewhere q l (inr n))) old
    by (inl e) (inl f) =
        let here : Pairs (λ (x y : ℕ). x ≢ y) (edges_of h s c) =
        subst (λ (r : ℕ). Pairs (λ (x y : ℕ). x ≢ y) (edges_of h r c)) e (subst (λ (r : ℕ). Pairs (λ (x y : ℕ). x ≢ y) (edges_of h q r)) f old) in
        let new : Pairs (λ (x y : ℕ). x ≢ y) (edges_of k s c) =
        subst (Pairs (λ (x y : ℕ). x ≢ y)) (sym a.here) (Pairs-push (λ (x y : ℕ). x ≢ y) (edges_of h s c) t here (λ x i d. fresh (subst (λ (y : ℕ). Has y (edges_of h s c)) d i))) in
        subst (λ (r : ℕ). Pairs (λ (x y : ℕ). x ≢ y) (edges_of k r l)) (sym e) (subst (λ (r : ℕ). Pairs (λ (x y : ℕ). x ≢ y) (edges_of k s r)) (sym f) new)

-- The first moves of the state on the letter that stay in its component are there.
abbrev pub IsRowUpTo : Graph → PartTable → ℕ → ℕ → ℕ → Graph → Type 0
IsRowUpTo g p s c end h =
    (i : ℕ) → i < end → number_of p (get_or (edges_of g s c) i 0) ≡ number_of p s → Has (get_or (edges_of g s c) i 0) (edges_of h s c)

pub inner-added : (g : Graph) (p : PartTable) (s c t : ℕ) (h k : Graph) → IsInnerUpTo g p s c h → IsAdded h k s c t → (Has t (edges_of h s c) → ⊥) → IsKept g p s c t → IsInnerUpTo g p s c k
inner-added g p s c t h k i a fresh here = record {
  same_states = a.same_states ∙ i.same_states;
  same_letters = a.same_letters ∙ i.same_letters;
  kept = λ q l m has. by q l m (added-row h k s c t q l m a has);
  all = λ q l m before kept. row-added h k s c t q l m a (i.all q l m before kept);
  once = λ q l. added-once h k s c t q l a fresh (i.once q l);
}
  where
    by : (q l m : ℕ) → Has m (edges_of h q l) ⊎ ((q ≡ s) × (l ≡ c) × (m ≡ t)) → IsKept g p q l m
    by q l m (inl x) = i.kept q l m x
    by q l m (inr x) = rw (x.0, x.1, x.2) here

pub row-more : (g : Graph) (p : PartTable) (s c end : ℕ) (h k : Graph) → IsAdded h k s c (get_or (edges_of g s c) end 0) → IsRowUpTo g p s c end h → IsRowUpTo g p s c (end + 1) k
row-more g p s c end h k a old i lt same = by (cases_lt i end)
  where
    by : (i < end) ⊎ (end ≤ i) → Has (get_or (edges_of g s c) i 0) (edges_of k s c)
    by (inl b) = row-added h k s c (get_or (edges_of g s c) end 0) s c (get_or (edges_of g s c) i 0) a (old i b same)
    by (inr b) =
        let e : i ≡ end = omega arith in
        rw e (subst (λ (r : List ℕ). Has (get_or (edges_of g s c) end 0) r) (sym a.here) (Has-last (get_or (edges_of g s c) end 0) (edges_of h s c)))

pub row-passed : (g : Graph) (p : PartTable) (s c end : ℕ) (h : Graph) → (number_of p (get_or (edges_of g s c) end 0) ≡ number_of p s → ⊥) → IsRowUpTo g p s c end h → IsRowUpTo g p s c (end + 1) h
row-passed g p s c end h ne old i lt same = by (cases_lt i end)
  where
    by : (i < end) ⊎ (end ≤ i) → Has (get_or (edges_of g s c) i 0) (edges_of h s c)
    by (inl b) = old i b same
    by (inr b) = let e : i ≡ end = omega arith in absurd (ne (rw e at same))

-- The move with the number `end` is put, unless it is there.
pub row-put : (g : Graph) (p : PartTable) (s c end : ℕ) (h k : Graph) → IsInnerUpTo g p s c h → IsRowUpTo g p s c end h → IsFilling s c end h → end < length (edges_of g s c)
    → number_of p (get_or (edges_of g s c) end 0) ≡ number_of p s → IsAddedOnce h k s c (get_or (edges_of g s c) end 0) → IsInnerUpTo g p s c k × IsRowUpTo g p s c (end + 1) k × IsFilling s c (end + 1) k
row-put g p s c end h k i row filling lt same (inl (a, fresh)) = (
  inner-added g p s c (get_or (edges_of g s c) end 0) h k i a fresh (Has-get_or (edges_of g s c) end 0 lt, same),
  row-more g p s c end h k a row,
  filling-added s c end (get_or (edges_of g s c) end 0) h k a filling,
)
row-put g p s c end h k i row filling lt same (inr (there, e)) = subst (λ (f : Graph). IsInnerUpTo g p s c f × IsRowUpTo g p s c (end + 1) f × IsFilling s c (end + 1) f) (sym e) (i, had, filling-passed s c end h filling)
  where
    had : IsRowUpTo g p s c (end + 1) h
    had j lt2 same2 = by (cases_lt j end)
      where
        by : (j < end) ⊎ (end ≤ j) → Has (get_or (edges_of g s c) j 0) (edges_of h s c)
        by (inl b) = row j b same2
        by (inr b) = let d : j ≡ end = omega arith in rw d there

-- All kept moves of the state on the letter are there.
pub inner-full : (g : Graph) (p : PartTable) (s c : ℕ) (h : Graph) → ((m : ℕ) → IsKept g p s c m → Has m (edges_of h s c)) → IsInnerUpTo g p s c h → IsInnerUpTo g p s (c + 1) h
inner-full g p s c h here i = record {
  same_states = i.same_states;
  same_letters = i.same_letters;
  kept = i.kept;
  all = λ q l m before kept. by q l m before kept (cases_lt l c);
  once = i.once;
}
  where
    by : (q l m : ℕ) → Before s (c + 1) q l → IsKept g p q l m → (l < c) ⊎ (c ≤ l) → Has m (edges_of h q l)
    by q l m (inl b) kept d = i.all q l m (inl b) kept
    by q l m (inr b) kept (inl d) = i.all q l m (inr (b.0, d)) kept
    by q l m (inr b) kept (inr d) =
        let e : l ≡ c = omega (arith, b.1) in
        let f : q ≡ s = b.0 in
        rw (e, f) (here m (rw (e, f) at kept))

pub inner-row : (g : Graph) (p : PartTable) (s c end : ℕ) (h : Graph) → length (edges_of g s c) ≤ end → IsInnerUpTo g p s c h → IsRowUpTo g p s c end h → IsInnerUpTo g p s (c + 1) h
inner-row g p s c end h long i row = inner-full g p s c h here i
  where
    here : (m : ℕ) → IsKept g p s c m → Has m (edges_of h s c)
    here m kept =
        let a = at-has m (edges_of g s c) kept.0 in
        let e = at-get_or (edges_of g s c) a.0 m 0 a.1 in
        subst (λ (x : ℕ). Has x (edges_of h s c)) e (row a.0 (omega (arith, at-short (edges_of g s c) a.0 m a.1)) (ap (number_of p) e ∙ kept.1))

pub inner-bare : (g : Graph) (p : PartTable) (h : Graph) → IsBare h g.states g.letters → IsInnerUpTo g p 0 0 h
inner-bare g p h b = record {
  same_states = b.all_states;
  same_letters = b.all_letters;
  kept = λ q l m i. absurd (subst (λ (r : List ℕ). Has m r) (b.no_move q l) i);
  all = λ q l m before kept. absurd (none q l before);
  once = λ q l. subst (Pairs (λ (x y : ℕ). x ≢ y)) (sym (b.no_move q l)) tt;
}
  where
    none : (q l : ℕ) → Before 0 0 q l → ⊥
    none q l (inl a) = omega arith
    none q l (inr a) = omega (arith, a.1)

pub inner-done : (g : Graph) (p : PartTable) (s : ℕ) (h : Graph) → g.states ≤ s → IsInnerUpTo g p s 0 h → IsInner g p h
inner-done g p s h long i = record {
  same_states = i.same_states;
  same_letters = i.same_letters;
  kept = λ q l m. (i.kept q l m, λ kept. i.all q l m (inl (omega (arith, move-state g q l m kept.0))) kept);
  once = i.once;
}

-- The numbers below a number.
abbrev below : ℕ → List ℕ
below zero = []
below (suc n) = n ∷ below n

has-below : (n x : ℕ) → x < n → Has x (below n)
has-below zero x lt = absurd (omega arith)
has-below (suc n) x lt = by (cases_lt x n) (has-below n x)
  where
    by : (x < n) ⊎ (n ≤ x) → (x < n → Has x (below n)) → (x ≡ n) ⊎ Has x (below n)
    by (inl b) rest = inr (rest b)
    by (inr b) rest = inl (omega arith)

length-below : (n : ℕ) → length (below n) ≡ n
length-below zero = refl
length-below (suc n) = let rest : length (below n) ≡ n = length-below n in omega arith

-- A state without parallel moves has at most one on a letter for each state.
pub inner-few : (g : Graph) (p : PartTable) (h : Graph) → IsWhole g → IsInner g p h → (q l : ℕ) → length (edges_of h q l) ≤ g.states
inner-few g p h whole i q l =
    omega (arith, length-below g.states, distinct-short (edges_of h q l) (below g.states) (i.once q l) (λ m has. has-below g.states m (whole.targets q l m ((i.kept q l m).0 has).0)))
