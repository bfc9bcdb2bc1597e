-- The graph of the inner moves of a graph, as it grows.
use Rattle.std.proofs.Common.{◌≡◌, ◌≢◌, ℕ, ◌+◌, ◌<◌, ◌≤◌, ◌⊎◌, inl, inr, true, List, [], ◌∷◌, length, get_or, refl, sym, ◌∙◌, ap, subst, arith}
use Rattle.std.proofs.lemmas.Bool.{cases_eq, cases_lt}
use Rattle.std.proofs.lemmas.List.{length_push}
use Rattle.rl_graph.specs.Paths.{Has}
use Rattle.rl_graph.specs.Graph.{Graph, edges_of, IsBare, IsAdded}
use Rattle.rl_graph.specs.Parts.{PartTable, number_of}
use Rattle.rl_graph.proofs.Sums.{Has-push, Has-left, Has-last, at-has, at-short, at-get_or}
use Rattle.rl_graph.proofs.GraphLaws.{edges-state, edges-letter}
use Rattle.rl_kernel.specs.Members.{is_member}
use Rattle.rl_kernel.specs.Seats.{Seats, state_at, AreSeats}
use Rattle.rl_kernel.proofs.MemberLaws.{member-there, there-member}
use Rattle.rl_kernel.specs.Inner.{IsKept, IsInner}
use Rattle.rl_kernel.specs.internal.Growing.{Before, IsBareFrom, IsInnerUpTo}

-- A state and a letter with a move are in range.
pub move-state : (g : Graph) (q l m : ℕ) → Has m (edges_of g q l) → q < g.states
move-state g q l m h = by (cases_lt q g.states)
  where
    by : (q < g.states) ⊎ (g.states ≤ q) → q < g.states
    by (inl a) = a
    by (inr a) = absurd (subst (λ (r : List ℕ). Has m r) (edges-state g q l a) h)

pub move-letter : (g : Graph) (q l m : ℕ) → Has m (edges_of g q l) → l < g.letters
move-letter g q l m h = by (cases_lt l g.letters)
  where
    by : (l < g.letters) ⊎ (g.letters ≤ l) → l < g.letters
    by (inl a) = a
    by (inr a) = absurd (subst (λ (r : List ℕ). Has m r) (edges-letter g q l a) h)

-- The rows of a graph with one more move.
pub added-row : (h k : Graph) (s c t q l x : ℕ) → IsAdded h k s c t → Has x (edges_of k q l) → Has x (edges_of h q l) ⊎ ((q ≡ s) × (l ≡ c) × (x ≡ t))
added-row h k s c t q l x a i = by (cases_eq q s) (cases_eq l c)
  where
    by : (q ≡ s) ⊎ (q ≢ s) → (l ≡ c) ⊎ (l ≢ c) → Has x (edges_of h q l) ⊎ ((q ≡ s) × (l ≡ c) × (x ≡ t))
    by (inr n) b = inl (subst (λ (r : List ℕ). Has x r) (a.elsewhere q l (inl n)) i)
    by (inl e) (inr n) = inl (subst (λ (r : List ℕ). Has x r) (a.elsewhere q l (inr n)) i)
    by (inl e) (inl f) = last (Has-push x t (edges_of h s c) (subst (λ (r : List ℕ). Has x r) (rw (e, f) a.here) i))
      where
        last : Has x (edges_of h s c) ⊎ (x ≡ t) → Has x (edges_of h q l) ⊎ ((q ≡ s) × (l ≡ c) × (x ≡ t))
        last (inl j) = inl (rw (e, f) j)
        last (inr j) = inr (e, f, j)

pub row-added : (h k : Graph) (s c t q l x : ℕ) → IsAdded h k s c t → Has x (edges_of h q l) → Has x (edges_of k q l)
row-added h k s c t q l x a i = by (cases_eq q s) (cases_eq l c)
  where
    by : (q ≡ s) ⊎ (q ≢ s) → (l ≡ c) ⊎ (l ≢ c) → Has x (edges_of k q l)
    by (inr n) b = subst (λ (r : List ℕ). Has x r) (sym (a.elsewhere q l (inl n))) i
    by (inl e) (inr n) = subst (λ (r : List ℕ). Has x r) (sym (a.elsewhere q l (inr n))) i
    by (inl e) (inl f) = rw (e, f) (subst (λ (r : List ℕ). Has x r) (sym a.here) (Has-left x (edges_of h s c) (t ∷ []) (rw (e, f) at i)))

-- The graph has those of the first moves of the state at the place on the letter that stay in the state's component.
abbrev pub IsRowUpTo : Graph → PartTable → Seats → ℕ → ℕ → ℕ → Graph → Type 0
IsRowUpTo g p s i c end h =
    (k : ℕ) → k < end → number_of p (get_or (edges_of g (state_at s i) c) k 0) ≡ number_of p (state_at s i) → is_member s.states s.places (get_or (edges_of g (state_at s i) c) k 0) ≡ true
    → Has (get_or s.places (get_or (edges_of g (state_at s i) c) k 0) 0) (edges_of h i c)

-- A member that is met is kept.
pub kept-here : (g : Graph) (p : PartTable) (s : Seats) (i c x : ℕ) → i < length s.states → Has x (edges_of g (state_at s i) c) → number_of p x ≡ number_of p (state_at s i) → is_member s.states s.places x ≡ true → IsKept g p s i c (get_or s.places x 0)
kept-here g p s i c x hi has same m =
    let there = member-there s.states s.places x m in
    record {
      from_in = hi;
      to_in = there.0;
      move = subst (λ (z : ℕ). Has z (edges_of g (state_at s i) c)) (sym there.1) has;
      same = ap (number_of p) there.1 ∙ same;
    }

pub inner-added : (g : Graph) (p : PartTable) (s : Seats) (i c t : ℕ) (h k : Graph) → IsInnerUpTo g p s i c h → IsAdded h k i c t → IsKept g p s i c t → IsInnerUpTo g p s i c k
inner-added g p s i c t h k is a here = record {
  same_states = a.same_states ∙ is.same_states;
  same_letters = a.same_letters ∙ is.same_letters;
  kept = λ q l m has. by q l m (added-row h k i c t q l m a has);
  all = λ q l m before kept. row-added h k i c t q l m a (is.all q l m before kept);
}
  where
    by : (q l m : ℕ) → Has m (edges_of h q l) ⊎ ((q ≡ i) × (l ≡ c) × (m ≡ t)) → IsKept g p s q l m
    by q l m (inl x) = is.kept q l m x
    by q l m (inr x) = rw (x.0, x.1, x.2) here

pub row-more : (g : Graph) (p : PartTable) (s : Seats) (i c end t : ℕ) (h k : Graph) → IsAdded h k i c t → t ≡ get_or s.places (get_or (edges_of g (state_at s i) c) end 0) 0 → IsRowUpTo g p s i c end h → IsRowUpTo g p s i c (end + 1) k
row-more g p s i c end t h k a at old j lt same m = by (cases_lt j end)
  where
    by : (j < end) ⊎ (end ≤ j) → Has (get_or s.places (get_or (edges_of g (state_at s i) c) j 0) 0) (edges_of k i c)
    by (inl b) = row-added h k i c t i c (get_or s.places (get_or (edges_of g (state_at s i) c) j 0) 0) a (old j b same m)
    by (inr b) =
        let e : j ≡ end = omega arith in
        let here : Has t (edges_of k i c) = subst (λ (r : List ℕ). Has t r) (sym a.here) (Has-last t (edges_of h i c)) in
        subst (λ (z : ℕ). Has (get_or s.places (get_or (edges_of g (state_at s i) c) z 0) 0) (edges_of k i c)) (sym e) (subst (λ (z : ℕ). Has z (edges_of k i c)) at here)

pub row-passed : (g : Graph) (p : PartTable) (s : Seats) (i c end : ℕ) (h : Graph)
    → (number_of p (get_or (edges_of g (state_at s i) c) end 0) ≡ number_of p (state_at s i) → is_member s.states s.places (get_or (edges_of g (state_at s i) c) end 0) ≡ true → ⊥) → IsRowUpTo g p s i c end h → IsRowUpTo g p s i c (end + 1) h
row-passed g p s i c end h ne old j lt same m = by (cases_lt j end)
  where
    by : (j < end) ⊎ (end ≤ j) → Has (get_or s.places (get_or (edges_of g (state_at s i) c) j 0) 0) (edges_of h i c)
    by (inl b) = old j b same m
    by (inr b) = let e : j ≡ end = omega arith in absurd (ne (rw e at same) (rw e at m))

pub inner-row : (g : Graph) (p : PartTable) (n i c end : ℕ) (s : Seats) (h : Graph) → AreSeats p n n s → length (edges_of g (state_at s i) c) ≤ end → IsInnerUpTo g p s i c h → IsRowUpTo g p s i c end h → IsInnerUpTo g p s i (c + 1) h
inner-row g p n i c end s h seats long is row = record {
  same_states = is.same_states;
  same_letters = is.same_letters;
  kept = is.kept;
  all = λ q l m before kept. by q l m before kept (cases_lt l c);
}
  where
    here : (m : ℕ) → IsKept g p s i c m → Has m (edges_of h i c)
    here m kept =
        let r = edges_of g (state_at s i) c in
        let a = at-has (state_at s m) r kept.move in
        let e : get_or r a.0 0 ≡ state_at s m = at-get_or r a.0 (state_at s m) 0 a.1 in
        let f : get_or s.places (get_or r a.0 0) 0 ≡ m = ap (λ z. get_or s.places z 0) e ∙ seats.place m kept.to_in in
        let mem : is_member s.states s.places (get_or r a.0 0) ≡ true =
        there-member s.states s.places (get_or r a.0 0) (omega (arith, f, kept.to_in)) (ap (λ z. get_or s.states z 0) f ∙ sym e) in
        subst (λ (x : ℕ). Has x (edges_of h i c)) f (row a.0 (omega (arith, at-short r a.0 (state_at s m) a.1)) (ap (number_of p) e ∙ kept.same) mem)

    by : (q l m : ℕ) → Before i (c + 1) q l → IsKept g p s q l m → (l < c) ⊎ (c ≤ l) → Has m (edges_of h q l)
    by q l m (inl b) kept d = is.all q l m (inl b) kept
    by q l m (inr b) kept (inl d) = is.all q l m (inr (b.0, d)) kept
    by q l m (inr b) kept (inr d) =
        let e : l ≡ c = omega (arith, b.1) in
        let f : q ≡ i = b.0 in
        rw (e, f) (here m (rw (e, f) at kept))

pub inner-bare : (g : Graph) (p : PartTable) (s : Seats) (h : Graph) (n : ℕ) → n ≡ length s.states → IsBare h n g.letters → IsInnerUpTo g p s 0 0 h
inner-bare g p s h n e b = record {
  same_states = b.all_states ∙ e;
  same_letters = b.all_letters;
  kept = λ q l m i. absurd (subst (λ (r : List ℕ). Has m r) (b.no_move q l) i);
  all = λ q l m before kept. absurd (none q l before);
}
  where
    none : (q l : ℕ) → Before 0 0 q l → ⊥
    none q l (inl a) = omega arith
    none q l (inr a) = omega (arith, a.1)

pub inner-done : (g : Graph) (p : PartTable) (s : Seats) (i : ℕ) (h : Graph) → length s.states ≤ i → IsInnerUpTo g p s i 0 h → IsInner g p s h
inner-done g p s i h long is = record {
  same_states = is.same_states;
  same_letters = is.same_letters;
  kept = λ q l m. (is.kept q l m, λ kept. is.all q l m (inl (omega (arith, kept.from_in))) kept);
}

-- Rows that no move was added to yet

-- There is no move after the row of the place `i` on the letter `c`, and this row has at most `end` moves.
pub record IsFilling (i c end : ℕ) (h : Graph) : Type 0 where
  pub few : length (edges_of h i c) ≤ end
  pub bare : IsBareFrom i (c + 1) h

pub filling-first : (i c : ℕ) (h : Graph) → IsBareFrom i c h → IsFilling i c 0 h
filling-first i c h b = record {
  few = omega (arith, ap length (b i c (inr (refl, omega arith))));
  bare = later;
}
  where
    later : IsBareFrom i (c + 1) h
    later q l (inl a) = b q l (inl a)
    later q l (inr a) = b q l (inr (a.0, omega (arith, a.1)))

pub filling-added : (i c end t : ℕ) (h k : Graph) → IsAdded h k i c t → IsFilling i c end h → IsFilling i c (end + 1) k
filling-added i c end t h k a f = record {
  few = omega (arith, f.few, ap length a.here, length_push (edges_of h i c) t);
  bare = later;
}
  where
    later : IsBareFrom i (c + 1) k
    later q l (inl b) = a.elsewhere q l (inl (λ e. omega (arith, b, e))) ∙ f.bare q l (inl b)
    later q l (inr b) = a.elsewhere q l (inr (λ e. omega (arith, b.1, e))) ∙ f.bare q l (inr b)

pub filling-passed : (i c end : ℕ) (h : Graph) → IsFilling i c end h → IsFilling i c (end + 1) h
filling-passed i c end h f = record { few = omega (arith, f.few); bare = f.bare }
