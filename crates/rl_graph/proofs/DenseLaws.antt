-- Tables of parts whose numbers are made dense: ranks among marks, and what they keep.
use Rattle.std.proofs.Common.{◌≡◌, ◌≢◌, ℕ, zero, suc, ◌+◌, ◌<◌, ◌≤◌, ◌⊎◌, ◌↔◌, inl, inr, Bool, true, false, true≢false, List, [], ◌∷◌, ◌++◌, length, get_or, set, replicate, refl, sym, ◌∙◌, ap, arith, length-set, get_or-set_same, get_or-set_other}
use Rattle.std.proofs.lemmas.Bool.{cases_eq, cases_lt, cases_order}
use Rattle.std.proofs.lemmas.List.{get_or_push, get_or_append_left, length-replicate}
use Rattle.rl_graph.specs.Paths.{total, one, Reaches, OnCycle}
use Rattle.rl_graph.specs.Parts.{PartTable, number_of, IsParts}
use Rattle.rl_graph.specs.internal.Dense.{AreUsed, rank_in, AreRanks, AreRanked, AreCut, IsDense}
use Rattle.rl_graph.proofs.PathLaws.{one-le}
use Rattle.rl_graph.proofs.SearchLaws.{total-set}

-- Ranks

rank-suc : (marks : List Bool) (c : ℕ) → c < length marks → rank_in marks (suc c) ≡ rank_in marks c + one (get_or marks c false)
rank-suc [] c lt = absurd (omega arith)
rank-suc (b ∷ marks) zero lt = omega arith
rank-suc (b ∷ marks) (suc c) lt = omega (arith, rank-suc marks c (omega arith))

pub rank-more : (marks : List Bool) (c : ℕ) → c < length marks → rank_in marks (c + 1) ≡ rank_in marks c + one (get_or marks c false)
rank-more marks c lt = let e : c + 1 ≡ suc c = omega arith in ap (rank_in marks) e ∙ rank-suc marks c lt

rank-grows : (marks : List Bool) (c d : ℕ) → c ≤ d → rank_in marks c ≤ rank_in marks d
rank-grows marks zero d h = omega arith
rank-grows [] (suc c) d h = omega arith
rank-grows (b ∷ marks) (suc c) zero h = absurd (omega arith)
rank-grows (b ∷ marks) (suc c) (suc d) h = omega (arith, rank-grows marks c d (omega arith))

rank-all : (marks : List Bool) (c : ℕ) → rank_in marks c ≤ total one marks
rank-all marks zero = omega arith
rank-all [] (suc c) = omega arith
rank-all (b ∷ marks) (suc c) = omega (arith, rank-all marks c)

pub rank-length : (marks : List Bool) (c : ℕ) → rank_in marks c ≤ c
rank-length marks zero = omega arith
rank-length [] (suc c) = omega arith
rank-length (b ∷ marks) (suc c) = omega (arith, one-le b, rank-length marks c)

-- A mark that is set is in range.
set-in : (marks : List Bool) (c : ℕ) → get_or marks c false ≡ true → c < length marks
set-in [] c e = absurd (true≢false (sym e))
set-in (b ∷ marks) zero e = omega arith
set-in (b ∷ marks) (suc c) e = omega (arith, set-in marks c e)

-- Behind a mark that is set the ranks are greater.
rank-apart : (marks : List Bool) (c d : ℕ) → get_or marks c false ≡ true → c < d → rank_in marks c < rank_in marks d
rank-apart marks c d e lt = omega (arith, rank-more marks c (set-in marks c e), ap one e, rank-grows marks (c + 1) d (omega arith))

rank-below : (marks : List Bool) (c : ℕ) → get_or marks c false ≡ true → rank_in marks c < total one marks
rank-below marks c e = omega (arith, rank-more marks c (set-in marks c e), ap one e, rank-all marks (c + 1))

-- Marks

pub used-none : (p : PartTable) (size : ℕ) → AreUsed p size 0 (replicate size false)
used-none p size = record { size_is = length-replicate size false; used = λ q lt. absurd (omega arith); few = omega (arith, none size) }
  where
    none : (n : ℕ) → total one (replicate n false) ≡ 0
    none zero = refl
    none (suc n) = omega (arith, none n)

pub used-more : (p : PartTable) (size end : ℕ) (marks : List Bool) → number_of p end < size → AreUsed p size end marks → AreUsed p size (end + 1) (set marks (number_of p end) true)
used-more p size end marks lt u = record {
  size_is = length-set marks (number_of p end) true ∙ u.size_is;
  used = λ q small. by q (cases_eq (number_of p q) (number_of p end)) (cases_lt q end) small;
  few = omega (arith, total-set one marks (number_of p end) true false (omega (arith, u.size_is)), u.few);
}
  where
    fits : number_of p end < length marks
    fits = omega (arith, u.size_is)

    by : (q : ℕ) → (number_of p q ≡ number_of p end) ⊎ (number_of p q ≢ number_of p end) → (q < end) ⊎ (end ≤ q) → q < end + 1 → get_or (set marks (number_of p end) true) (number_of p q) false ≡ true
    by q (inl e) s small = ap (λ z. get_or (set marks (number_of p end) true) z false) e ∙ get_or-set_same marks (number_of p end) true false fits
    by q (inr n) (inl s) small = get_or-set_other marks (number_of p end) (number_of p q) true false n ∙ u.used q s
    by q (inr n) (inr s) small = let e : q ≡ end = omega arith in absurd (n (ap (number_of p) e))

-- One more in a list of values by place

pub pushed : {A : Type 0} (f : ℕ → A) (d : A) (l : List A) (end : ℕ) (x : A) → length l ≡ end → ((i : ℕ) → i < end → get_or l i d ≡ f i) → x ≡ f end
    → (i : ℕ) → i < end + 1 → get_or (l ++ x ∷ []) i d ≡ f i
pushed {A = A} f d l end x size h e i lt = by (cases_lt i end)
  where
    by : (i < end) ⊎ (end ≤ i) → get_or (l ++ x ∷ []) i d ≡ f i
    by (inl s) = get_or_append_left l (x ∷ []) d i (omega (arith, size)) ∙ h i s
    by (inr s) = let k : i ≡ end = omega arith in get_or_push l x d i (size ∙ sym k) ∙ (e ∙ ap f (sym k))

-- The parts that are made dense

pub dense-table : (p : PartTable) (size end : ℕ) (marks : List Bool) (ranks : List ℕ) (d : PartTable) → ((q : ℕ) → q < end → number_of p q < size)
    → AreUsed p size end marks → AreRanks marks (length marks) ranks → AreRanked p ranks end d.numbers → AreCut p end d.cycles → IsDense p end d
dense-table p size end marks ranks d below u r n c = record {
  size = n.size;
  below = λ q lt. omega (arith, is q lt, rank-below marks (number_of p q) (u.used q lt), u.few);
  order = λ q s hq hs le. omega (arith, is q hq, is s hs, rank-grows marks (number_of p q) (number_of p s) le);
  apart = λ q s hq hs less. omega (arith, is q hq, is s hs, rank-apart marks (number_of p q) (number_of p s) (u.used q hq) less);
  cycle = c.same;
}
  where
    is : (q : ℕ) → q < end → number_of d q ≡ rank_in marks (number_of p q)
    is q lt = n.rank q lt ∙ r.rank (number_of p q) (omega (arith, below q lt, u.size_is))

-- The first states of a graph's parts are the parts of a graph that reaches the same there.
pub dense-parts : (a b : ℕ → ℕ → List ℕ) (size n : ℕ) (p d : PartTable) → n ≤ size
    → ((x y : ℕ) → x < n → y < n → Reaches a x y ↔ Reaches b x y) → ((x : ℕ) → x < n → OnCycle a x ↔ OnCycle b x)
    → IsParts a size p → IsDense p n d → IsParts b n d
dense-parts a b size n p d le reach cycle h t = record {
  size = t.size;
  below = t.below;
  same = λ q r hq hr. (
    λ e. let s = (h.same q r (omega (arith, hq)) (omega (arith, hr))).0 (was q r hq hr e (cases_order (number_of p q) (number_of p r))) in ((reach q r hq hr).0 s.0, (reach r q hr hq).0 s.1),
    λ s. let e = (h.same q r (omega (arith, hq)) (omega (arith, hr))).1 ((reach q r hq hr).1 s.0, (reach r q hr hq).1 s.1) in
        omega (arith, t.order q r hq hr (omega (arith, e)), t.order r q hr hq (omega (arith, e))),
  );
  order = λ q r hq hr s. t.order r q hr hq (h.order q r (omega (arith, hq)) (omega (arith, hr)) ((reach q r hq hr).1 s));
  on_cycle = λ q hq. (
    λ e. (cycle q hq).0 ((h.on_cycle q (omega (arith, hq))).0 (sym (t.cycle q hq) ∙ e)),
    λ c. t.cycle q hq ∙ (h.on_cycle q (omega (arith, hq))).1 ((cycle q hq).1 c),
  );
}
  where
    was : (q r : ℕ) → q < n → r < n → number_of d q ≡ number_of d r → (number_of p q ≡ number_of p r) ⊎ ((number_of p q < number_of p r) ⊎ (number_of p r < number_of p q)) → number_of p q ≡ number_of p r
    was q r hq hr e (inl same) = same
    was q r hq hr e (inr (inl less)) = absurd (omega (arith, e, t.apart q r hq hr less))
    was q r hq hr e (inr (inr less)) = absurd (omega (arith, e, t.apart r q hr hq less))
