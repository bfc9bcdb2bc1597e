-- A closed list that has the starts, and only what it must have, is the least one. There are more than `m` triples if and
-- only if it is longer than `m`.
use Rattle.std.proofs.Common.{◌≡◌, ◌≢◌, ◌∙◌, ℕ, ◌<◌, ◌≤◌, List, length, sym, arith}
use Rattle.rl_graph.specs.Paths.{Has, Each, Pairs, OnCycle}
use Rattle.rl_graph.proofs.Sums.{Each-has, distinct-short}
use Rattle.rl_numbers.specs.Closed.{Three, IsTripleStep}
use Rattle.rl_numbers.specs.Least.{LeastTriple, start, step, IsLeastList, AreMoreThan}

module _ (next : ℕ → ℕ → List ℕ) (n : ℕ) (rank : ℕ → ℕ) where
  pub least_list : (keys : List Three) → Pairs (λ s t. s ≢ t) keys → Each (LeastTriple next n rank) keys
      → ((r q : ℕ) → r < n → q < n → r ≢ q → rank r ≡ rank q → OnCycle next r → OnCycle next q → Has (record { p = r; q = r; r = q }) keys)
      → ((s t : Three) → Has s keys → IsTripleStep next rank s t → Has t keys) → IsLeastList next n rank keys
  least_list keys once sound starts closed = record { once = once; sound = sound; whole = whole }
    where
      whole : (t : Three) → LeastTriple next n rank t → Has t keys
      whole t (start r q lr lq ne e cr cq) = starts r q lr lq ne e cr cq
      whole t (step {s = s} before move) = closed s t (whole s before) move

  -- No more than a least list has.
  pub no_more : (keys : List Three) (m : ℕ) → IsLeastList next n rank keys → length keys ≤ m → AreMoreThan m (LeastTriple next n rank) → ⊥
  no_more keys m least few more =
      let short = distinct-short more.0 keys more.1 (λ t i. least.whole t (Each-has (LeastTriple next n rank) t more.0 more.2 i)) in
      absurd (omega (arith, short, more.3))

  -- Another rank that is the same below `n` has the same least list.
  pub same_rank : (other : ℕ → ℕ) → ((q l m : ℕ) → q < n → Has m (next q l) → m < n) → ((q : ℕ) → q < n → rank q ≡ other q) → (t : Three) → LeastTriple next n rank t
      → (t.p < n) × (t.q < n) × (t.r < n) × LeastTriple next n other t
  same_rank other targets same t (start r q lr lq ne e cr cq) = (lr, lr, lq, start r q lr lq ne (sym (same r lr) ∙ (e ∙ same q lq)) cr cq)
  same_rank other targets same t (step {s = s} before move) =
      let h = same_rank other targets same s before in
      let lp = targets s.p move.letter t.p h.0 move.first in
      let lq = targets s.q move.letter t.q h.1 move.middle in
      let lr = targets s.r move.letter t.r h.2 move.last in (
        lp,
        lq,
        lr,
        step h.3 (record {
          letter = move.letter;
          first = move.first;
          middle = move.middle;
          last = move.last;
          first_rank = sym (same t.p lp) ∙ (move.first_rank ∙ same s.p h.0);
          middle_rank = sym (same t.q lq) ∙ (move.middle_rank ∙ same s.p h.0);
          last_rank = sym (same t.r lr) ∙ (move.last_rank ∙ same s.p h.0);
        }),
      )
