-- The triples of the least closed list are the triples that are reached in the product of three copies.
use Rattle.std.proofs.Common.{◌≡◌, ◌≢◌, ◌∙◌, ℕ, ◌+◌, ◌*◌, ◌/◌, ◌%◌, ◌<◌, List, sym, refl, ap, subst}
use Rattle.rl_graph.specs.Graph.{Graph, edges_of}
use Rattle.rl_graph.specs.Paths.{Has, OnCycle}
use Rattle.rl_graph.proofs.PathLaws.{Reaches-self, Reaches-move, Reaches-trans, along_moves}
use Rattle.rl_numbers.specs.Closed.{Three}
use Rattle.rl_numbers.specs.Least.{LeastTriple, start, step}
use Rattle.rl_numbers.specs.Level.{IsLevelOf, three_of, IsOneRank}
use Rattle.rl_numbers.specs.Reached.{IsReached}
use Rattle.rl_numbers.specs.Triples.{triple_moves}
use Rattle.rl_numbers.proofs.GraphOfTriples.{moves-of, moves-there, three-code}

module _ (next : ℕ → ℕ → List ℕ) (n : ℕ) (rank : ℕ → ℕ) (g : Graph) (starts : List ℕ) (level : IsLevelOf next n rank g) (within : (q l m : ℕ) → q < n → Has m (next q l) → m < n)
    (sound : (s : ℕ) → Has s starts → (r : ℕ) × (q : ℕ) × (r < n) × (q < n) × (r ≢ q) × (rank r ≡ rank q) × OnCycle next r × OnCycle next q × (s ≡ (r * n + r) * n + q))
    (whole : (r q : ℕ) → r < n → q < n → r ≢ q → rank r ≡ rank q → OnCycle next r → OnCycle next q → Has ((r * n + r) * n + q) starts) where
  pub least-rank : (t : Three) → LeastTriple next n rank t → (t.p < n) × (t.q < n) × (t.r < n) × IsOneRank rank t
  least-rank t (start r q lr lq ne e cr cq) = (lr, lr, lq, (refl, sym e))
  least-rank t (step {s = s} before move) =
      let h = least-rank s before in
      (within s.p move.letter t.p h.0 move.first, within s.q move.letter t.q h.1 move.middle, within s.r move.letter t.r h.2 move.last, (move.middle_rank ∙ sym move.first_rank, move.last_rank ∙ sym move.first_rank))

  -- What is reached is in the least closed list.
  pub reached_least : (t : ℕ) → IsReached (triple_moves (edges_of g) n) starts t → LeastTriple next n rank (three_of n t)
  reached_least t h =
      let s = sound h.0 h.1 in
      let first : LeastTriple next n rank (three_of n h.0) =
      subst (LeastTriple next n rank) (sym (ap (three_of n) s.8 ∙ three-code n s.0 s.0 s.1 s.2 s.3)) (start s.0 s.1 s.2 s.3 s.4 s.5 s.6 s.7) in
      along_moves (λ x. LeastTriple next n rank (three_of n x)) (triple_moves (edges_of g) n) more h.0 t h.2.0 first h.2.1
    where
      more : (q l m : ℕ) → LeastTriple next n rank (three_of n q) → Has m (triple_moves (edges_of g) n q l) → LeastTriple next n rank (three_of n m)
      more q l m least i =
          let v = moves-of (edges_of g) n q l m i in
          let r = least-rank (three_of n q) least in
          let x = (level.kept (q / n / n) l v.0).0 v.3 in
          let y = (level.kept (q / n % n) l v.1).0 v.4 in
          let z = (level.kept (q % n) l v.2).0 v.5 in
          let there = ap (three_of n) v.6 ∙ three-code n v.0 v.1 v.2 (within (q / n % n) l v.1 r.1 y.0) (within (q % n) l v.2 r.2 z.0) in
          subst (LeastTriple next n rank) (sym there) (step least (record { letter = l; first = x.0; middle = y.0; last = z.0; first_rank = x.1; middle_rank = y.1 ∙ r.3.0; last_rank = z.1 ∙ r.3.1 }))

  -- And the other way round.
  pub least_reached : (t : Three) → LeastTriple next n rank t → IsReached (triple_moves (edges_of g) n) starts ((t.p * n + t.q) * n + t.r)
  least_reached t (start r q lr lq ne e cr cq) = ((r * n + r) * n + q, whole r q lr lq ne e cr cq, Reaches-self (triple_moves (edges_of g) n) ((r * n + r) * n + q))
  least_reached t (step {s = s} before move) =
      let h = least_reached s before in
      let r = least-rank s before in
      let c : ℕ = (s.p * n + s.q) * n + s.r in
      let here : three_of n c ≡ s = three-code n s.p s.q s.r r.1 r.2 in
      let x : Has t.p (edges_of g (c / n / n) move.letter) = subst (λ (u : Three). Has t.p (edges_of g u.p move.letter)) (sym here) ((level.kept s.p move.letter t.p).1 (move.first, move.first_rank)) in
      let y : Has t.q (edges_of g (c / n % n) move.letter) = subst (λ (u : Three). Has t.q (edges_of g u.q move.letter)) (sym here) ((level.kept s.q move.letter t.q).1 (move.middle, move.middle_rank ∙ sym r.3.0)) in
      let z : Has t.r (edges_of g (c % n) move.letter) = subst (λ (u : Three). Has t.r (edges_of g u.r move.letter)) (sym here) ((level.kept s.r move.letter t.r).1 (move.last, move.last_rank ∙ sym r.3.1)) in
      (h.0, h.1, Reaches-trans (triple_moves (edges_of g) n) h.0 c ((t.p * n + t.q) * n + t.r) h.2 (Reaches-move (triple_moves (edges_of g) n) c ((t.p * n + t.q) * n + t.r) move.letter (moves-there (edges_of g) n c move.letter t.p t.q t.r x y z)))
