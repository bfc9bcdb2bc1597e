-- Marks, and the fork that consists of two moves leading to one mark.
use Rattle.std.proofs.Common.{◌≡◌, ◌≢◌, ℕ, zero, suc, ◌+◌, ◌*◌, ◌<◌, ◌⊎◌, inl, inr, List, ◌∷◌, length, get_or, set, replicate, Option, Some, None, sym, ◌∙◌, ap, subst, arith}
use Rattle.std.proofs.lemmas.Bool.{cases_eq}
use Rattle.std.proofs.lemmas.List.{get_or-set_same, get_or-set_other, length-set, length-replicate}
use Rattle.rl_graph.specs.Paths.{Has, Reaches}
use Rattle.rl_graph.specs.Graph.{Graph, edges_of, IsWhole}
use Rattle.rl_graph.specs.Product.{pair_moves}
use Rattle.rl_graph.specs.Parts.{PartTable, IsParts, number_of}
use Rattle.rl_graph.proofs.PathLaws.{move-path}
use Rattle.rl_graph.proofs.GraphLaws.{bounded-whole}
use Rattle.rl_kernel.proofs.InnerPaths.{both-paths}
use Rattle.rl_expo.specs.declared.dense.Mark.{Mark}
use Rattle.rl_expo.specs.internal.Search.{pair_at}
use Rattle.rl_expo.specs.internal.Dense.{IsMark, AreMarks, IsEarlier}
use Rattle.rl_expo.proofs.SearchLaws.{row-in}

-- Two moves of `s` whose targets have moves on `v` to one state of the component of `s`.
pub common-back : (g : Graph) (p : PartTable) (s l v i j r : ℕ) → IsWhole g → IsParts (edges_of g) g.states p → s < g.states → r < g.states → number_of p r ≡ number_of p s
    → i < length (edges_of g s l) → j < length (edges_of g s l) → Has r (edges_of g (get_or (edges_of g s l) i 0) v) → Has r (edges_of g (get_or (edges_of g s l) j 0) v)
    → Reaches (pair_moves (edges_of g) g.states) (pair_at g.states (edges_of g s l) i j) (s * g.states + s)
common-back g p s l v i j r w parts hs hr same hi hj a b =
    let back = ((parts.same r s hr hs).0 same).0 in
    let x = get_or (edges_of g s l) i 0 in
    let y = get_or (edges_of g s l) j 0 in (
      v ∷ back.0,
      both-paths (edges_of g) g.states g.letters (bounded-whole g w) x y s s (v ∷ back.0) (row-in g s l w i 0 hi) (row-in g s l w j 0 hj) hs hs
          (move-path (edges_of g) x r s v back.0 a back.1) (move-path (edges_of g) y r s v back.0 b back.1),
    )

-- A move that leads to a mark of an earlier move of its row.
pub earlier-back : (g : Graph) (p : PartTable) (marks : List (Option Mark)) (r : ℕ) (new : Mark) (i : ℕ) → IsWhole g → IsParts (edges_of g) g.states p → AreMarks g p marks → IsMark g p r new → IsEarlier marks r new i
    → Reaches (pair_moves (edges_of g) g.states) (pair_at g.states (edges_of g new.state new.letter) i new.number) (new.state * g.states + new.state)
earlier-back g p marks r new i w parts are m e =
    let o = (are.right r e.old e.there).move in
    common-back g p new.state new.letter new.via i new.number r w parts m.state_in m.target_in m.same (omega (arith, e.order, m.number_in)) m.number_in (rw (e.state, e.letter, e.via, e.number) at o) m.move

-- One more mark.
pub marks-more : (g : Graph) (p : PartTable) (marks : List (Option Mark)) (r : ℕ) (k : Mark) → AreMarks g p marks → IsMark g p r k → AreMarks g p (set marks r (Some k))
marks-more g p marks r k are m = record { size = length-set marks r (Some k) ∙ are.size; right = λ q j e. by q j e (cases_eq q r) }
  where
    by : (q : ℕ) (j : Mark) → get_or (set marks r (Some k)) q None ≡ Some j → (q ≡ r) ⊎ (q ≢ r) → IsMark g p q j
    by q j e (inr n) = are.right q j (sym (get_or-set_other marks r q (Some k) None n) ∙ e)
    by q j e (inl at) =
        let d : get_or (set marks r (Some k)) r None ≡ Some j = subst (λ (z : ℕ). get_or (set marks r (Some k)) z None ≡ Some j) at e in
        let o : Some k ≡ Some j = sym (get_or-set_same marks r (Some k) None (omega (arith, are.size, m.target_in))) ∙ d in
        let same : k ≡ j = cc in
        subst (λ (z : ℕ). IsMark g p z j) (sym at) (subst (IsMark g p r) same m)

none_marked : (n r : ℕ) (k : Mark) → get_or (replicate {A = Option Mark} n None) r None ≡ Some k → ⊥
none_marked zero r k e = cc
none_marked (suc n) zero k e = cc
none_marked (suc n) (suc r) k e = none_marked n r k e

-- No mark at first.
pub marks-none : (g : Graph) (p : PartTable) (marks : List (Option Mark)) (n : ℕ) → marks ≡ replicate n None → n ≡ g.states → AreMarks g p marks
marks-none g p marks n e is = record {
  size = ap length e ∙ (length-replicate n None ∙ is);
  right = λ r k at. absurd (none_marked n r k (sym (ap (λ (z : List (Option Mark)). get_or z r None) e) ∙ at));
}
