-- From the answers of the search for a fork to twins.
use Rattle.std.proofs.Common.{◌≡◌, ap, false, true≢false, sym, ℕ, ◌+◌, ◌*◌, ◌<◌, ◌≤◌, ◌⊎◌, inl, inr, List, get_or, ◌∙◌, subst, arith}
use Rattle.std.proofs.lemmas.Bool.{cases_lt}
use Rattle.std.proofs.lemmas.Nat.{mul-add-lt}
use Rattle.std.specs.List.{All}
use Rattle.rl_graph.specs.Graph.{Graph, edges_of, IsWhole}
use Rattle.rl_graph.specs.Parts.{PartTable, IsParts, number_of, cycle_of}
use Rattle.rl_graph.proofs.Sums.{at-short, at-get_or, Has-get_or}
use Rattle.rl_graph.proofs.PathLaws.{OnCycle-move}
use Rattle.rl_graph.proofs.GraphLaws.{bounded-whole}
use Rattle.rl_expo.specs.declared.forks.Fork.{Fork}
use Rattle.rl_expo.specs.internal.Search.{AreMoves, targets_of, Stays, NoTwoStay, NoneStay}
use Rattle.rl_expo.specs.internal.Blocks.{HasNoForkIn}
use Rattle.rl_expo.proofs.ForkLaws.{no_fork_by_components}

pub targets-in : (g : Graph) (f : Fork) → IsWhole g → AreMoves g f → targets_of g f < g.states * g.states
targets-in g f w m =
    mul-add-lt (get_or (edges_of g f.state f.letter) f.first 0) g.states (get_or (edges_of g f.state f.letter) f.second 0) g.states
    (w.targets f.state f.letter (get_or (edges_of g f.state f.letter) f.first 0) (Has-get_or (edges_of g f.state f.letter) f.first 0 (omega (arith, m.order, m.number_in))))
    (w.targets f.state f.letter (get_or (edges_of g f.state f.letter) f.second 0) (Has-get_or (edges_of g f.state f.letter) f.second 0 m.number_in))

pub row-in : (g : Graph) (r l : ℕ) → IsWhole g → All (λ m. m < g.states) (edges_of g r l)
row-in g r l w k d lt = w.targets r l (get_or (edges_of g r l) k d) (Has-get_or (edges_of g r l) k d lt)

pub none_stay-no_fork : (g : Graph) (p : PartTable) (c : ℕ) → IsWhole g → IsParts (edges_of g) g.states p → ((r l : ℕ) → r < g.states → l < g.letters → number_of p r ≡ c → NoneStay g p r l) → HasNoForkIn (edges_of g) p c
none_stay-no_fork g p c w parts none =
    no_fork_by_components (edges_of g) g.states g.letters c p (bounded-whole g w) parts
    (λ r l i j x y hr hl at lt ex ey a b. none r l hr hl at i j lt (at-short (edges_of g r l) j y ey)
    (ap (number_of p) (at-get_or (edges_of g r l) i x 0 ex) ∙ a)
    (ap (number_of p) (at-get_or (edges_of g r l) j y 0 ey) ∙ b))

-- A state that lies on no cycle has no move that stays in its component.
pub off_cycle-none_stay : (g : Graph) (p : PartTable) (r : ℕ) → IsWhole g → IsParts (edges_of g) g.states p → r < g.states → cycle_of p r ≡ false → (l : ℕ) → NoneStay g p r l
off_cycle-none_stay g p r w parts hr off l i j ij jk a b =
    let row = edges_of g r l in
    let m = get_or row i 0 in
    let has = Has-get_or row i 0 (omega arith) in
    let back = ((parts.same m r (w.targets r l m has) hr).0 a).0 in
    true≢false (sym ((parts.on_cycle r hr).1 (OnCycle-move (edges_of g) r l m has back)) ∙ off)

-- One more move was looked at, which stays or doesn't

pub two_stay-more : (p : PartTable) (own k : ℕ) (row : List ℕ) → NoTwoStay p own row k → ((i : ℕ) → i < k → Stays p own row i → Stays p own row k → ⊥) → NoTwoStay p own row (k + 1)
two_stay-more p own k row old here i j ij jk a b = by (cases_lt j k)
  where
    by : (j < k) ⊎ (k ≤ j) → ⊥
    by (inl h) = old i j ij h a b
    by (inr h) =
        let e : j ≡ k = omega arith in
        here i (omega arith) a (subst (Stays p own row) e b)

pub one_stays-more : (p : PartTable) (own k : ℕ) (row : List ℕ) → ((i : ℕ) → i < k → Stays p own row i → ⊥) → (Stays p own row k → ⊥) → (i : ℕ) → i < k + 1 → Stays p own row i → ⊥
one_stays-more p own k row old here i ik a = by (cases_lt i k)
  where
    by : (i < k) ⊎ (k ≤ i) → ⊥
    by (inl h) = old i h a
    by (inr h) =
        let e : i ≡ k = omega arith in
        here (subst (Stays p own row) e a)
