-- A longest chain put together link by link, and cycles.
use Rattle.std.proofs.Common.{◌≡◌, ℕ, ◌<◌, ◌≤◌, ◌⊎◌, inl, inr, true, false, List, [], ◌∷◌, ◌++◌, length, get_or, sym, ◌∙◌, ap, subst, arith, append_assoc, replicate, refl, All, Result, Ok, Err, IfOk}
use Rattle.std.proofs.lemmas.Bool.{cases_lt}
use Rattle.std.proofs.lemmas.List.{map-append, get_or-replicate, length-replicate}
use Rattle.rl_graph.specs.Paths.{paths, Reaches}
use Rattle.rl_graph.specs.Graph.{Graph, edges_of, IsWhole}
use Rattle.rl_graph.specs.Parts.{PartTable, IsParts, number_of, cycle_of}
use Rattle.rl_graph.specs.Twins.{HasNoTwin, IsSplit, Link, ChainFrom, IsRank}
use Rattle.rl_graph.proofs.Sums.{total-there}
use Rattle.rl_graph.proofs.PathLaws.{nil-same, along_moves, Reaches-self}
use Rattle.rl_graph.proofs.GraphLaws.{bounded-whole}
use Rattle.rl_degree.specs.internal.Ranks.{best_at, IsFirst, IsGood, AreBests}
use Rattle.rl_degree.specs.internal.Greatest.{AreLongest}
use Rattle.rl_degree.specs.Leavers.{HasNoSplit}
use Rattle.rl_degree.specs.Chains.{link_of, links_of, IsSplitIn, IsChain, AreRanks, HasNoCycle}
use Rattle.rl_degree.specs.declared.chains.Split.{Split}
use Rattle.rl_degree.specs.declared.ranks.Best.{Best}
use Rattle.rl_kernel.proofs.InnerLaws.{move-state}
use Rattle.rl_degree.proofs.RankLaws.{best-bound}
use Rattle.rl_degree.proofs.SearchLaws.{split-below}

-- The first link of a chain is a split that its start reaches.
pub first-there : (next : ℕ → ℕ → List ℕ) (n : ℕ) (p : PartTable) (bests : List Best) (q : ℕ) (b : Best) → AreBests next n p n bests → IsParts next n p → q < n → b ≡ best_at bests (number_of p q) → 0 < b.rank → IsFirst next n p bests q b
first-there next n p bests q b are parts hq e some =
    by (subst (IsGood next n p bests q) (sym e) (are.right q hq (parts.below q hq)).good).chain
  where
    by : (b.rank ≡ 0) ⊎ IsFirst next n p bests q b → IsFirst next n p bests q b
    by (inl z) = absurd (omega arith)
    by (inr f) = f

-- One more link stands before a chain.
pub chain-more : (next : ℕ → ℕ → List ℕ) (start q : ℕ) (links : List Split) (s : Split) → ((ms : List Link) → ChainFrom next q ms → ChainFrom next start (links_of links ++ ms)) → Reaches next q s.from → IsSplit next s.from s.to s.word
    → (ms : List Link) → ChainFrom next s.to ms → ChainFrom next start (links_of (links ++ s ∷ []) ++ ms)
chain-more next start q links s old reached split ms c =
    let e : links_of (links ++ s ∷ []) ++ ms ≡ links_of links ++ (link_of s ∷ ms) =
    ap (λ (z : List Link). z ++ ms) (map-append link_of links (s ∷ [])) ∙ append_assoc (links_of links) (link_of s ∷ []) ms in
    subst (ChainFrom next start) (sym e) (old (link_of s ∷ ms) (reached, split, c))

-- A chain from a state is a chain.
pub chain-is : (next : ℕ → ℕ → List ℕ) (start : ℕ) (links : List Split) → ChainFrom next start (links_of links) → IsChain next links
chain-is next start [] c = tt
chain-is next start (s ∷ links) c = (Reaches-self next s.from, c.1, c.2)

-- If there is no state, the empty chain is a longest one.
pub none-longest : (g : Graph) (ranks : List ℕ) → length ranks ≡ 0 → AreRanks (edges_of g) g.states ranks → AreLongest (edges_of g) g.states []
none-longest g ranks none are = record { chained = tt; states = λ k d lt. absurd (omega arith); longest = λ s ms hs chain. absurd (omega (arith, none, are.size)) }

-- No chain is longer than the chain of a state of the greatest rank.
pub from-longest : {E : Type 0} (g : Graph) (p : PartTable) (bests : List Best) (ranks : List ℕ) (top : ℕ) (r : Result (List Split) E) → IsWhole g → IsParts (edges_of g) g.states p → AreBests (edges_of g) g.states p g.states bests → AreRanks (edges_of g) g.states ranks → top < length ranks
    → ((q : ℕ) → q < length ranks → get_or ranks q 0 ≤ get_or ranks top 0) → IfOk r (λ l. ChainFrom (edges_of g) top (links_of l)) → IfOk r (λ l. length l ≡ (best_at bests (number_of p top)).rank) → IfOk r (All (IsSplitIn g.states)) → IfOk r (AreLongest (edges_of g) g.states)
from-longest g p bests ranks top (Ok links) whole parts are right ht most c e states =
    let ht2 : top < g.states = omega (arith, ht, right.size) in
    let here = right.right top ht2 in
    let bound = best-bound (edges_of g) g.states g.letters p bests (bounded-whole g whole) are parts top here.chain ht2 here.goes in
    record {
      chained = chain-is (edges_of g) top links c;
      states = states;
      longest = λ s ms hs chain. omega (arith, (right.right s hs).longest ms chain, most s (omega (arith, hs, right.size)), here.long, bound, e);
    }
from-longest g p bests ranks top (Err e) whole parts are right ht most c long states = tt

-- If no state is marked as one on a cycle, there is no cycle.
pub no-cycle : (g : Graph) (p : PartTable) → IsParts (edges_of g) g.states p → ((q : ℕ) → q < g.states → cycle_of p q ≡ false) → HasNoCycle (edges_of g)
no-cycle g p parts none q l w = by (cases_lt 0 (paths (edges_of g) q q (l ∷ w)))
  where
    not-both : true ≡ false → ⊥
    not-both e = cc

    by : (0 < paths (edges_of g) q q (l ∷ w)) ⊎ (paths (edges_of g) q q (l ∷ w) ≤ 0) → paths (edges_of g) q q (l ∷ w) ≡ 0
    by (inr h) = omega arith
    by (inl h) =
        let m = total-there (λ m. paths (edges_of g) m q w) (edges_of g q l) (omega arith) in
        let hq = move-state g q l m.0 m.1 in
        absurd (not-both (sym ((parts.on_cycle q hq).1 (l, w, omega arith)) ∙ none q hq))

-- If all states on cycles lie in one component, no state has a split.
pub one-component : (g : Graph) (p : PartTable) → IsWhole g → IsParts (edges_of g) g.states p → HasNoTwin (edges_of g)
    → ((r q : ℕ) → r < g.states → q < g.states → cycle_of p r ≡ true → cycle_of p q ≡ true → number_of p r ≡ number_of p q) → HasNoSplit (edges_of g) g.states
one-component g p whole parts none one r q y hr split = by y split
  where
    by : (y : List ℕ) → IsSplit (edges_of g) r q y → ⊥
    by [] s = s.apart (nil-same (edges_of g) r q s.over)
    by (l ∷ y) s =
        let hq = along_moves (λ m. m < g.states) (edges_of g) (λ a b m i j. whole.targets a b m j) r q (l ∷ y) hr s.over in
        let less = split-below (edges_of g) g.states p parts none r q (l ∷ y) hr hq s in
        absurd (omega (arith, less, one r q hr hq ((parts.on_cycle r hr).1 (l, y, s.before)) ((parts.on_cycle q hq).1 (l, y, s.behind))))

-- If no state has a split, each chain is empty.
no_split-short : (g : Graph) → IsWhole g → HasNoSplit (edges_of g) g.states → (q : ℕ) (ms : List Link) → q < g.states → ChainFrom (edges_of g) q ms → length ms ≤ 0
no_split-short g whole none q [] hq c = omega arith
no_split-short g whole none q (m ∷ ms) hq c =
    let hm = along_moves (λ x. x < g.states) (edges_of g) (λ a b x i j. whole.targets a b x j) q m.from c.0.0 hq c.0.1 in
    absurd (none m.from m.to m.word hm c.1)

-- If no state has a split, the empty chain is a longest one.
pub no_split-longest : (g : Graph) → IsWhole g → HasNoSplit (edges_of g) g.states → AreLongest (edges_of g) g.states []
no_split-longest g whole none = record { chained = tt; states = λ k d lt. absurd (omega arith); longest = λ s ms hs chain. no_split-short g whole none s ms hs chain }

-- If no state has a split, each rank is 0.
pub no_split-ranks : (g : Graph) (n : ℕ) (ranks : List ℕ) → IsWhole g → HasNoSplit (edges_of g) g.states → n ≡ g.states → ranks ≡ replicate n 0 → AreRanks (edges_of g) g.states ranks
no_split-ranks g n ranks whole none same e =
    record {
      size = ap length e ∙ (length-replicate n 0 ∙ same);
      right = λ q hq.
          let at : get_or ranks q 0 ≡ 0 = ap (λ (l : List ℕ). get_or l q 0) e ∙ get_or-replicate n q 0 0 (omega (arith, hq, same)) in
          subst (IsRank (edges_of g) q) (sym at) (record { chain = []; goes = tt; long = refl; longest = λ ms c. no_split-short g whole none q ms hq c });
    }
