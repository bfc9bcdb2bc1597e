-- A longest chain, as the call below answers it, in the words of this crate.
use Rattle.std.proofs.Common.{◌≡◌, ℕ, zero, suc, ◌<◌, ◌≤◌, List, [], ◌∷◌, length, All, IfNone, sym, subst, arith}
use Rattle.rl_graph.specs.Paths.{paths, Reaches}
use Rattle.rl_graph.specs.Graph.{Graph, edges_of}
use Rattle.rl_graph.specs.Twins.{IsSplit, Link, ChainFrom}
use Rattle.rl_prio.specs.Automaton.{Automaton}
use Rattle.rl_degree.specs.declared.chains.Split.{Split}
use Rattle.rl_degree.specs.declared.chains.Chain.{Chain}
use Rattle.rl_degree.specs.Chains.{links_of, IsSplitIn, IsChain, AreRanks, HasNoCycle}
use Rattle.rl_pairs.specs.PairTable.{PairTable, moves_in, lead_in}
use Rattle.rl_growth.specs.Questions.{IsLed}
use Rattle.rl_growth.specs.Routes.{split_at, state_before, IsRoute, IsLongest}
use Rattle.rl_growth.proofs.RouteLaws.{before-more}

module _ (next : ℕ → ℕ → List ℕ) where
  split-there : (splits : List Split) (q : ℕ) → ChainFrom next q (links_of splits) → (k : ℕ) → k < length splits → IsSplit next (split_at splits k).from (split_at splits k).to (split_at splits k).word
  split-there [] q chain k lt = absurd (omega arith)
  split-there (s ∷ splits) q chain zero lt = chain.1
  split-there (s ∷ splits) q chain (suc k) lt = split-there splits s.to chain.2 k (omega arith)

  first-there : (splits : List Split) (q : ℕ) → ChainFrom next q (links_of splits) → 0 < length splits → Reaches next q (split_at splits 0).from
  first-there [] q chain lt = absurd (omega arith)
  first-there (s ∷ splits) q chain lt = chain.0

  next-there : (splits : List Split) (q : ℕ) → ChainFrom next q (links_of splits) → (j : ℕ) → suc j < length splits → Reaches next (split_at splits j).to (split_at splits (suc j)).from
  next-there [] q chain j lt = absurd (omega arith)
  next-there (s ∷ splits) q chain zero lt = first-there splits s.to chain.2 (omega arith)
  next-there (s ∷ splits) q chain (suc j) lt = next-there splits s.to chain.2 j (omega arith)

  -- The start of a chain.
  start : List Split → ℕ
  start [] = 0
  start (s ∷ splits) = s.from

  started : (splits : List Split) → IsChain next splits → ChainFrom next (start splits) (links_of splits)
  unfolding start
  started [] c = tt
  started (s ∷ splits) c = c

-- A longest chain, by places.
route_of : (next : ℕ → ℕ → List ℕ) (n : ℕ) (splits : List Split) (lead : ℕ → List ℕ) → 0 < n → ((i : ℕ) → i < n → 1 ≤ paths next 0 i (lead i)) → IsChain next splits → All (IsSplitIn n) splits → IsRoute next n splits
route_of next n splits lead some leads chain within =
    record {
      some = some;
      from_in = λ k lt. (there k lt).from_in;
      to_in = λ k lt. (there k lt).to_in;
      reached = reached;
      split = split-there next splits (start next splits) (started next splits chain);
    }
  where
    there : (k : ℕ) → k < length splits → IsSplitIn n (split_at splits k)
    there k lt = within k (record { from = 0; to = 0; word = [] }) lt

    reached : (k : ℕ) → k < length splits → Reaches next (state_before splits k) (split_at splits k).from
    reached zero lt = (lead (split_at splits 0).from, leads (split_at splits 0).from (there 0 lt).from_in)
    reached (suc j) lt =
        subst (λ (x : ℕ). Reaches next x (split_at splits (suc j)).from) (sym (before-more splits (suc j) j (omega arith)))
        (next-there next splits (start next splits) (started next splits chain) j lt)

-- And as the call answers it.
pub longest_of : (a : Automaton) (g : PairTable) (h : Graph) (c : Chain) → h ≡ g.graph → IsLed a g → IsChain (edges_of h) c.links → All (IsSplitIn h.states) c.links
    → ((s : ℕ) (ms : List Link) → s < h.states → ChainFrom (edges_of h) s ms → length ms ≤ length c.links) → AreRanks (edges_of h) h.states c.ranks → IfNone c.cycle (HasNoCycle (edges_of h)) → IsLongest (moves_in g) g.graph.states c
longest_of a g h c same led chain within longest ranks no_cycle =
    subst (λ (x : Graph). IsLongest (edges_of x) x.states c) same (record {
      route = route_of (edges_of h) h.states c.links (lead_in g) (subst (λ (x : Graph). 0 < x.states) (sym same) led.graph.some) (subst (λ (x : Graph). (i : ℕ) → i < x.states → 1 ≤ paths (edges_of x) 0 i (lead_in g i)) (sym same) led.leads) chain within;
      longest = longest;
      long = ranks.size;
      ranked = ranks.right;
      no_cycle = no_cycle;
    })
