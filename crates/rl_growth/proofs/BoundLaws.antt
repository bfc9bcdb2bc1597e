-- The upper bound: by numbers that never increase along a move, by ranks, and for graphs without a cycle.
use Rattle.std.proofs.Common.{◌≡◌, ℕ, suc, ◌+◌, ◌*◌, ◌^◌, ◌<◌, ◌≤◌, ◌⊎◌, inl, inr, List, [], ◌∷◌, length, subst, arith}
use Rattle.std.proofs.Math.Nat.{pow-zero}
use Rattle.std.proofs.lemmas.Bool.{cases_lt}
use Rattle.rl_graph.specs.Paths.{Has, paths}
use Rattle.rl_graph.specs.Twins.{HasNoTwin, IsSplit, IsRank}
use Rattle.rl_graph.specs.Bounds.{bound_n, bound_k, bound_c}
use Rattle.rl_graph.proofs.Sums.{total-there}
use Rattle.rl_graph.proofs.PathLaws.{nil-same}
use Rattle.rl_degree.specs.Leavers.{NeverRises, HasNoEqualSplit}
use Rattle.rl_degree.specs.Chains.{HasNoCycle}
use Rattle.rl_degree.proofs.RankPaths.{by_ranks}
use Rattle.rl_degree.proofs.SplitLaws.{ranks-fall, ranks-split}
use Rattle.rl_ranges.specs.Text.{IsText}
use Rattle.rl_syntax.specs.Cost.{cost}
use Rattle.rl_prio.specs.Automaton.{Automaton, IsAutomaton}
use Rattle.rl_prio.specs.Letters.{all_sets}
use Rattle.rl_pairs.specs.declared.pair.Pair.{Pair}
use Rattle.rl_pairs.specs.PairGraph.{IsPairGraph, IsNumbered}
use Rattle.rl_pairs.specs.RightVerdict.{Question, IsMachine, IsBounded, measure_of}
use Rattle.rl_pairs.proofs.VerdictLaws.{machine-bounded, machine-within, machine-few, bounded_degree}
use Rattle.rl_growth.proofs.VerdictLaws.{flat_bound}

none-there : (row : List ℕ) (m : ℕ) → row ≡ [] → Has m row → ⊥
none-there row m e h = subst (Has m) e h

product-one : (c m p : ℕ) → p ≡ 1 → m ≤ c * p → m ≤ c
product-one c m p e h =
    let one : m ≤ c * 1 = subst (λ (x : ℕ). m ≤ c * x) e h in
    omega (arith, one)

module _ (q : Question) (a : Automaton) (next : ℕ → ℕ → List ℕ) (at : ℕ → Pair) (n : ℕ) (machine : IsMachine q a) (whole : IsAutomaton a) (g : IsPairGraph a next at n) (numbered : IsNumbered a next at n) where
  some-bound : 0 < bound_n (measure_of q)
  some-bound = omega (arith, g.some, machine-few q a next at n machine g whole numbered)

  pub numbers_bound : HasNoTwin next → (number : ℕ → ℕ) (d : ℕ) → NeverRises next n number → HasNoEqualSplit next n number → number 0 ≤ d → IsBounded q (suc d)
  numbers_bound none number d falls apart low =
      bounded_degree q a next at n machine whole g numbered d
      (λ p u. by_ranks next (bound_n (measure_of q)) (bound_k (measure_of q)) number (machine-bounded q a next at n machine g whole numbered) none falls-all apart-all d 0 p u some-bound low)
    where
      falls-all : NeverRises next (bound_n (measure_of q)) number
      falls-all s l m lt h = by (cases_lt s n)
        where
          by : (s < n) ⊎ (n ≤ s) → number m ≤ number s
          by (inl small) = falls s l m small h
          by (inr out) = absurd (none-there (next s l) m (g.empty s l (inl out)) h)

      apart-all : HasNoEqualSplit next (bound_n (measure_of q)) number
      apart-all r t y lt e split = by (cases_lt r n) y split
        where
          by : (r < n) ⊎ (n ≤ r) → (y : List ℕ) → IsSplit next r t y → ⊥
          by (inl small) y split = apart r t y small e split
          by (inr out) [] split = split.apart (nil-same next r t split.over)
          by (inr out) (l ∷ y) split =
              let m = total-there (λ m. paths next m t y) (next r l) split.over in
              none-there (next r l) m.0 (g.empty r l (inl out)) m.1

  pub ranks_bound : HasNoTwin next → (rank : ℕ → ℕ) → ((i : ℕ) → i < n → IsRank next i (rank i)) → IsBounded q (suc (rank 0))
  ranks_bound none rank ranks =
      let within = machine-within q a next at n machine g in
      numbers_bound none rank (rank 0) (ranks-fall next n (bound_k (measure_of q)) rank within ranks) (ranks-split next n (bound_k (measure_of q)) rank within ranks) (omega arith)

  pub cost_without_cycle : HasNoCycle next → (w : List ℕ) → IsText q.universe w → cost q.tree q.ending w ≤ bound_c (measure_of q) 0
  cost_without_cycle none w text =
      product-one (bound_c (measure_of q) 0) (cost q.tree q.ending w) ((length w + 1) ^ 0) (pow-zero (length w + 1))
      (flat_bound q a next at n machine whole g numbered none w text)
