-- The numbers of pairs: each state of a graph of live pairs that is numbered by first sight is a live pair.
use Rattle.std.proofs.Common.{◌≡◌, ◌≢◌, ◌∙◌, ℕ, zero, suc, ◌<◌, ◌≤◌, ◌⊎◌, inl, inr, List, [], ◌∷◌, map, max, sym, subst, arith}
use Rattle.std.proofs.lemmas.Bool.{cases_lt}
use Rattle.std.proofs.lemmas.List.{length-map, map-append}
use Rattle.rl_graph.specs.Paths.{Has, Pairs}
use Rattle.rl_graph.proofs.Sums.{has-flat_map, has-map, each-has, Pairs-push}
use Rattle.rl_prio.specs.Automaton.{Automaton, letters_count}
use Rattle.rl_sets.specs.Live.{below}
use Rattle.rl_pairs.specs.declared.pair.Pair.{Pair}
use Rattle.rl_pairs.specs.LivePairs.{LivePair, first, move, next_pairs}
use Rattle.rl_pairs.specs.PairGraph.{IsPairGraph, IsNumbered, AreFirstSeen, seen_after, seen_before, targets_of}
use Rattle.rl_pairs.specs.Counted.{MoreThan}
use Rattle.rl_pairs.proofs.SetLaws.{Has-below}
use Rattle.rl_pairs.proofs.ExactLaws.{kept-pair}
use Rattle.rl_pairs.proofs.CountLaws.{length-below}

seen-where : (m j : ℕ) (ks : List ℕ) → AreFirstSeen m ks → j < seen_after m ks → (j < m) ⊎ Has j ks
seen-where m j [] h lt = inl lt
seen-where m j (k ∷ ks) h lt = by (seen-where (max m (suc k)) j ks h.1 lt) (cases_lt j m)
  where
    by : (j < max m (suc k)) ⊎ Has j ks → (j < m) ⊎ (m ≤ j) → (j < m) ⊎ Has j (k ∷ ks)
    by c (inl l) = inl l
    by (inr i) (inr g) = inr (inr i)
    by (inl l) (inr g) = inr (inl (omega (arith, h.0)))

module _ (a : Automaton) (next : ℕ → ℕ → List ℕ) (at : ℕ → Pair) (n : ℕ) (g : IsPairGraph a next at n) (numbered : IsNumbered a next at n) where
  step-live : (i j : ℕ) → i < n → LivePair a (at i) → Has j (targets_of a next i) → LivePair a (at j)
  step-live i j lt from h =
      let r = has-flat_map (next i) j (below (suc (letters_count a))) h in
      let le : r.0 ≤ letters_count a = omega (arith, Has-below (suc (letters_count a)) r.0 r.1) in
      move r.0 from le (kept-pair a at (next_pairs a (at i) r.0) (next i r.0) j (g.moves i r.0 lt le) r.2) (g.live j (g.targets i r.0 j lt r.2))

  seen-live : (i j : ℕ) → i ≤ n → j < seen_before a next i → LivePair a (at j)
  seen-live zero j le lt =
      let none : j ≡ 0 = omega arith in
      subst (λ (k : ℕ). LivePair a (at k)) (sym none) (subst (LivePair a) (sym g.first) first)
  seen-live (suc i) j le lt = by (seen-where (seen_before a next i) j (targets_of a next i) (numbered.in_order i (omega arith)) lt) (seen-live i)
    where
      by : (j < seen_before a next i) ⊎ Has j (targets_of a next i) → ((j : ℕ) → i ≤ n → j < seen_before a next i → LivePair a (at j)) → LivePair a (at j)
      by (inl l) before = before j (omega arith) l
      by (inr h) before = step-live i j (omega arith) (before i (omega arith) (numbered.seen i (omega arith))) h

  pub states-live : (i : ℕ) → i < n → LivePair a (at i)
  states-live i lt = seen-live n i (omega arith) (omega (arith, numbered.whole))

  different : (k : ℕ) → k ≤ n → Pairs (λ x y. x ≢ y) (map at (below k))
  different zero le = tt
  different (suc k) le =
      subst (λ (l : List Pair). Pairs (λ x y. x ≢ y) l) (sym (map-append at (below k) (k ∷ [])))
      (Pairs-push (λ x y. x ≢ y) (map at (below k)) (at k) (different k (omega arith)) (λ p i e.
      let r = has-map at p (below k) i in
      let lt : r.0 < k = Has-below k r.0 r.1 in
      let same : r.0 ≡ k = numbered.apart r.0 k (omega arith) (omega arith) (sym r.2 ∙ e) in
      absurd (omega arith)))

  pub more-than-limit : (m : ℕ) → m < n → MoreThan m (LivePair a)
  more-than-limit m lt = (
    map at (below (suc m)),
    different (suc m) (omega arith),
    each-has (LivePair a) (map at (below (suc m))) (λ p i.
        let r = has-map at p (below (suc m)) i in
        subst (LivePair a) (sym r.2) (states-live r.0 (omega (arith, Has-below (suc m) r.0 r.1)))),
    length-map (below (suc m)) at ∙ length-below (suc m),
  )
