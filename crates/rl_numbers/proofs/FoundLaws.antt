-- What the search of the triples finds: a list that holds, or more triples than the limit.
use Rattle.std.proofs.Common.{◌≡◌, ◌≢◌, ◌∙◌, ℕ, suc, ◌+◌, ◌*◌, ◌/◌, ◌%◌, ◌<◌, ◌≤◌, ◌⊎◌, inl, inr, List, [], ◌∷◌, length, map, get_or, refl, sym, ap, subst, arith}
use Rattle.std.proofs.lemmas.Bool.{cases_lt}
use Rattle.rl_graph.specs.Graph.{Graph, edges_of, IsWhole}
use Rattle.rl_graph.specs.Parts.{PartTable, IsParts}
use Rattle.rl_graph.specs.Paths.{Has, Each, Pairs, OnCycle}
use Rattle.rl_graph.proofs.Sums.{Each-has, Has-get_or, Has-map}
use Rattle.rl_degree.specs.Leavers.{HasNoEqualSplit}
use Rattle.rl_kernel.proofs.InnerLaws.{move-letter}
use Rattle.rl_numbers.specs.Closed.{Three, IsTripleGraph}
use Rattle.rl_numbers.specs.Least.{LeastTriple, AreMoreThan}
use Rattle.rl_numbers.proofs.LeastTriples.{no_more}
use Rattle.rl_numbers.specs.Level.{IsLevelOf, three_of, IsOneRank}
use Rattle.rl_numbers.specs.Listed.{listing}
use Rattle.rl_numbers.specs.Numbered.{AreTriples}
use Rattle.rl_numbers.specs.Reached.{IsReached, IsReach, AreMore}
use Rattle.rl_numbers.specs.Triples.{triple_moves, among_moves}
use Rattle.rl_numbers.proofs.GraphOfTriples.{graph_of_triples, whole, three-code}
use Rattle.rl_numbers.proofs.LeastReach.{reached_least, least_reached, least-rank}
use Rattle.rl_numbers.proofs.ListedLaws.{listed_triples}

module _ (next : ℕ → ℕ → List ℕ) (rank : ℕ → ℕ) (g : Graph) (starts : List ℕ) (level : IsLevelOf next g.states rank g) (within : (q l m : ℕ) → q < g.states → Has m (next q l) → m < g.states)
    (sound : (s : ℕ) → Has s starts → (r : ℕ) × (q : ℕ) × (r < g.states) × (q < g.states) × (r ≢ q) × (rank r ≡ rank q) × OnCycle next r × OnCycle next q × (s ≡ (r * g.states + r) * g.states + q))
    (all : (r q : ℕ) → r < g.states → q < g.states → r ≢ q → rank r ≡ rank q → OnCycle next r → OnCycle next q → Has ((r * g.states + r) * g.states + q) starts) where
  pub found_holds : (keys : List ℕ) (parts : PartTable) → IsWhole g → (0 < length keys → 0 < g.letters) → HasNoEqualSplit next g.states rank → IsReach (triple_moves (edges_of g) g.states) starts keys → Each (λ x. x < g.states * g.states * g.states) keys
      → IsParts (among_moves g keys) (length keys) parts → AreTriples next g.states rank (listing parts g.states 0 keys)
  found_holds keys parts is-whole some none reach inside is-parts =
      listed_triples next g.states rank keys (among_moves g keys) parts none reach.once
      (graph (cases_lt 0 (length keys)))
      is-parts least (λ t h. let r = least-rank next g.states rank g starts level within sound all t h in (r.1, r.2, reach.whole ((t.p * g.states + t.q) * g.states + t.r) (least_reached next g.states rank g starts level within sound all t h)))
    where
      least : (i : ℕ) → i < length keys → LeastTriple next g.states rank (three_of g.states (get_or keys i 0))
      least i lt = reached_least next g.states rank g starts level within sound all (get_or keys i 0) (Each-has (IsReached (triple_moves (edges_of g) g.states) starts) (get_or keys i 0) keys reach.sound (Has-get_or keys i 0 lt))

      in-rank : (i : ℕ) → i < length keys → (get_or keys i 0 / g.states / g.states < g.states) × (get_or keys i 0 / g.states % g.states < g.states) × (get_or keys i 0 % g.states < g.states) × IsOneRank rank (three_of g.states (get_or keys i 0))
      in-rank i lt = least-rank next g.states rank g starts level within sound all (three_of g.states (get_or keys i 0)) (least i lt)

      graph : (0 < length keys) ⊎ (length keys ≤ 0) → IsTripleGraph next g.states rank (length keys) (λ i. three_of g.states (get_or keys i 0)) (among_moves g keys)
      graph (inl there) =
          graph_of_triples next g.states rank g keys level is-whole.targets (some there) (move-letter g) reach.once
          (λ i lt. Each-has (λ (x : ℕ). x < g.states * g.states * g.states) (get_or keys i 0) keys inside (Has-get_or keys i 0 lt))
          (λ i lt. let r = in-rank i lt in (r.0, r.1, r.2)) (λ i lt. (in-rank i lt).3)
      graph (inr none_there) = record {
        inside = λ i lt. absurd (omega (arith, lt, none_there));
        one_rank = λ i lt. absurd (omega (arith, lt, none_there));
        steps = λ i j lt _ _. absurd (omega (arith, lt, none_there));
        only = λ i l j lt _. absurd (omega (arith, lt, none_there));
      }

  code-same : (k m : ℕ) → three_of g.states k ≡ three_of g.states m → k ≡ m
  code-same k m e = sym (whole g.states k) ∙ (ap (λ (t : Three). (t.p * g.states + t.q) * g.states + t.r) e ∙ whole g.states m)

  threes : (l : List ℕ) → Pairs (λ x y. x ≢ y) l → Each (IsReached (triple_moves (edges_of g) g.states) starts) l
      → Pairs (λ s t. s ≢ t) (map (three_of g.states) l) × Each (LeastTriple next g.states rank) (map (three_of g.states) l) × (length (map (three_of g.states) l) ≡ length l)
  threes [] once h = (tt, tt, refl)
  threes (k ∷ l) once h =
      let r = threes l once.1 h.1 in
      ((others l once.0, r.0), (reached_least next g.states rank g starts level within sound all k h.0, r.1), ap suc r.2)
    where
      others : (m : List ℕ) → Each (λ y. k ≢ y) m → Each (λ t. three_of g.states k ≢ t) (map (three_of g.states) m)
      others [] e = tt
      others (y ∷ m) e = ((λ d. e.0 (code-same k y d)), others m e.1)

  pub found_more : (m : ℕ) → AreMore m (IsReached (triple_moves (edges_of g) g.states) starts) → AreMoreThan m (LeastTriple next g.states rank)
  found_more m h = let r = threes h.0 h.1 h.2 in (map (three_of g.states) h.0, r.0, r.1, r.2 ∙ h.3)

  pub found_few : (keys : List ℕ) (m : ℕ) → IsReach (triple_moves (edges_of g) g.states) starts keys → length keys ≤ m → AreMoreThan m (LeastTriple next g.states rank) → ⊥
  found_few keys m reach few more =
      let r = threes keys reach.once reach.sound in
      no_more next g.states rank (map (three_of g.states) keys) m (record { once = r.0; sound = r.1; whole = there }) (omega (arith, r.2, few)) more
    where
      there : (t : Three) → LeastTriple next g.states rank t → Has t (map (three_of g.states) keys)
      there t h =
          let r = least-rank next g.states rank g starts level within sound all t h in
          let code = (t.p * g.states + t.q) * g.states + t.r in
          subst (λ (u : Three). Has u (map (three_of g.states) keys)) (three-code g.states t.p t.q t.r r.1 r.2)
          (Has-map (three_of g.states) code keys (reach.whole code (least_reached next g.states rank g starts level within sound all t h)))
