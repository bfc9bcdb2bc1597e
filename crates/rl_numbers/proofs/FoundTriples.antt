-- What the search of the triples finds, said of the graph and not of the graph of the moves that stay on a rank.
use Rattle.std.proofs.Common.{◌≡◌, ◌≢◌, ℕ, ◌+◌, ◌*◌, ◌<◌, ◌≤◌, inl, All, List, length, get_or, Result, Ok, Err, IfOk, IfErr, OnOk, ◌∙◌, refl, sym, ap, subst, arith, mul_comm}
use Rattle.std.proofs.lemmas.Nat.{mul-add-lt}
use Rattle.rl_graph.specs.Graph.{Graph, edges_of, IsWhole}
use Rattle.rl_graph.specs.Parts.{PartTable, IsParts, cycle_of}
use Rattle.rl_graph.specs.Paths.{Has, Each, OnCycle}
use Rattle.rl_graph.proofs.PathLaws.{OnCycle-first}
use Rattle.rl_graph.proofs.Sums.{Each-has, Has-get_or}
use Rattle.rl_degree.specs.Leavers.{HasNoEqualSplit}
use Rattle.rl_numbers.specs.Least.{LeastTriple, AreMoreThan}
use Rattle.rl_numbers.specs.Level.{IsLevelOf}
use Rattle.rl_numbers.specs.Listed.{listing}
use Rattle.rl_numbers.specs.Numbered.{AreTriples}
use Rattle.rl_numbers.specs.Reached.{IsReached, IsReach, AreMore}
use Rattle.rl_numbers.specs.Starts.{AreStartsUpTo}
use Rattle.rl_numbers.specs.Triples.{triple_moves, among_moves}
use Rattle.rl_numbers.specs.internal.ReachedTriples.{AreReachedTriples}
use Rattle.rl_numbers.specs.declared.numbering.TriplesError.{TriplesError}
use Rattle.rl_numbers.specs.declared.numbering.TriplesError.TheVariants.{TooMany}
use Rattle.rl_numbers.specs.declared.triple.Triple.{Triple}
use Rattle.rl_numbers.specs.declared.numbering.TheConstants.{MOST_TRIPLES}
use Rattle.rl_numbers.proofs.FoundLaws.{found_holds, found_more, found_few}
use Rattle.rl_kernel.proofs.InnerLaws.{move-letter}

module _ (g h : Graph) (rank : ℕ → ℕ) (components : PartTable) (starts : List ℕ) (is-whole : IsWhole g) (level : IsLevelOf (edges_of g) g.states rank h) (letters : h.letters ≡ g.letters)
    (are-parts : IsParts (edges_of g) g.states components) (are : AreStartsUpTo g.states rank (cycle_of components) g.states 0 starts) where
  abbrev Sound : ℕ → Type 0
  Sound n = (s : ℕ) → Has s starts → (r : ℕ) × (q : ℕ) × (r < n) × (q < n) × (r ≢ q) × (rank r ≡ rank q) × OnCycle (edges_of g) r × OnCycle (edges_of g) q × (s ≡ (r * n + r) * n + q)

  abbrev Complete : ℕ → Type 0
  Complete n = (r q : ℕ) → r < n → q < n → r ≢ q → rank r ≡ rank q → OnCycle (edges_of g) r → OnCycle (edges_of g) q → Has ((r * n + r) * n + q) starts

  sound-here : Sound g.states
  sound-here s i =
      let a = are.sound s i in
      (a.0, a.1, a.2, a.3, a.4.0, a.4.1, (are-parts.on_cycle a.0 a.2).0 a.4.2, (are-parts.on_cycle a.1 a.3).0 a.4.3, a.5)

  complete-here : Complete g.states
  complete-here r q a b ne e c d = are.whole r q a b (ne, e, (are-parts.on_cycle r a).1 c, (are-parts.on_cycle q b).1 d) (inl a)

  sound : Sound h.states
  sound = subst Sound (sym level.states) sound-here

  complete : Complete h.states
  complete = subst Complete (sym level.states) complete-here

  level-here : IsLevelOf (edges_of g) h.states rank h
  level-here = record { states = refl; kept = level.kept }

  within : (q l m : ℕ) → q < h.states → Has m (edges_of g q l) → m < h.states
  within q l m _ i = subst (λ (n : ℕ). m < n) (sym level.states) (is-whole.targets q l m i)

  pub starts-inside : All (λ s. s < h.states * h.states * h.states) starts
  starts-inside = λ k d lt.
      let s = sound (get_or starts k d) (Has-get_or starts k d lt) in
      omega (arith, s.8, mul_comm h.states (h.states * h.states), mul-add-lt (s.0 * h.states + s.0) h.states s.1 (h.states * h.states) (mul-add-lt s.0 h.states s.0 h.states s.2 s.2) s.3)

  pub triples-held : (keys : List ℕ) (parts : PartTable) → IsWhole h → HasNoEqualSplit (edges_of g) g.states rank → IsReach (triple_moves (edges_of h) h.states) starts keys
      → Each (λ x. x < h.states * h.states * h.states) keys → IsParts (among_moves h keys) (length keys) parts → AreTriples (edges_of g) g.states rank (listing parts g.states 0 keys)
  triples-held keys parts whole none reach inside is-parts =
      subst (λ (n : ℕ). AreTriples (edges_of g) n rank (listing parts n 0 keys)) level.states
      (found_holds (edges_of g) rank h starts level-here within sound complete keys parts whole some
      (subst (λ (n : ℕ). HasNoEqualSplit (edges_of g) n rank) (sym level.states) none) reach inside is-parts)
    where
      -- If a triple is reached, a state is on a cycle, and a move is on a letter.
      some : 0 < length keys → 0 < h.letters
      some lt =
          let r = Each-has (IsReached (triple_moves (edges_of h) h.states) starts) (get_or keys 0 0) keys reach.sound (Has-get_or keys 0 0 lt) in
          let s = sound r.0 r.1 in
          let m = OnCycle-first (edges_of g) s.0 s.6 in
          omega (arith, letters, move-letter g s.0 m.0 m.1 m.2)

  pub triples-more : (m : ℕ) → AreMore m (IsReached (triple_moves (edges_of h) h.states) starts) → AreMoreThan m (LeastTriple (edges_of g) g.states rank)
  triples-more m a =
      subst (λ (n : ℕ). AreMoreThan m (LeastTriple (edges_of g) n rank)) level.states (found_more (edges_of g) rank h starts level-here within sound complete m a)

  pub triples-few : (keys : List ℕ) (m : ℕ) → IsReach (triple_moves (edges_of h) h.states) starts keys → length keys ≤ m → AreMoreThan m (LeastTriple (edges_of g) g.states rank) → ⊥
  triples-few keys m reach few more =
      found_few (edges_of g) rank h starts level-here within sound complete keys m reach few
      (subst (λ (n : ℕ). AreMoreThan m (LeastTriple (edges_of g) n rank)) (sym level.states) more)

  -- The same for the triples that are reached, if there are not too many.
  pub triples-from : {E : Type 0} → HasNoEqualSplit (edges_of g) g.states rank → (r : Result (List Triple) E) → IfOk r (AreReachedTriples h starts) → IfOk r (AreTriples (edges_of g) g.states rank)
  triples-from none (Ok l) f =
      let same : l ≡ listing f.parts g.states 0 f.keys = f.same ∙ ap (λ (n : ℕ). listing f.parts n 0 f.keys) level.states in
      subst (AreTriples (edges_of g) g.states rank) (sym same) (triples-held f.keys f.parts f.whole none f.reach f.inside f.are_parts)
  triples-from none (Err e) f = tt

  pub few-from : {E : Type 0} → (r : Result (List Triple) E) → IfOk r (AreReachedTriples h starts) → OnOk r (AreMoreThan MOST_TRIPLES (LeastTriple (edges_of g) g.states rank) → ⊥)
  few-from (Ok l) f = triples-few f.keys MOST_TRIPLES f.reach f.few
  few-from (Err e) f = tt

  pub more-from : (r : Result (List Triple) TriplesError) → IfErr r (λ e. e ≡ TooMany → AreMore MOST_TRIPLES (IsReached (triple_moves (edges_of h) h.states) starts))
      → IfErr r (λ e. e ≡ TooMany → AreMoreThan MOST_TRIPLES (LeastTriple (edges_of g) g.states rank))
  more-from (Ok l) f = tt
  more-from (Err e) f = λ same. triples-more MOST_TRIPLES (f same)
