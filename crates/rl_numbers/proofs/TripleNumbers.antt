-- The parts of the graph of triples number them: a way from `(r, r, q)` to `(r, q, q)`, over lifts too, would be a split.
use Rattle.std.proofs.Common.{◌≡◌, ◌≢◌, ◌∙◌, ℕ, ◌<◌, ◌≤◌, ◌⊎◌, inl, inr, Bool, IsTrue, List, [], ◌∷◌, sym, ap, ap₂, subst, arith}
use Rattle.std.proofs.lemmas.Bool.{cases_eq}
use Rattle.rl_graph.specs.Paths.{Has, paths, Reaches}
use Rattle.rl_graph.specs.Parts.{PartTable, number_of, IsParts}
use Rattle.rl_graph.specs.Twins.{IsSplit}
use Rattle.rl_graph.proofs.Sums.{total-there}
use Rattle.rl_graph.proofs.PathLaws.{paths-nil, nil-same, move-path, Reaches-move}
use Rattle.rl_degree.specs.FallingNumbers.{IsTriples}
use Rattle.rl_degree.specs.Leavers.{HasNoEqualSplit}
use Rattle.rl_numbers.specs.Closed.{Three, IsTripleStep, IsLift, AreClosedTriples, IsTripleGraph, AreNumbers}

-- One word with paths between the outer states, and to the middle state from the first or from the middle one.
pub record IsShadow (next : ℕ → ℕ → List ℕ) (s t : Three) : Type 0 where
  pub word : List ℕ
  pub first : 1 ≤ paths next s.p t.p word
  pub last : 1 ≤ paths next s.r t.r word
  pub middle : (1 ≤ paths next s.p t.q word) ⊎ (1 ≤ paths next s.q t.q word)

module _ (next : ℕ → ℕ → List ℕ) (n : ℕ) (rank : ℕ → ℕ) (m : ℕ) (key : ℕ → Three) (moves : ℕ → ℕ → List ℕ) (graph : IsTripleGraph next n rank m key moves) where
  still : (s : Three) → IsShadow next s s
  still s = record { word = []; first = omega (arith, paths-nil next s.p); last = omega (arith, paths-nil next s.r); middle = inr (omega (arith, paths-nil next s.q)) }

  stepped : (s t u : Three) → IsTripleStep next rank s t → IsShadow next t u → IsShadow next s u
  stepped s t u step w = record {
    word = step.letter ∷ w.word;
    first = move-path next s.p t.p u.p step.letter w.word step.first w.first;
    last = move-path next s.r t.r u.r step.letter w.word step.last w.last;
    middle = by w.middle;
  }
    where
      by : (1 ≤ paths next t.p u.q w.word) ⊎ (1 ≤ paths next t.q u.q w.word) → (1 ≤ paths next s.p u.q (step.letter ∷ w.word)) ⊎ (1 ≤ paths next s.q u.q (step.letter ∷ w.word))
      by (inl h) = inl (move-path next s.p t.p u.q step.letter w.word step.first h)
      by (inr h) = inr (move-path next s.q t.q u.q step.letter w.word step.middle h)

  lifted : (s t u : Three) → IsLift s t → IsShadow next t u → IsShadow next s u
  lifted s t u lift w = record {
    word = w.word;
    first = subst (λ (x : ℕ). 1 ≤ paths next x u.p w.word) lift.first w.first;
    last = subst (λ (x : ℕ). 1 ≤ paths next x u.r w.word) lift.last w.last;
    middle = inl (by w.middle);
  }
    where
      by : (1 ≤ paths next t.p u.q w.word) ⊎ (1 ≤ paths next t.q u.q w.word) → 1 ≤ paths next s.p u.q w.word
      by (inl h) = subst (λ (x : ℕ). 1 ≤ paths next x u.q w.word) lift.first h
      by (inr h) = subst (λ (x : ℕ). 1 ≤ paths next x u.q w.word) lift.middle h

  pub shadow : (i j : ℕ) (w : List ℕ) → i < m → 1 ≤ paths moves i j w → IsShadow next (key i) (key j)
  shadow i j [] lt h = subst (λ (x : ℕ). IsShadow next (key i) (key x)) (nil-same moves i j h) (still (key i))
  shadow i j (l ∷ w) lt h =
      let t = total-there (λ x. paths moves x j w) (moves i l) h in
      let o = graph.only i l t.0 lt t.1 in
      by t.0 o.1 (shadow t.0 j w o.0 t.2)
    where
      by : (x : ℕ) → IsTripleStep next rank (key i) (key x) ⊎ (IsLift (key i) (key x) ⊎ (key x ≡ key i)) → IsShadow next (key x) (key j) → IsShadow next (key i) (key j)
      by x (inl step) rest = stepped (key i) (key x) (key j) step rest
      by x (inr (inl lift)) rest = lifted (key i) (key x) (key j) lift rest
      by x (inr (inr stay)) rest = subst (λ (s : Three). IsShadow next s (key j)) stay rest

  -- A way from `(r, r, q)` to `(r, q, q)` is a split.
  pub way-split : (i j r q : ℕ) → i < m → r ≢ q → (key i).p ≡ r → (key i).q ≡ r → (key i).r ≡ q → (key j).p ≡ r → (key j).q ≡ q → (key j).r ≡ q → Reaches moves i j → (y : List ℕ) × IsSplit next r q y
  way-split i j r q lt ne a b c d e f way =
      let w = shadow i j way.0 lt way.1 in (
        w.word,
        record {
          apart = ne;
          before = subst (λ (x : ℕ). 1 ≤ paths next x r w.word) a (subst (λ (y : ℕ). 1 ≤ paths next (key i).p y w.word) d w.first);
          over = by w.word w.middle;
          behind = subst (λ (x : ℕ). 1 ≤ paths next x q w.word) c (subst (λ (y : ℕ). 1 ≤ paths next (key i).r y w.word) f w.last);
        },
      )
    where
      by : (w : List ℕ) → (1 ≤ paths next (key i).p (key j).q w) ⊎ (1 ≤ paths next (key i).q (key j).q w) → 1 ≤ paths next r q w
      by w (inl h) = subst (λ (x : ℕ). 1 ≤ paths next x q w) a (subst (λ (y : ℕ). 1 ≤ paths next (key i).p y w) e h)
      by w (inr h) = subst (λ (x : ℕ). 1 ≤ paths next x q w) b (subst (λ (y : ℕ). 1 ≤ paths next (key i).q y w) e h)

  module _ (parts : PartTable) (holds : ℕ → ℕ → ℕ → Bool) (number : ℕ → ℕ → ℕ → ℕ) (none : HasNoEqualSplit next n rank) (right : IsParts moves m parts) (held : AreClosedTriples next n rank holds) (numbers : AreNumbers m key parts holds number) where
    number-at : (i p q r : ℕ) → i < m → (key i).p ≡ p → (key i).q ≡ q → (key i).r ≡ r → number p q r ≡ number_of parts i
    number-at i p q r lt a b c =
        subst (λ (z : ℕ). number p q z ≡ number_of parts i) c (subst (λ (y : ℕ). number p y (key i).r ≡ number_of parts i) b (subst (λ (x : ℕ). number x (key i).q (key i).r ≡ number_of parts i) a (numbers.parts_are i lt)))

    never : (p q r l x y z : ℕ) → IsTrue (holds p q r) → Has x (next p l) → Has y (next q l) → Has z (next r l)
        → rank x ≡ rank p → rank y ≡ rank p → rank z ≡ rank p → number x y z ≤ number p q r
    never p q r l x y z h hx hy hz rx ry rz =
        let s : Three = record { p = p; q = q; r = r } in
        let t : Three = record { p = x; q = y; r = z } in
        let step : IsTripleStep next rank s t = record { letter = l; first = hx; middle = hy; last = hz; first_rank = rx; middle_rank = ry; last_rank = rz } in
        let i = numbers.found p q r h in
        let j = numbers.found x y z (held.closed s t h step) in
        let si : key i.0 ≡ s = same (key i.0) p q r i.2 i.3 i.4 in
        let tj : key j.0 ≡ t = same (key j.0) x y z j.2 j.3 j.4 in
        let move = graph.steps i.0 j.0 i.1 j.1 (inl (subst (λ (u : Three). IsTripleStep next rank (key i.0) u) (sym tj) (subst (λ (u : Three). IsTripleStep next rank u t) (sym si) step))) in
        omega (arith, number-at i.0 p q r i.1 i.2 i.3 i.4, number-at j.0 x y z j.1 j.2 j.3 j.4, right.order i.0 j.0 i.1 j.1 (Reaches-move moves i.0 j.0 move.0 move.1))
      where
        same : (s : Three) (a b c : ℕ) → s.p ≡ a → s.q ≡ b → s.r ≡ c → s ≡ record { p = a; q = b; r = c }
        same s a b c e f g = ap₂ (λ (x : ℕ) (y : ℕ). record { p = x; q = y; r = s.r }) e f ∙ ap (λ (z : ℕ). record { p = a; q = b; r = z }) g

    apart : (r q : ℕ) → r ≢ q → IsTrue (holds r r q) → IsTrue (holds r q q) → number r r q < number r q q
    apart r q ne h k =
        let j = numbers.found r r q h in
        let i = numbers.found r q q k in
        let lift : IsLift (key i.0) (key j.0) = record {
          apart = λ e. ne (sym i.2 ∙ (e ∙ i.4));
          twice = i.3 ∙ sym i.4;
          first = j.2 ∙ sym i.2;
          middle = j.3 ∙ sym i.2;
          last = j.4 ∙ sym i.4;
        } in
        let move = graph.steps i.0 j.0 i.1 j.1 (inr lift) in
        let less = right.order i.0 j.0 i.1 j.1 (Reaches-move moves i.0 j.0 move.0 move.1) in
        by i j less (cases_eq (number_of parts j.0) (number_of parts i.0))
      where
        by : (i : (i : ℕ) × (i < m) × ((key i).p ≡ r) × ((key i).q ≡ q) × ((key i).r ≡ q)) (j : (j : ℕ) × (j < m) × ((key j).p ≡ r) × ((key j).q ≡ r) × ((key j).r ≡ q)) → number_of parts j.0 ≤ number_of parts i.0
            → (number_of parts j.0 ≡ number_of parts i.0) ⊎ (number_of parts j.0 ≢ number_of parts i.0) → number r r q < number r q q
        by i j less (inr ne2) = omega (arith, less, ne2, number-at i.0 r q q i.1 i.2 i.3 i.4, number-at j.0 r r q j.1 j.2 j.3 j.4)
        by i j less (inl e) =
            let split = way-split j.0 i.0 r q j.1 ne j.2 j.3 j.4 i.2 i.3 i.4 ((right.same j.0 i.0 j.1 i.1).0 e).0 in
            let small = (graph.inside i.0 i.1).0 in
            let level = (graph.one_rank i.0 i.1).1 in
            absurd (none r q split.0 (subst (λ (x : ℕ). x < n) i.2 small) (sym (ap rank i.2) ∙ (sym level ∙ ap rank i.4)) split.1)

    pub numbered_triples : IsTriples next n rank holds number
    numbered_triples = record {
      starts = held.starts;
      closed = λ p q r l x y z h hx hy hz rx ry rz. held.closed (record { p = p; q = q; r = r }) (record { p = x; q = y; r = z }) h (record { letter = l; first = hx; middle = hy; last = hz; first_rank = rx; middle_rank = ry; last_rank = rz });
      never_rises = never;
      apart = apart;
    }
