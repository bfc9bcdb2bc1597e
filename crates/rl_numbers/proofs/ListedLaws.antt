-- The list of the triples that are reached, numbered by their parts, holds.
use Rattle.std.proofs.Common.{◌≡◌, ◌≢◌, ◌∙◌, ℕ, zero, suc, ◌+◌, ◌*◌, ◌/◌, ◌%◌, ◌<◌, inl, inr, IsTrue, List, [], ◌∷◌, ◌++◌, length, take, get_or, Option, Some, is_some, sym, ap, ap₂, subst, arith}
use Rattle.std.specs.Option.{option_map_or}
use Rattle.std.proofs.lemmas.List.{take_more, length-take-le}
use Rattle.rl_graph.specs.Parts.{PartTable, IsParts, number_of}
use Rattle.rl_graph.specs.Paths.{Has, Pairs}
use Rattle.rl_graph.proofs.Sums.{each-has, Each-has, Has-get_or, at-has, at-short, at-get_or}
use Rattle.rl_degree.specs.Leavers.{HasNoEqualSplit}
use Rattle.rl_numbers.specs.declared.triple.Triple.{Triple}
use Rattle.rl_numbers.specs.Closed.{Three, IsTripleStep, IsTripleGraph}
use Rattle.rl_numbers.specs.Least.{LeastTriple, start, step}
use Rattle.rl_numbers.specs.Level.{three_of}
use Rattle.rl_numbers.specs.Listed.{triple_of, listing}
use Rattle.rl_numbers.specs.Numbered.{triple_at, is_triple, triple_number, OnceEach, IsLevel, AreTriples}
use Rattle.rl_numbers.proofs.GraphOfTriples.{three-code, whole}
use Rattle.rl_numbers.proofs.IndexLaws.{at-there, at-once, some_of}
use Rattle.rl_numbers.proofs.TripleNumbers.{numbered_triples}

module _ (parts : PartTable) (n : ℕ) where
  listed-has : (i : ℕ) (ks : List ℕ) (j : ℕ) → j < length ks → Has (triple_of parts n (i + j) (get_or ks j 0)) (listing parts n i ks)
  listed-has i [] j lt = absurd (omega (arith, lt))
  listed-has i (k ∷ ks) zero lt = inl (ap (λ (z : ℕ). triple_of parts n z k) (omega arith))
  listed-has i (k ∷ ks) (suc j) lt =
      let e : suc i + j ≡ i + suc j = omega arith in
      inr (subst (λ (z : ℕ). Has (triple_of parts n z (get_or ks j 0)) (listing parts n (suc i) ks)) e (listed-has (suc i) ks j (omega (arith, lt))))

  has-listed : (i : ℕ) (ks : List ℕ) (t : Triple) → Has t (listing parts n i ks) → (j : ℕ) × (j < length ks) × (t ≡ triple_of parts n (i + j) (get_or ks j 0))
  has-listed i [] t h = absurd h
  has-listed i (k ∷ ks) t (inl e) = (0, omega arith, e ∙ ap (λ (z : ℕ). triple_of parts n z k) (omega arith))
  has-listed i (k ∷ ks) t (inr h) =
      let r = has-listed (suc i) ks t h in
      let e : suc i + r.0 ≡ i + suc r.0 = omega arith in
      (suc r.0, omega (arith, r.1), r.2 ∙ ap (λ (z : ℕ). triple_of parts n z (get_or ks r.0 0)) e)

  same-code : (k m : ℕ) → k / n / n ≡ m / n / n → k / n % n ≡ m / n % n → k % n ≡ m % n → k ≡ m
  same-code k m e f g = sym (whole n k) ∙ (ap₂ (λ (a b : ℕ). a * n + b) (ap₂ (λ (a b : ℕ). a * n + b) e f) g ∙ whole n m)

  once-listed : (i : ℕ) (ks : List ℕ) → Pairs (λ x y. x ≢ y) ks → OnceEach (listing parts n i ks)
  once-listed i [] once = tt
  once-listed i (k ∷ ks) once = (each-has (λ (u : Triple). k / n / n ≡ u.p → k / n % n ≡ u.q → k % n ≡ u.r → ⊥) (listing parts n (suc i) ks) apart, once-listed (suc i) ks once.1)
    where
      apart : (u : Triple) → Has u (listing parts n (suc i) ks) → k / n / n ≡ u.p → k / n % n ≡ u.q → k % n ≡ u.r → ⊥
      apart u h a b c =
          let r = has-listed (suc i) ks u h in
          Each-has (λ (y : ℕ). k ≢ y) (get_or ks r.0 0) ks once.0 (Has-get_or ks r.0 0 r.1)
          (same-code k (get_or ks r.0 0) (a ∙ ap (λ (t : Triple). t.p) r.2) (b ∙ ap (λ (t : Triple). t.q) r.2) (c ∙ ap (λ (t : Triple). t.r) r.2))

three-same : (s t : Three) → s.p ≡ t.p → s.q ≡ t.q → s.r ≡ t.r → s ≡ t
three-same s t x y z = λ i. record { p = x i; q = y i; r = z i }

module _ (next : ℕ → ℕ → List ℕ) (n : ℕ) (rank : ℕ → ℕ) (keys : List ℕ) (moves : ℕ → ℕ → List ℕ) (parts : PartTable) (none : HasNoEqualSplit next n rank) (once : Pairs (λ x y. x ≢ y) keys)
    (graph : IsTripleGraph next n rank (length keys) (λ i. three_of n (get_or keys i 0)) moves) (is-parts : IsParts moves (length keys) parts)
    (least : (i : ℕ) → i < length keys → LeastTriple next n rank (three_of n (get_or keys i 0))) (there : (t : Three) → LeastTriple next n rank t → (t.q < n) × (t.r < n) × Has ((t.p * n + t.q) * n + t.r) keys) where
  abbrev l : List Triple
  l = listing parts n 0 keys

  all-once : OnceEach l
  all-once = once-listed parts n 0 keys once

  held : (i : ℕ) → i < length keys → triple_at l (get_or keys i 0 / n / n) (get_or keys i 0 / n % n) (get_or keys i 0 % n) ≡ Some (number_of parts i)
  held i lt = at-once l (triple_of parts n i (get_or keys i 0)) all-once (subst (λ (z : ℕ). Has (triple_of parts n z (get_or keys i 0)) l) same (listed-has parts n 0 keys i lt))
    where
      same : 0 + i ≡ i
      same = omega arith

  least-held : (t : Three) → LeastTriple next n rank t → IsTrue (is_triple l t.p t.q t.r)
  least-held t h =
      let m = there t h in
      let r = at-has ((t.p * n + t.q) * n + t.r) keys m.2 in
      let e = at-get_or keys r.0 ((t.p * n + t.q) * n + t.r) 0 r.1 in
      let same : three_of n (get_or keys r.0 0) ≡ t = ap (three_of n) e ∙ three-code n t.p t.q t.r m.0 m.1 in
      subst (λ (u : Three). IsTrue (is_triple l u.p u.q u.r)) same (ap is_some (held r.0 (at-short keys r.0 ((t.p * n + t.q) * n + t.r) r.1)))

  found : (p q r : ℕ) → IsTrue (is_triple l p q r) → (i : ℕ) × (i < length keys) × (get_or keys i 0 / n / n ≡ p) × (get_or keys i 0 / n % n ≡ q) × (get_or keys i 0 % n ≡ r)
  found p q r h =
      let s = some_of (triple_at l p q r) h in
      let t = at-there l p q r s.0 s.1 in
      let j = has-listed parts n 0 keys t.0 t.1 in
      (j.0, j.1, sym (ap (λ (u : Triple). u.p) j.2) ∙ t.2, sym (ap (λ (u : Triple). u.q) j.2) ∙ t.3, sym (ap (λ (u : Triple). u.r) j.2) ∙ t.4)

  closed : (s t : Three) → IsTrue (is_triple l s.p s.q s.r) → IsTripleStep next rank s t → IsTrue (is_triple l t.p t.q t.r)
  closed s t h move =
      let f = found s.p s.q s.r h in
      let same : three_of n (get_or keys f.0 0) ≡ s = three-same (three_of n (get_or keys f.0 0)) s f.2 f.3 f.4 in
      least-held t (step (subst (LeastTriple next n rank) same (least f.0 f.1)) move)

  pub listed_triples : AreTriples next n rank l
  listed_triples = record {
    once = all-once;
    levels = each-has (IsLevel n rank) l levels;
    numbers = numbered_triples next n rank (length keys) (λ i. three_of n (get_or keys i 0)) moves graph parts (is_triple l) (triple_number l) none is-parts
        (record { starts = λ r q a b c d e f. least-held (record { p = r; q = r; r = q }) (start r q a b c d e f); closed = closed })
        (record { found = found; parts_are = λ i lt. ap (λ (o : Option ℕ). option_map_or (λ (k : ℕ). k) o 0) (held i lt) });
  }
    where
      levels : (t : Triple) → Has t l → IsLevel n rank t
      levels t h =
          let j = has-listed parts n 0 keys t h in
          let a = graph.inside j.0 j.1 in
          let b = graph.one_rank j.0 j.1 in
          subst (IsLevel n rank) (sym j.2) (a.0, a.1, a.2, b.0, b.1)

-- One code more.
listing-push : (parts : PartTable) (n i : ℕ) (ks : List ℕ) (k : ℕ) → listing parts n i (ks ++ k ∷ []) ≡ listing parts n i ks ++ triple_of parts n (i + length ks) k ∷ []
listing-push parts n i [] k = ap (λ (z : ℕ). triple_of parts n z k ∷ []) e
  where
    e : i ≡ i + 0
    e = omega arith
listing-push parts n i (x ∷ ks) k = ap (λ (l : List Triple). triple_of parts n i x ∷ l) (listing-push parts n (suc i) ks k ∙ ap (λ (z : ℕ). listing parts n (suc i) ks ++ triple_of parts n z k ∷ []) e)
  where
    e : suc i + length ks ≡ i + suc (length ks)
    e = omega arith

abbrev with_number : ℕ → ℕ → ℕ → Triple
with_number n x number = record { p = x / n / n; q = x / n % n; r = x % n; number = number }

pub listing-more : (parts : PartTable) (n i : ℕ) (keys : List ℕ) (x number : ℕ) (t : Triple) (old new : List Triple) → i < length keys → x ≡ get_or keys i 0 → number ≡ number_of parts i
    → t ≡ record { p = x / n / n; q = x / n % n; r = x % n; number = number } → new ≡ old ++ t ∷ [] → old ≡ listing parts n 0 (take i keys) → new ≡ listing parts n 0 (take (i + 1) keys)
listing-more parts n i keys x number t old new lt ex en et more so =
    more ∙ (ap₂ (λ (l : List Triple) (u : Triple). l ++ u ∷ []) so (et ∙ same) ∙ (sym (listing-push parts n 0 (take i keys) (get_or keys i 0)) ∙ ap (listing parts n 0) (sym (take_more keys i 0 lt))))
  where
    long : i ≡ 0 + length (take i keys)
    long = omega (arith, length-take-le i keys (omega (arith, lt)))

    same : with_number n x number ≡ triple_of parts n (0 + length (take i keys)) (get_or keys i 0)
    same = ap₂ (with_number n) ex (en ∙ ap (number_of parts) long)
