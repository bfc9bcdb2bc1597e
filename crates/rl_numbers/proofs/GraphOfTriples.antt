-- The graph of the triples of a list is one of steps and lifts.
use Rattle.std.proofs.Common.{◌≡◌, ◌≢◌, ◌∙◌, ℕ, zero, suc, ◌+◌, ◌*◌, ◌/◌, ◌%◌, ◌<◌, ◌≤◌, ◌⊎◌, inl, inr, Bool, false, cond, eqb, eqb-true, eq-eqb, List, [], ◌∷◌, length, get_or, map, flat_map, position, Option, Some, None, unwrap_or, sym, refl, ap, ap₂, subst, arith, true≢false, div-add-mod', ne_eqb, lt-ltb}
use Rattle.std.proofs.lemmas.Bool.{cases_eq, cases_lt}
use Rattle.std.specs.List.{position_or_len}
use Rattle.std.proofs.lemmas.Nat.{div-mul-add, mod-mul-add}
use Rattle.std.proofs.lemmas.List.Quantifiers.{position-Some}
use Rattle.std.proofs.lemmas.List.Sums.{fails_before_first}
use Rattle.rl_graph.specs.Graph.{Graph, edges_of}
use Rattle.rl_graph.specs.Paths.{Has, Pairs}
use Rattle.rl_graph.specs.Product.{pair_moves}
use Rattle.rl_graph.proofs.Sums.{Each-has, Has-get_or, Has-map, has-map, has-flat_map, Has-left, Has-right, Has-append, at-has, at-short, at-get_or}
use Rattle.rl_numbers.specs.Closed.{Three, IsTripleStep, IsLift, IsTripleGraph}
use Rattle.rl_numbers.specs.Level.{IsLevelOf, three_of, IsOneRank}
use Rattle.rl_numbers.specs.Triples.{triple_moves, lift_of, place_or, among_moves}
use Rattle.rl_numbers.proofs.AmongLaws.{with_lift, among-there, among-some, among-bounded}

flat-has : {A B : Type 0} (f : A → List B) (x : A) (y : B) (l : List A) → Has x l → Has y (f x) → Has y (flat_map f l)
flat-has f x y [] h k = absurd h
flat-has f x y (z ∷ l) (inl e) k = Has-left y (f z) (flat_map f l) (subst (λ v. Has y (f v)) e k)
flat-has f x y (z ∷ l) (inr h) k = Has-right y (f z) (flat_map f l) (flat-has f x y l h k)

pub three-code : (n x y z : ℕ) → y < n → z < n → three_of n ((x * n + y) * n + z) ≡ record { p = x; q = y; r = z }
three-code n x y z hy hz =
    let d : ((x * n + y) * n + z) / n ≡ x * n + y = div-mul-add (x * n + y) n z hz in
    ap₂ (λ (u : ℕ) (v : ℕ). let t : Three = record { p = u; q = v; r = ((x * n + y) * n + z) % n } in t) (ap (λ (w : ℕ). w / n) d ∙ div-mul-add x n y hy) (ap (λ (w : ℕ). w % n) d ∙ mod-mul-add x n y hy)
    ∙ ap (λ (w : ℕ). let t : Three = record { p = x; q = y; r = w } in t) (mod-mul-add (x * n + y) n z hz)

-- The three moves of a move of the product.
pub moves-of : (h : ℕ → ℕ → List ℕ) (n t l m : ℕ) → Has m (triple_moves h n t l) → (x : ℕ) × (y : ℕ) × (z : ℕ) × Has x (h (t / n / n) l) × Has y (h (t / n % n) l) × Has z (h (t % n) l) × (m ≡ (x * n + y) * n + z)
moves-of h n t l m i =
    let a = has-flat_map (λ x. map (λ y. x * n + y) (h (t % n) l)) m (pair_moves h n (t / n) l) i in
    let b = has-map (λ y. a.0 * n + y) m (h (t % n) l) a.2 in
    let c = has-flat_map (λ x. map (λ y. x * n + y) (h (t / n % n) l)) a.0 (h (t / n / n) l) a.1 in
    let d = has-map (λ y. c.0 * n + y) a.0 (h (t / n % n) l) c.2 in
    (c.0, d.0, b.0, c.1, d.1, b.1, b.2 ∙ ap (λ (w : ℕ). w * n + b.0) d.2)

pub moves-there : (h : ℕ → ℕ → List ℕ) (n t l x y z : ℕ) → Has x (h (t / n / n) l) → Has y (h (t / n % n) l) → Has z (h (t % n) l) → Has ((x * n + y) * n + z) (triple_moves h n t l)
moves-there h n t l x y z hx hy hz =
    flat-has (λ u. map (λ v. u * n + v) (h (t % n) l)) (x * n + y) ((x * n + y) * n + z) (pair_moves h n (t / n) l)
    (flat-has (λ u. map (λ v. u * n + v) (h (t / n % n) l)) x (x * n + y) (h (t / n / n) l) hx (Has-map (λ v. x * n + v) y (h (t / n % n) l) hy))
    (Has-map (λ v. (x * n + y) * n + v) z (h (t % n) l) hz)

-- A number is the number of its triple.
pub whole : (n u : ℕ) → (u / n / n * n + u / n % n) * n + u % n ≡ u
whole n u = ap (λ (w : ℕ). w * n + u % n) (div-add-mod' (u / n) n) ∙ div-add-mod' u n

lifted : (n t u : ℕ) → t / n % n ≡ t % n → u / n / n ≡ t / n / n → u / n % n ≡ t / n / n → u % n ≡ t % n → lift_of n t ≡ u
lifted n t u twice a b c =
    ap (λ (d : Bool). cond d ((t / n / n * n + t / n / n) * n + t % n) t) (eq-eqb (t / n % n) (t % n) twice)
    ∙ ((λ i. (sym a i * n + sym b i) * n + sym c i) ∙ whole n u)

pub unlifted : (n t : ℕ) → t / n % n ≢ t % n → lift_of n t ≡ t
unlifted n t ne = ap (λ (d : Bool). cond d ((t / n / n * n + t / n / n) * n + t % n) t) (ne_eqb (t / n % n) (t % n) ne)

-- A lift, or the triple itself.
lift-kinds : (n t u : ℕ) → t / n / n < n → t % n < n → u ≡ lift_of n t → IsLift (three_of n t) (three_of n u) ⊎ (three_of n u ≡ three_of n t)
lift-kinds n t u lp lr is = by (cases_eq (t / n % n) (t % n)) (cases_eq (t / n / n) (t % n))
  where
    by : (t / n % n ≡ t % n) ⊎ (t / n % n ≢ t % n) → (t / n / n ≡ t % n) ⊎ (t / n / n ≢ t % n) → IsLift (three_of n t) (three_of n u) ⊎ (three_of n u ≡ three_of n t)
    by (inr ne) c = inr (ap (three_of n) (is ∙ unlifted n t ne))
    by (inl same) c = kinds c
      where
        here : lift_of n t ≡ (t / n / n * n + t / n / n) * n + t % n
        here = ap (λ (d : Bool). cond d ((t / n / n * n + t / n / n) * n + t % n) t) (eq-eqb (t / n % n) (t % n) same)

        there : three_of n u ≡ record { p = t / n / n; q = t / n / n; r = t % n }
        there = ap (three_of n) (is ∙ here) ∙ three-code n (t / n / n) (t / n / n) (t % n) lp lr

        kinds : (t / n / n ≡ t % n) ⊎ (t / n / n ≢ t % n) → IsLift (three_of n t) (three_of n u) ⊎ (three_of n u ≡ three_of n t)
        kinds (inr ne) = inl (record { apart = ne; twice = same; first = ap (λ (x : Three). x.p) there; middle = ap (λ (x : Three). x.q) there; last = ap (λ (x : Three). x.r) there })
        kinds (inl e) = inr (there ∙ ap (λ (y : ℕ). let x : Three = record { p = t / n / n; q = y; r = t % n } in x) (e ∙ sym same))

-- If a key occurs once, its place is found.
once-at : (keys : List ℕ) (i j : ℕ) → Pairs (λ x y. x ≢ y) keys → i < length keys → j < length keys → get_or keys i 0 ≡ get_or keys j 0 → i ≡ j
once-at [] i j once a b e = absurd (omega arith)
once-at (x ∷ keys) zero zero once a b e = refl
once-at (x ∷ keys) zero (suc j) once a b e = absurd (Each-has (λ (y : ℕ). x ≢ y) (get_or keys j 0) keys once.0 (Has-get_or keys j 0 (omega arith)) e)
once-at (x ∷ keys) (suc i) zero once a b e = absurd (Each-has (λ (y : ℕ). x ≢ y) (get_or keys i 0) keys once.0 (Has-get_or keys i 0 (omega arith)) (sym e))
once-at (x ∷ keys) (suc i) (suc j) once a b e = ap suc (once-at keys i j once.1 (omega arith) (omega arith) e)

-- The place that is found, or the other one.
place-found : (keys : List ℕ) (i key : ℕ) → ((place_or keys i key < length keys) × (get_or keys (place_or keys i key) 0 ≡ key)) ⊎ (place_or keys i key ≡ i)
place-found keys i key = by (position (eqb key) keys) refl
  where
    by : (o : Option ℕ) → position (eqb key) keys ≡ o → ((unwrap_or o i < length keys) × (get_or keys (unwrap_or o i) 0 ≡ key)) ⊎ (unwrap_or o i ≡ i)
    by None e = inr refl
    by (Some k) e = let h = position-Some (eqb key) keys k 0 e in inl (h.0, sym (eqb-true key (get_or keys k 0) h.1))

position-None : (p : ℕ → Bool) (xs : List ℕ) (k d : ℕ) → position p xs ≡ None → k < length xs → p (get_or xs k d) ≡ false
position-None p xs k d e lt = fails_before_first p xs k d (by (cases_lt (position_or_len p xs) (length xs)))
  where
    by : (position_or_len p xs < length xs) ⊎ (length xs ≤ position_or_len p xs) → k < position_or_len p xs
    by (inr big) = omega arith
    by (inl small) =
        let some : position p xs ≡ Some (position_or_len p xs) = ap (λ (b : Bool). cond b (Some (position_or_len p xs)) None) (lt-ltb (position_or_len p xs) (length xs) small) in
        let both : None ≡ Some (position_or_len p xs) = sym e ∙ some in
        cc

position-there : (key : ℕ) (keys : List ℕ) → Has key keys → (k : ℕ) × (position (eqb key) keys ≡ Some k)
position-there key keys h = by (position (eqb key) keys) refl
  where
    by : (o : Option ℕ) → position (eqb key) keys ≡ o → (k : ℕ) × (position (eqb key) keys ≡ Some k)
    by (Some k) e = (k, e)
    by None e =
        let i = at-has key keys h in
        let no = position-None (eqb key) keys i.0 0 e (at-short keys i.0 key i.1) in
        absurd (true≢false (sym (eq-eqb key (get_or keys i.0 0) (sym (at-get_or keys i.0 key 0 i.1))) ∙ no))

place-of : (keys : List ℕ) (i j : ℕ) → Pairs (λ x y. x ≢ y) keys → j < length keys → place_or keys i (get_or keys j 0) ≡ j
place-of keys i j once lt =
    let k = position-there (get_or keys j 0) keys (Has-get_or keys j 0 lt) in
    let h = position-Some (eqb (get_or keys j 0)) keys k.0 0 k.1 in
    ap (λ o. unwrap_or o i) k.1 ∙ once-at keys k.0 j once h.0 lt (sym (eqb-true (get_or keys j 0) (get_or keys k.0 0) h.1))

module _ (next : ℕ → ℕ → List ℕ) (n : ℕ) (rank : ℕ → ℕ) (g : Graph) (keys : List ℕ) (level : IsLevelOf next n rank g) (targets : (q l m : ℕ) → Has m (edges_of g q l) → m < g.states) (some : 0 < g.letters)
    (letters : (q l m : ℕ) → Has m (edges_of g q l) → l < g.letters) (once : Pairs (λ x y. x ≢ y) keys)
    (inside : (i : ℕ) → i < length keys → get_or keys i 0 < g.states * g.states * g.states) (in_range : (i : ℕ) → i < length keys → ((three_of g.states (get_or keys i 0)).p < n) × ((three_of g.states (get_or keys i 0)).q < n) × ((three_of g.states (get_or keys i 0)).r < n))
    (one_rank : (i : ℕ) → i < length keys → IsOneRank rank (three_of g.states (get_or keys i 0))) where
  step-there : (i l m : ℕ) → i < length keys → Has m (triple_moves (edges_of g) g.states (get_or keys i 0) l) → IsTripleStep next rank (three_of g.states (get_or keys i 0)) (three_of g.states m)
  step-there i l m lt h =
      let v = moves-of (edges_of g) g.states (get_or keys i 0) l m h in
      let t = three-code g.states v.0 v.1 v.2 (targets (get_or keys i 0 / g.states % g.states) l v.1 v.4) (targets (get_or keys i 0 % g.states) l v.2 v.5) in
      let x = (level.kept (get_or keys i 0 / g.states / g.states) l v.0).0 v.3 in
      let y = (level.kept (get_or keys i 0 / g.states % g.states) l v.1).0 v.4 in
      let z = (level.kept (get_or keys i 0 % g.states) l v.2).0 v.5 in
      let ranks = one_rank i lt in
      subst (λ (u : Three). IsTripleStep next rank (three_of g.states (get_or keys i 0)) u) (sym (ap (three_of g.states) v.6 ∙ t))
      (record { letter = l; first = x.0; middle = y.0; last = z.0; first_rank = x.1; middle_rank = y.1 ∙ ranks.0; last_rank = z.1 ∙ ranks.1 })

  pub graph_of_triples : IsTripleGraph next n rank (length keys) (λ i. three_of g.states (get_or keys i 0)) (among_moves g keys)
  graph_of_triples = record { inside = in_range; one_rank = one_rank; steps = steps; only = only }
    where
      moved : (i j l : ℕ) → i < length keys → j < length keys → l < g.letters → Has (get_or keys j 0) (with_lift g (get_or keys i 0) l) → Has j (among_moves g keys i l)
      moved i j l lt lt2 letter h =
          subst (λ (r : List ℕ). Has j r) (sym (among-there g keys i l (get_or keys i 0) lt refl (inside i lt) letter))
          (subst (λ (x : ℕ). Has x (map (place_or keys i) (with_lift g (get_or keys i 0) l))) (place-of keys i j once lt2) (Has-map (place_or keys i) (get_or keys j 0) (with_lift g (get_or keys i 0) l) h))

      steps : (i j : ℕ) → i < length keys → j < length keys → IsTripleStep next rank (three_of g.states (get_or keys i 0)) (three_of g.states (get_or keys j 0)) ⊎ IsLift (three_of g.states (get_or keys i 0)) (three_of g.states (get_or keys j 0)) → (l : ℕ) × Has j (among_moves g keys i l)
      steps i j lt lt2 (inl s) =
          let n2 : ℕ = g.states in
          let t : ℕ = get_or keys i 0 in
          let u : ℕ = get_or keys j 0 in
          let ranks = one_rank i lt in
          let x : Has (u / n2 / n2) (edges_of g (t / n2 / n2) s.letter) = (level.kept (t / n2 / n2) s.letter (u / n2 / n2)).1 (s.first, s.first_rank) in
          let y : Has (u / n2 % n2) (edges_of g (t / n2 % n2) s.letter) = (level.kept (t / n2 % n2) s.letter (u / n2 % n2)).1 (s.middle, s.middle_rank ∙ sym ranks.0) in
          let z : Has (u % n2) (edges_of g (t % n2) s.letter) = (level.kept (t % n2) s.letter (u % n2)).1 (s.last, s.last_rank ∙ sym ranks.1) in
          (s.letter, moved i j s.letter lt lt2 (letters (t / n2 / n2) s.letter (u / n2 / n2) x) (Has-left u (triple_moves (edges_of g) n2 t s.letter) (lift_of n2 t ∷ []) (subst (λ (v : ℕ). Has v (triple_moves (edges_of g) n2 t s.letter)) (whole n2 u) (moves-there (edges_of g) n2 t s.letter (u / n2 / n2) (u / n2 % n2) (u % n2) x y z))))
      steps i j lt lt2 (inr s) =
          let n2 : ℕ = g.states in
          let t : ℕ = get_or keys i 0 in
          let u : ℕ = get_or keys j 0 in
          (0, moved i j 0 lt lt2 some (Has-right u (triple_moves (edges_of g) n2 t 0) (lift_of n2 t ∷ []) (inl (sym (lifted n2 t u s.twice s.first s.middle s.last)))))

      only : (i l j : ℕ) → i < length keys → Has j (among_moves g keys i l) → (j < length keys) × (IsTripleStep next rank (three_of g.states (get_or keys i 0)) (three_of g.states (get_or keys j 0)) ⊎ (IsLift (three_of g.states (get_or keys i 0)) (three_of g.states (get_or keys j 0)) ⊎ (three_of g.states (get_or keys j 0) ≡ three_of g.states (get_or keys i 0))))
      only i l j lt h =
          let s = among-some g keys i l j h in
          let m = has-map (place_or keys i) j (with_lift g (get_or keys i 0) l) s.3 in
          ((among-bounded g keys).targets i l j h, by m.0 m.2 (Has-append m.0 (triple_moves (edges_of g) g.states (get_or keys i 0) l) (lift_of g.states (get_or keys i 0) ∷ []) m.1) (place-found keys i m.0))
        where
          by : (m : ℕ) → j ≡ place_or keys i m → Has m (triple_moves (edges_of g) g.states (get_or keys i 0) l) ⊎ Has m (lift_of g.states (get_or keys i 0) ∷ [])
              → ((place_or keys i m < length keys) × (get_or keys (place_or keys i m) 0 ≡ m)) ⊎ (place_or keys i m ≡ i)
              → IsTripleStep next rank (three_of g.states (get_or keys i 0)) (three_of g.states (get_or keys j 0)) ⊎ (IsLift (three_of g.states (get_or keys i 0)) (three_of g.states (get_or keys j 0)) ⊎ (three_of g.states (get_or keys j 0) ≡ three_of g.states (get_or keys i 0)))
          by m e k (inr stay) = inr (inr (ap (λ (x : ℕ). three_of g.states (get_or keys x 0)) (e ∙ stay)))
          by m e (inl k) (inl (within, same)) = inl (subst (λ (x : ℕ). IsTripleStep next rank (three_of g.states (get_or keys i 0)) (three_of g.states x)) (sym (ap (λ (x : ℕ). get_or keys x 0) e ∙ same)) (step-there i l m lt k))
          by m e (inr (inl k)) (inl (within, same)) = inr (lift-kinds g.states (get_or keys i 0) (get_or keys j 0) (omega (arith, (in_range i lt).0, level.states)) (omega (arith, (in_range i lt).2, level.states)) (ap (λ (x : ℕ). get_or keys x 0) e ∙ (same ∙ k)))
          by m e (inr (inr k)) c = absurd k
