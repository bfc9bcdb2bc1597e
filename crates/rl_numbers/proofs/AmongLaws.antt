-- The graph of the triples of a list: its moves by number, and its bounds.
use Rattle.std.proofs.Common.{◌≡◌, ◌∙◌, ℕ, ◌+◌, ◌*◌, ◌<◌, ◌≤◌, ◌⊎◌, inl, inr, Bool, true, false, cond, ◌&&◌, ltb, lt-ltb, eqb, List, [], ◌∷◌, ◌++◌, length, get_or, map, position, Option, Some, None, unwrap_or, sym, refl, ap, subst, arith}
use Rattle.std.proofs.lemmas.Bool.{cases_lt, ltb-true, and_parts, and_from}
use Rattle.std.proofs.lemmas.List.{length-map, length_push, get_or_push, get_or_append_left, get_or-map}
use Rattle.std.proofs.lemmas.List.Quantifiers.{position-Some}
use Rattle.rl_graph.specs.Graph.{Graph, edges_of}
use Rattle.rl_graph.specs.Paths.{Has, IsBounded}
use Rattle.rl_graph.proofs.Sums.{has-map}
use Rattle.rl_numbers.specs.Triples.{triple_moves, lift_of, place_or, among_moves}

pub place-in : (keys : List ℕ) (i key : ℕ) → i < length keys → place_or keys i key < length keys
place-in keys i key lt = by (position (eqb key) keys) refl
  where
    by : (o : Option ℕ) → position (eqb key) keys ≡ o → unwrap_or o i < length keys
    by None e = lt
    by (Some k) e = (position-Some (eqb key) keys k 0 e).0

-- The moves of a triple, and its lift.
abbrev pub with_lift : Graph → ℕ → ℕ → List ℕ
with_lift g key l = triple_moves (edges_of g) g.states key l ++ lift_of g.states key ∷ []

pub among-there : (g : Graph) (keys : List ℕ) (i l key : ℕ) → i < length keys → key ≡ get_or keys i 0 → key < g.states * g.states * g.states → l < g.letters → among_moves g keys i l ≡ map (place_or keys i) (with_lift g key l)
among-there g keys i l key lt e small letter =
    let b : (ltb i (length keys) && (ltb (get_or keys i 0) (g.states * g.states * g.states) && ltb l g.letters)) ≡ true =
    and_from (ltb i (length keys)) (ltb (get_or keys i 0) (g.states * g.states * g.states) && ltb l g.letters) (lt-ltb i (length keys) lt)
    (and_from (ltb (get_or keys i 0) (g.states * g.states * g.states)) (ltb l g.letters) (lt-ltb (get_or keys i 0) (g.states * g.states * g.states) (subst (λ (x : ℕ). x < g.states * g.states * g.states) e small)) (lt-ltb l g.letters letter)) in
    ap (λ (c : Bool). cond c (map (place_or keys i) (with_lift g (get_or keys i 0) l)) []) b ∙ ap (λ (x : ℕ). map (place_or keys i) (with_lift g x l)) (sym e)

pub among-none : (g : Graph) (keys : List ℕ) (i l key : ℕ) → key ≡ get_or keys i 0 → g.states * g.states * g.states ≤ key → among_moves g keys i l ≡ []
among-none g keys i l key e big = by (ltb i (length keys) && (ltb (get_or keys i 0) (g.states * g.states * g.states) && ltb l g.letters)) refl
  where
    by : (b : Bool) → (ltb i (length keys) && (ltb (get_or keys i 0) (g.states * g.states * g.states) && ltb l g.letters)) ≡ b → cond b (map (place_or keys i) (with_lift g (get_or keys i 0) l)) [] ≡ []
    by false h = refl
    by true h =
        let p = and_parts (ltb i (length keys)) (ltb (get_or keys i 0) (g.states * g.states * g.states) && ltb l g.letters) h in
        let q = and_parts (ltb (get_or keys i 0) (g.states * g.states * g.states)) (ltb l g.letters) p.1 in
        let lt = ltb-true (get_or keys i 0) (g.states * g.states * g.states) q.0 in
        absurd (omega (arith, lt, big, e))

-- If there is a move, everything is in range.
pub among-some : (g : Graph) (keys : List ℕ) (i l j : ℕ) → Has j (among_moves g keys i l) → (i < length keys) × (get_or keys i 0 < g.states * g.states * g.states) × (l < g.letters) × Has j (map (place_or keys i) (with_lift g (get_or keys i 0) l))
among-some g keys i l j h = by (ltb i (length keys) && (ltb (get_or keys i 0) (g.states * g.states * g.states) && ltb l g.letters)) refl h
  where
    by : (b : Bool) → (ltb i (length keys) && (ltb (get_or keys i 0) (g.states * g.states * g.states) && ltb l g.letters)) ≡ b → Has j (cond b (map (place_or keys i) (with_lift g (get_or keys i 0) l)) [])
        → (i < length keys) × (get_or keys i 0 < g.states * g.states * g.states) × (l < g.letters) × Has j (map (place_or keys i) (with_lift g (get_or keys i 0) l))
    by false e h = absurd h
    by true e h =
        let p = and_parts (ltb i (length keys)) (ltb (get_or keys i 0) (g.states * g.states * g.states) && ltb l g.letters) e in
        let q = and_parts (ltb (get_or keys i 0) (g.states * g.states * g.states)) (ltb l g.letters) p.1 in
        (ltb-true i (length keys) p.0, ltb-true (get_or keys i 0) (g.states * g.states * g.states) q.0, ltb-true l g.letters q.1, h)

pub among-bounded : (g : Graph) (keys : List ℕ) → IsBounded (among_moves g keys) (length keys) g.letters
among-bounded g keys = record { targets = targets; letters = letters }
  where
    targets : (i l j : ℕ) → Has j (among_moves g keys i l) → j < length keys
    targets i l j h =
        let s = among-some g keys i l j h in
        let m = has-map (place_or keys i) j (with_lift g (get_or keys i 0) l) s.3 in
        subst (λ (x : ℕ). x < length keys) (sym m.2) (place-in keys i m.0 s.0)

    letters : (i l : ℕ) → g.letters ≤ l → among_moves g keys i l ≡ []
    letters i l le = by (among_moves g keys i l) refl
      where
        by : (r : List ℕ) → among_moves g keys i l ≡ r → r ≡ []
        by [] e = refl
        by (x ∷ r) e = let s = among-some g keys i l x (subst (Has x) (sym e) (inl refl)) in absurd (omega (arith, s.2, le))

pub among-count : (g : Graph) (keys : List ℕ) (i l key count : ℕ) → i < length keys → key ≡ get_or keys i 0 → key < g.states * g.states * g.states → l < g.letters → count ≡ length (triple_moves (edges_of g) g.states key l) → count + 1 ≡ length (among_moves g keys i l)
among-count g keys i l key count lt e small letter c =
    ap (λ (x : ℕ). x + 1) c ∙ (sym (length_push (triple_moves (edges_of g) g.states key l) (lift_of g.states key))
    ∙ (sym (length-map (with_lift g key l) (place_or keys i)) ∙ ap length (sym (among-there g keys i l key lt e small letter))))

pub among-step : (g : Graph) (keys : List ℕ) (i l key number target : ℕ) → i < length keys → key ≡ get_or keys i 0 → key < g.states * g.states * g.states → l < g.letters → number < length (triple_moves (edges_of g) g.states key l) → target ≡ get_or (triple_moves (edges_of g) g.states key l) number 0
    → place_or keys i target ≡ get_or (among_moves g keys i l) number 0
among-step g keys i l key number target lt e small letter in_row t =
    ap (place_or keys i) (t ∙ sym (get_or_append_left (triple_moves (edges_of g) g.states key l) (lift_of g.states key ∷ []) 0 number in_row))
    ∙ (sym (get_or-map (place_or keys i) (with_lift g key l) number 0 0 (omega (arith, length_push (triple_moves (edges_of g) g.states key l) (lift_of g.states key), in_row)))
    ∙ ap (λ (r : List ℕ). get_or r number 0) (sym (among-there g keys i l key lt e small letter)))

pub among-lift : (g : Graph) (keys : List ℕ) (i l key number target : ℕ) → i < length keys → key ≡ get_or keys i 0 → key < g.states * g.states * g.states → l < g.letters → number ≡ length (triple_moves (edges_of g) g.states key l) → target ≡ lift_of g.states key
    → place_or keys i target ≡ get_or (among_moves g keys i l) number 0
among-lift g keys i l key number target lt e small letter at_end t =
    ap (place_or keys i) (t ∙ sym (get_or_push (triple_moves (edges_of g) g.states key l) (lift_of g.states key) 0 number (sym at_end)))
    ∙ (sym (get_or-map (place_or keys i) (with_lift g key l) number 0 0 (omega (arith, length_push (triple_moves (edges_of g) g.states key l) (lift_of g.states key), at_end)))
    ∙ ap (λ (r : List ℕ). get_or r number 0) (sym (among-there g keys i l key lt e small letter)))

-- A number of a move: the triple is in range, and the number is the number of a step or of the lift.
pub among-number : (g : Graph) (keys : List ℕ) (i l key number : ℕ) → i < length keys → key ≡ get_or keys i 0 → l < g.letters → number < length (among_moves g keys i l) → (key < g.states * g.states * g.states) × (number ≤ length (triple_moves (edges_of g) g.states key l))
among-number g keys i l key number lt e letter h = by (cases_lt key (g.states * g.states * g.states))
  where
    by : (key < g.states * g.states * g.states) ⊎ (g.states * g.states * g.states ≤ key) → (key < g.states * g.states * g.states) × (number ≤ length (triple_moves (edges_of g) g.states key l))
    by (inl small) = (small, omega (arith, h, among-count g keys i l key (length (triple_moves (edges_of g) g.states key l)) lt e small letter refl))
    by (inr big) = absurd (omega (arith, h, ap length (among-none g keys i l key e big)))
