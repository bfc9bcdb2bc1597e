-- Laws of the whole search: if each pair's moves were looked at, the rows are the graph of the live pairs, numbered in the
-- order of first sight; and if the walk is closed, it has each counted set.
use Rattle.std.proofs.Common.{◌≡◌, ◌∙◌, ℕ, zero, suc, ◌+◌, ◌*◌, ◌<◌, ◌≤◌, ◌⊎◌, inl, inr, List, [], ◌∷◌, ◌++◌, length, take, drop, get_or, map, flat_map, All, true, refl, sym, ap, subst, arith, append-nil, append_assoc}
use Rattle.std.proofs.Math.Nat.{suc-mul, mul-le-mul_right}
use Rattle.std.proofs.lemmas.Bool.{cases_lt, cases_eq}
use Rattle.std.proofs.lemmas.List.{take_more, take_all, get_or_past, get_or_default, length-map, take-append-drop}
use Rattle.rl_graph.specs.Paths.{Has, Each, paths}
use Rattle.rl_graph.specs.Graph.{Graph, edges_of}
use Rattle.rl_graph.proofs.GraphLaws.{edges-in, edges-state, edges-letter}
use Rattle.rl_graph.proofs.PathLaws.{paths-nil, through_one, move-path, positive}
use Rattle.rl_graph.proofs.Sums.{Each-has, Has-get_or, Has-left, Has-right, distinct-short}
use Rattle.rl_prio.specs.Automaton.{Automaton, IsAutomaton, letters_count, accepting_state}
use Rattle.rl_sets.specs.Live.{below, image, refuses, IsRest}
use Rattle.rl_sets.specs.Rests.{IsRefusedRest}
use Rattle.rl_sets.specs.Walk.{Walk}
use Rattle.rl_pairs.specs.declared.error.PairsError.{PairsError}
use Rattle.rl_pairs.specs.declared.error.PairsError.TheVariants.{Sets, Pairs as TooMany, OutOfMemory}
use Rattle.rl_pairs.specs.internal.Errors.{IsRightError}
use Rattle.rl_pairs.specs.declared.pair.Pair.{Pair}
use Rattle.rl_pairs.specs.declared.finder.Key.{Key}
use Rattle.rl_pairs.specs.LivePairs.{first_pair, next_pairs, LivePair, first, refused}
use Rattle.rl_pairs.specs.PairGraph.{IsPairGraph, IsNumbered, AreFirstSeen, seen_after, seen_before, targets_of}
use Rattle.rl_pairs.specs.Counted.{CountedSet, moved, imaged, MoreThan}
use Rattle.rl_pairs.specs.internal.Counting.{IsCounting, Keeps, IsOnward, HasNumber, IsClosed}
use Rattle.rl_pairs.specs.internal.Finding.{Found, first_key, key_at, pair_of, pair_at, lead_at, rest_at, width, next_of, flat, IsFound, IsRowOf, IsMoved, IsFurther, IsWhole}
use Rattle.rl_pairs.specs.PairTable.{PairTable, moves_in, pair_in, lead_in, rest_in, IsFull}
use Rattle.rl_pairs.specs.internal.Rows.{graph_of_rows, IsBuilt}
use Rattle.rl_pairs.proofs.CountLaws.{number-there}
use Rattle.rl_pairs.proofs.CountingLaws.{one-only}
use Rattle.rl_pairs.proofs.RowLaws.{flat-append, flat-push, next-at, next-out, seen_after-append, AreFirstSeen-split}
use Rattle.rl_pairs.proofs.FindingLaws.{found-keeps, pair-same, pair-keeps, Stays-refl}
use Rattle.rl_pairs.proofs.ExpandLaws.{row-stays, next-inside}

place-in : (q l n wide : ℕ) → q * wide + l < n * wide → q < n
place-in q l n wide lt = elim (cases_lt q n) [ inl less ↦ less | inr more ↦ absurd (omega (arith, mul-le-mul_right {m = n} {n = q} wide more)) ]

in-place : (q l n wide : ℕ) → l < wide → q < n → q * wide + l < n * wide
in-place q l n wide small lt = omega (arith, mul-le-mul_right {m = suc q} {n = n} wide (omega arith), suc-mul q wide)

-- The walk has grown since the pairs were found.
pub moved-keeps : (a : Automaton) (w x : Walk) (f : Found) → Keeps w x → IsFound a w f → IsMoved a w f (length f.keys * width a) → IsMoved a x f (length f.keys * width a)
moved-keeps a w x f k i m = record {
  long = m.long;
  moves = λ q l le lt.
      let q_in = place-in q l (length f.keys) (width a) lt in
      let r = row-stays a w x f f (next_pairs a (pair_at w f q) l) (next_of a f q l) k (Stays-refl f) (next-inside a w f q l i (omega arith)) i.sets (m.moves q l le lt) in
      subst (λ (p : Pair). IsRowOf a x f (next_pairs a p l) (next_of a f q l)) (sym (pair-keeps w x (key_at f q) k (i.sets q q_in))) r;
  order = m.order;
}

module _ (a : Automaton) (w : Walk) (f : Found) (c : IsCounting a w) (i : IsFound a w f) (m : IsMoved a w f (length f.keys * width a)) where
  -- The first pair.
  pub first-is : first_pair ≡ pair_of w first_key
  first-is = ap (λ (s : List ℕ). let p : Pair = record { state = 0; set = s } in p) (sym c.empty)

  out : (q l : ℕ) → length f.keys ≤ q → next_of a f q l ≡ []
  out q l le = elim (cases_lt l (width a)) [
    | inl small ↦ next-at (width a) f.rows q l small ∙ get_or_past f.rows (q * width a + l) [] (omega (arith, m.long, mul-le-mul_right {m = length f.keys} {n = q} (width a) le))
    | inr large ↦ next-out (width a) f.rows q l large
  ]

  none : (q l k : ℕ) → Has k (next_of a f q l) → k < length f.keys
  none q l k h = elim (cases_lt l (width a)) [
    | inl small ↦ next-inside a w f q l i small k h
    | inr large ↦ absurd (subst (Has k) (next-out (width a) f.rows q l large) h)
  ]

  pub pair_graph : IsPairGraph a (next_of a f) (pair_at w f) (length f.keys)
  pair_graph = record {
    some = i.some;
    first = ap (pair_of w) i.first ∙ sym first-is;
    live = λ k lt. let r = i.rests k lt in (rest_at f k, r.0, r.1);
    targets = λ q l k lt h. none q l k h;
    moves = λ q l lt le. (m.moves q l le (in-place q l (length f.keys) (width a) (omega arith) lt)).kept;
    empty = λ q l h. elim h [ inl le ↦ out q l le | inr lt ↦ next-out (width a) f.rows q l (omega arith) ];
  }

  -- The rows of a pair are its targets.
  block : (q n : ℕ) → n ≤ width a → q * width a + n ≤ length f.rows → flat (take (q * width a + n) f.rows) ≡ flat (take (q * width a) f.rows) ++ flat_map (next_of a f q) (below n)
  block q zero le lt =
      let e : q * width a + 0 ≡ q * width a = omega arith in
      ap (λ (n : ℕ). flat (take n f.rows)) e ∙ sym (append-nil (flat (take (q * width a) f.rows)))
  block q (suc n) le lt =
      let p = q * width a + n in
      let e : q * width a + suc n ≡ p + 1 = omega arith in
      ap (λ (n : ℕ). flat (take n f.rows)) e
      ∙ ap flat (take_more f.rows p [] (omega arith))
      ∙ flat-push (take p f.rows) (get_or f.rows p [])
      ∙ ap (λ (l : List ℕ). l ++ get_or f.rows p []) (block q n (omega arith) (omega arith))
      ∙ append_assoc (flat (take (q * width a) f.rows)) (flat_map (next_of a f q) (below n)) (get_or f.rows p [])
      ∙ ap (λ (l : List ℕ). flat (take (q * width a) f.rows) ++ l) (ap (λ (l : List ℕ). flat_map (next_of a f q) (below n) ++ l) (sym (next-at (width a) f.rows q n (omega arith))) ∙ sym (last-map (next_of a f q) (below n) n))
    where
      last-map : (g : ℕ → List ℕ) (l : List ℕ) (x : ℕ) → flat_map g (l ++ x ∷ []) ≡ flat_map g l ++ g x
      last-map g [] x = append-nil (g x)
      last-map g (y ∷ l) x = ap (λ (r : List ℕ). g y ++ r) (last-map g l x) ∙ sym (append_assoc (g y) (flat_map g l) (g x))

  pair-block : (q : ℕ) → q < length f.keys → flat (take (suc q * width a) f.rows) ≡ flat (take (q * width a) f.rows) ++ targets_of a (next_of a f) q
  pair-block q lt =
      let e : suc q * width a ≡ q * width a + width a = suc-mul q (width a) in
      ap (λ (n : ℕ). flat (take n f.rows)) e ∙ block q (width a) (omega arith) (omega (arith, m.long, mul-le-mul_right {m = suc q} {n = length f.keys} (width a) (omega arith), suc-mul q (width a)))

  seen-is : (q : ℕ) → q ≤ length f.keys → seen_before a (next_of a f) q ≡ seen_after 1 (flat (take (q * width a) f.rows))
  seen-is zero le = let e : 0 * width a ≡ 0 = omega arith in ap (λ (n : ℕ). seen_after 1 (flat (take n f.rows))) (sym e)
  seen-is (suc q) le =
      ap (λ (n : ℕ). seen_after n (targets_of a (next_of a f) q)) (seen-is q (omega arith))
      ∙ sym (seen_after-append 1 (flat (take (q * width a) f.rows)) (targets_of a (next_of a f) q))
      ∙ ap (seen_after 1) (sym (pair-block q (omega arith)))

  seen-part : (n : ℕ) → AreFirstSeen 1 (flat (take n f.rows))
  seen-part n = (AreFirstSeen-split 1 (flat (take n f.rows)) (flat (drop n f.rows)) (subst (AreFirstSeen 1) (ap flat (sym (take-append-drop n f.rows)) ∙ flat-append (take n f.rows) (drop n f.rows)) i.seen)).0

  pub numbered : IsNumbered a (next_of a f) (pair_at w f) (length f.keys)
  numbered = record {
    seen = λ q lt. subst (λ (n : ℕ). q < n) (sym (seen-is q (omega arith))) (m.order q (omega (arith, in-place q 0 (length f.keys) (width a) (omega arith) lt)));
    in_order = λ q lt. subst (λ (n : ℕ). AreFirstSeen n (targets_of a (next_of a f) q)) (sym (seen-is q (omega arith))) (AreFirstSeen-split 1 (flat (take (q * width a) f.rows)) (targets_of a (next_of a f) q) (subst (AreFirstSeen 1) (pair-block q lt) (seen-part (suc q * width a)))).1;
    whole = seen-is (length f.keys) (omega arith) ∙ ap (λ (rs : List (List ℕ)). seen_after 1 (flat rs)) (take_all (length f.keys * width a) f.rows (omega (arith, m.long))) ∙ i.count;
    apart = λ j k x y e. i.apart j k x y (pair-same a w c.made (key_at f j) (key_at f k) (i.sets j x) (i.sets k y) e);
  }

  -- Leads.
  lead-leads : (n k : ℕ) → k < n → k < length f.keys → 1 ≤ paths (next_of a f) 0 k (lead_at f k)
  lead-leads zero k less lt = absurd (omega arith)
  lead-leads (suc n) k less lt = by (cases_eq k 0) (lead-leads n)
    where
      by : (k ≡ 0) ⊎ (k ≡ 0 → ⊥) → ((j : ℕ) → j < n → j < length f.keys → 1 ≤ paths (next_of a f) 0 j (lead_at f j)) → 1 ≤ paths (next_of a f) 0 k (lead_at f k)
      by (inl e) before =
          subst (λ (j : ℕ). 1 ≤ paths (next_of a f) 0 j (lead_at f j)) (sym e) (subst (λ (l : List ℕ). 1 ≤ paths (next_of a f) 0 0 l) (sym i.start) (omega (arith, paths-nil (next_of a f) 0)))
      by (inr ne) before =
          let l = i.leads k (omega arith) lt in
          let there = before l.0 (omega (arith, l.2)) (omega (arith, l.2)) in
          let on = move-path (next_of a f) l.0 k k l.1 [] l.3 (omega (arith, paths-nil (next_of a f) k)) in
          subst (λ (v : List ℕ). 1 ≤ paths (next_of a f) 0 k v) (sym l.4)
          (omega (arith, positive (paths (next_of a f) 0 l.0 (lead_at f l.0)) (paths (next_of a f) l.0 k (l.1 ∷ [])) there on, through_one (next_of a f) 0 l.0 k (lead_at f l.0) (l.1 ∷ [])))

  pub leads-lead : (k : ℕ) → k < length f.keys → 1 ≤ paths (next_of a f) 0 k (lead_at f k)
  leads-lead k lt = lead-leads (suc k) k (omega arith) lt

  -- A closed walk has each counted set.
  counted-stands : IsClosed a w (length w.sets) 0 → (set : List ℕ) → CountedSet a set → HasNumber w set
  counted-stands closed set (moved {p = p} state letter from le has) =
      let n = number-there a (next_of a f) (pair_at w f) (length f.keys) pair_graph p from in
      let r = (m.moves n.0 letter le (in-place n.0 letter (length f.keys) (width a) (omega arith) n.1)).standing in
      Each-has (λ q. HasNumber w q.set) (record { state = state; set = set }) (next_pairs a (pair_at w f n.0) letter) r (subst (λ (q : Pair). Has (record { state = state; set = set }) (next_pairs a q letter)) (sym n.2) has)
  counted-stands closed s (imaged {set = set} letter from le free) =
      let n = counted-stands closed set from in
      subst (λ (r : List ℕ). HasNumber w (image a r letter)) n.1.is (closed.whole n.0 letter n.1.within le (λ h. free (subst (Has (accepting_state a)) n.1.is h)))

  stands-has : (set : List ℕ) → HasNumber w set → Has set w.sets
  stands-has set s = subst (λ (r : List ℕ). Has r w.sets) s.1.is (Has-get_or w.sets s.0 [] s.1.within)

  pub few-sets : IsClosed a w (length w.sets) 0 → MoreThan 20000 (CountedSet a) → ⊥
  few-sets closed (sets, apart, each, long) =
      let short = distinct-short sets w.sets apart (λ s h. stands-has s (counted-stands closed s (Each-has (CountedSet a) s sets each h))) in
      absurd (omega (arith, short, long, c.made.few, c.limit))

  -- ---- the graph that is made of it

  map-read : (keys : List Key) (k : ℕ) → get_or (map (pair_of w) keys) k first_pair ≡ pair_of w (get_or keys k first_key)
  map-read [] k = first-is
  map-read (x ∷ keys) zero = refl
  map-read (x ∷ keys) (suc k) = map-read keys k

  module _ (g : PairTable) (letters : ℕ) (wide : letters ≡ width a) (b : IsBuilt w f letters g) where
    pub states-are : g.graph.states ≡ length f.keys
    states-are = ap (λ (h : Graph). h.states) b.graph

    row-of : (q l : ℕ) → edges_of (graph_of_rows f letters) q l ≡ next_of a f q l
    row-of q l = elim (cases_lt l (width a)) [
      | inl small ↦ inside q l small
      | inr large ↦ edges-letter (graph_of_rows f letters) q l (omega (arith, wide)) ∙ sym (next-out (width a) f.rows q l large)
    ]
      where
        inside : (q l : ℕ) → l < width a → edges_of (graph_of_rows f letters) q l ≡ next_of a f q l
        inside q l small = elim (cases_lt q (length f.keys)) [
          | inl less ↦ edges-in (graph_of_rows f letters) q l less (omega (arith, wide)) ∙ ap (λ (n : ℕ). get_or f.rows (q * n + l) []) wide ∙ sym (next-at (width a) f.rows q l small)
          | inr more ↦ edges-state (graph_of_rows f letters) q l more ∙ sym (out q l more)
        ]

    moves-are : moves_in g ≡ next_of a f
    moves-are = ap edges_of b.graph ∙ (λ j q l. row-of q l j)

    pairs-are : pair_in g ≡ pair_at w f
    pairs-are = λ j k. (ap (λ (l : List Pair). get_or l k first_pair) b.pairs ∙ map-read f.keys k) j

    pub built-graph : IsPairGraph a (moves_in g) (pair_in g) g.graph.states
    built-graph =
        subst (λ (n : ℕ). IsPairGraph a (moves_in g) (pair_in g) n) (sym states-are) (subst (λ (at : ℕ → Pair). IsPairGraph a (moves_in g) at (length f.keys)) (sym pairs-are) (subst (λ (next : ℕ → ℕ → List ℕ). IsPairGraph a next (pair_at w f) (length f.keys)) (sym moves-are) pair_graph))

    pub built-numbered : IsNumbered a (moves_in g) (pair_in g) g.graph.states
    built-numbered =
        subst (λ (n : ℕ). IsNumbered a (moves_in g) (pair_in g) n) (sym states-are) (subst (λ (at : ℕ → Pair). IsNumbered a (moves_in g) at (length f.keys)) (sym pairs-are) (subst (λ (next : ℕ → ℕ → List ℕ). IsNumbered a next (pair_at w f) (length f.keys)) (sym moves-are) numbered))

    pub built-leads : (k : ℕ) → k < g.graph.states → 1 ≤ paths (moves_in g) 0 k (lead_in g k)
    built-leads k lt =
        subst (λ (l : List ℕ). 1 ≤ paths (moves_in g) 0 k l) (ap (λ (ls : List (List ℕ)). get_or ls k []) (sym b.leads)) (subst (λ (next : ℕ → ℕ → List ℕ). 1 ≤ paths next 0 k (lead_at f k)) (sym moves-are) (leads-lead k (omega (arith, states-are))))

    rest-is : (k : ℕ) → rest_at f k ≡ rest_in g k
    rest-is k = ap (λ (ls : List (List ℕ)). get_or ls k []) (sym b.rests)

    pub built-rests : (k : ℕ) → k < g.graph.states → IsRest a (rest_in g k)
    built-rests k lt = subst (IsRest a) (rest-is k) (i.rests k (omega (arith, states-are))).0

    pub built-refused : (k : ℕ) → k < g.graph.states → refused a (pair_in g) k (rest_in g k) ≡ true
    built-refused k lt =
        subst (λ (l : List ℕ). refused a (pair_in g) k l ≡ true) (rest-is k) (subst (λ (at : ℕ → Pair). refused a at k (rest_at f k) ≡ true) (sym pairs-are) (i.rests k (omega (arith, states-are))).1)

    pub built-lists : IsFull g
    built-lists = record {
      pairs = ap length b.pairs ∙ length-map f.keys (pair_of w) ∙ sym states-are;
      leads = ap length b.leads ∙ i.led ∙ sym states-are;
      rests = ap length b.rests ∙ i.refused ∙ sym states-are;
    }

-- The walk was closed after the search.
pub whole-found : (a : Automaton) (u w x : Walk) (e f : Found) (max_pairs : ℕ) → IsFurther a u w e f (length f.keys * width a) → IsOnward a w x → IsClosed a x (length x.sets) 0 → e.limit ≡ max_pairs → IsWhole a x f max_pairs
whole-found a u w x e f max_pairs y o closed limit = record {
  counting = o.counting;
  closed = closed;
  found = found-keeps a w x f o.keeps y.found;
  moved = moved-keeps a w x f o.keeps y.found y.moved;
  limit = y.stays.limit ∙ limit;
}

-- What is ensured of the graph.
pub record IsAnswer (a : Automaton) (max_pairs : ℕ) (g : PairTable) : Type 0 where
  pub graph : IsPairGraph a (moves_in g) (pair_in g) g.graph.states
  pub numbered : IsNumbered a (moves_in g) (pair_in g) g.graph.states
  pub few_pairs : g.graph.states ≤ max_pairs
  pub few_sets : MoreThan 20000 (CountedSet a) → ⊥
  pub letters : g.graph.letters ≡ letters_count a + 1
  pub leads : (k : ℕ) → k < g.graph.states → 1 ≤ paths (moves_in g) 0 k (lead_in g k)
  pub rests : (k : ℕ) → k < g.graph.states → IsRest a (rest_in g k)
  pub refused : (k : ℕ) → k < g.graph.states → refused a (pair_in g) k (rest_in g k) ≡ true
  pub lists : IsFull g

pub answer : (a : Automaton) (w : Walk) (f : Found) (g : PairTable) (letters max_pairs : ℕ) → letters ≡ width a → IsWhole a w f max_pairs → IsBuilt w f letters g → IsAnswer a max_pairs g
answer a w f g letters max_pairs wide y b =
    let i = y.found in
    let m = y.moved in
    let c = y.counting in
    record {
      graph = built-graph a w f c i m g letters wide b;
      numbered = built-numbered a w f c i m g letters wide b;
      few_pairs = omega (arith, states-are a w f c i m g letters wide b, i.few, y.limit);
      few_sets = few-sets a w f c i m y.closed;
      letters = ap (λ (h : Graph). h.letters) b.graph ∙ wide ∙ omega arith;
      leads = built-leads a w f c i m g letters wide b;
      rests = built-rests a w f c i m g letters wide b;
      refused = built-refused a w f c i m g letters wide b;
      lists = built-lists a w f c i m g letters wide b;
    }

-- ---- the start of the search

abbrev pub first_found : ℕ → ℕ → Found
first_found limit end = record { limit = limit; keys = first_key ∷ []; leads = [] ∷ []; rests = (end ∷ []) ∷ []; rows = [] }

empty-refused : (a : Automaton) → IsRefusedRest a [] (letters_count a ∷ [])
unfolding refuses
empty-refused a = (inl (refl, refl), refl)

pub found-start : (a : Automaton) (w : Walk) (limit : ℕ) → IsAutomaton a → IsCounting a w → 1 ≤ limit → IsFound a w (first_found limit (letters_count a))
found-start a w limit whole c some = record {
  some = omega arith;
  few = some;
  first = refl;
  sets = λ k lt. subst (λ (key : Key). key.set < length w.sets) (sym (one-only first_key k)) c.some;
  states = λ k lt. subst (λ (key : Key). key.state < a.states) (sym (one-only first_key k)) (omega (arith, whole.three_states));
  apart = λ j k x y e. omega arith;
  live = λ k lt. subst (λ (key : Key). LivePair a (pair_of w key)) (sym (one-only first_key k)) (subst (LivePair a) (ap (λ (s : List ℕ). let p : Pair = record { state = 0; set = s } in p) (sym c.empty)) first);
  led = refl;
  start = refl;
  leads = λ k pos lt. absurd (omega arith);
  refused = refl;
  rests = λ k lt.
      let e : k ≡ 0 = omega arith in
      subst (λ (n : ℕ). IsRefusedRest a (pair_at w (first_found limit (letters_count a)) n).set (rest_at (first_found limit (letters_count a)) n)) (sym e) (subst (λ (s : List ℕ). IsRefusedRest a s (letters_count a ∷ [])) (sym c.empty) (empty-refused a));
  targets = tt;
  seen = tt;
  count = refl;
}

pub moved-start : (a : Automaton) (w : Walk) (limit end : ℕ) → IsMoved a w (first_found limit end) 0
moved-start a w limit end = record { long = refl; moves = λ q l le lt. absurd (omega arith); order = λ q lt. absurd (omega arith) }

-- ---- what the making of the graph requires

has-flat : (x : ℕ) (r : List ℕ) (rows : List (List ℕ)) → Has r rows → Has x r → Has x (flat rows)
has-flat x r [] h i = absurd h
has-flat x r (s ∷ rows) (inl e) i = Has-left x s (flat rows) (subst (Has x) e i)
has-flat x r (s ∷ rows) (inr h) i = Has-right x s (flat rows) (has-flat x r rows h i)

pub all-targets : (n : ℕ) (rows : List (List ℕ)) → Each (λ k. k < n) (flat rows) → All (All (λ k. k < n)) rows
all-targets n rows each = λ p d lt q e less. Each-has (λ k. k < n) (get_or (get_or rows p d) q e) (flat rows) each (has-flat (get_or (get_or rows p d) q e) (get_or rows p d) rows (Has-get_or rows p d lt) (Has-get_or (get_or rows p d) q e less))

pub all-sets : (a : Automaton) (w : Walk) (f : Found) → IsFound a w f → All (λ key. key.set < length w.sets) f.keys
all-sets a w f i = λ n d lt. subst (λ (key : Key). key.set < length w.sets) (get_or_default f.keys n first_key d lt) (i.sets n lt)

-- Errors.
pub right-pairs : (a : Automaton) (limit : ℕ) (e : PairsError) → IsRightError a limit e → e ≡ TooMany → MoreThan limit (LivePair a)
right-pairs a limit Sets h e = cc
right-pairs a limit TooMany h e = h
right-pairs a limit OutOfMemory h e = cc

pub right-sets : (a : Automaton) (limit : ℕ) (e : PairsError) → IsRightError a limit e → e ≡ Sets → MoreThan 20000 (CountedSet a)
right-sets a limit Sets h e = h
right-sets a limit TooMany h e = cc
right-sets a limit OutOfMemory h e = cc
