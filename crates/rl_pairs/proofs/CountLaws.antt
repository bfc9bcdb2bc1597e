-- How many sets of states and how many pairs there are.
use Rattle.std.proofs.Common.{◌≡◌, ◌≢◌, ◌∙◌, ℕ, zero, suc, ◌+◌, ◌*◌, ◌^◌, ◌<◌, ◌≤◌, inl, inr, List, [], ◌∷◌, ◌++◌, length, map, filter, cond, Bool, true, false, refl, sym, ap, subst, arith, length-append, mul-le-mul, suc-mul, mul_comm, append-nil, eqb, ◌||◌}
use Rattle.std.proofs.lemmas.List.{length-map}
use Rattle.std.proofs.lemmas.List.Elements.{filter-append}
use Rattle.std.proofs.Math.Nat.{two-pow-succ}
use Rattle.std.proofs.Math.Pow.{pow_mono}
use Rattle.rl_graph.specs.Paths.{Has, Each, Pairs}
use Rattle.rl_graph.specs.Bounds.{bound_n}
use Rattle.rl_graph.proofs.Sums.{Each-has, Has-left, Has-right, Has-map, distinct-short}
use Rattle.rl_prio.specs.Automaton.{Automaton, moves_at, dead_state}
use Rattle.rl_sets.specs.Live.{below, set_where, holds, image, joined, IsLive}
use Rattle.rl_pairs.specs.declared.pair.Pair.{Pair}
use Rattle.rl_pairs.specs.LivePairs.{LivePair, first, move, pairs_from, next_pairs}
use Rattle.rl_pairs.specs.PairGraph.{IsPairGraph, KeptLive}
use Rattle.rl_pairs.specs.Counted.{MoreThan}
use Rattle.rl_pairs.proofs.SetLaws.{below-has}
use Rattle.rl_pairs.proofs.ExactLaws.{IsStill}
use Rattle.rl_pairs.proofs.WordLaws.{pairs-state}

pub length-below : (n : ℕ) → length (below n) ≡ n
length-below zero = refl
length-below (suc n) = omega (arith, length-append (below n) (n ∷ []), length-below n)

-- The sets of states below a number

pub subsets : ℕ → List (List ℕ)
subsets zero = [] ∷ []
subsets (suc n) = subsets n ++ map (λ (s : List ℕ). s ++ n ∷ []) (subsets n)

length-subsets : (n : ℕ) → length (subsets n) ≡ 2 ^ n
unfolding subsets
length-subsets zero = omega arith
length-subsets (suc n) = omega (arith, length-append (subsets n) (map (λ (s : List ℕ). s ++ n ∷ []) (subsets n)), length-map (subsets n) (λ (s : List ℕ). s ++ n ∷ []), length-subsets n, two-pow-succ n)

filtered : (p : ℕ → Bool) (n : ℕ) → Has (filter p (below n)) (subsets n)
unfolding subsets
filtered p zero = inl refl
filtered p (suc n) = subst (λ (s : List ℕ). Has s (subsets (suc n))) (sym (filter-append p (below n) (n ∷ []))) (by (p n) (filtered p n))
  where
    by : (b : Bool) → Has (filter p (below n)) (subsets n) → Has (filter p (below n) ++ cond b (n ∷ []) []) (subsets n ++ map (λ (s : List ℕ). s ++ n ∷ []) (subsets n))
    by true h = Has-right (filter p (below n) ++ n ∷ []) (subsets n) (map (λ (s : List ℕ). s ++ n ∷ []) (subsets n)) (Has-map (λ (s : List ℕ). s ++ n ∷ []) (filter p (below n)) (subsets n) h)
    by false h = Has-left (filter p (below n) ++ []) (subsets n) (map (λ (s : List ℕ). s ++ n ∷ []) (subsets n)) (subst (λ (s : List ℕ). Has s (subsets n)) (sym (append-nil (filter p (below n)))) h)

no-states : (n : ℕ) → Has [] (subsets n)
unfolding subsets
no-states zero = inl refl
no-states (suc n) = Has-left [] (subsets n) (map (λ (s : List ℕ). s ++ n ∷ []) (subsets n)) (no-states n)

-- Pairs of a state below a number and a set of such states

pairs-of : ℕ → List (List ℕ) → List Pair
pairs-of n [] = []
pairs-of n (s ∷ sets) = map (λ q. let p : Pair = record { state = q; set = s } in p) (below n) ++ pairs-of n sets

length-pairs-of : (n : ℕ) (sets : List (List ℕ)) → length (pairs-of n sets) ≡ length sets * n
unfolding pairs-of
length-pairs-of n [] = omega arith
length-pairs-of n (s ∷ sets) =
    omega (arith, length-append (map (λ q. let p : Pair = record { state = q; set = s } in p) (below n)) (pairs-of n sets), length-map (below n) (λ q. let p : Pair = record { state = q; set = s } in p), length-below n, length-pairs-of n sets, suc-mul (length sets) n)

has-pair : (n q : ℕ) (s : List ℕ) (sets : List (List ℕ)) → q < n → Has s sets → Has (record { state = q; set = s }) (pairs-of n sets)
unfolding pairs-of
has-pair n q s [] lt h = absurd h
has-pair n q s (r ∷ sets) lt (inl e) =
    let make : List ℕ → ℕ → Pair = λ s q. record { state = q; set = s } in
    Has-left (make s q) (map (make r) (below n)) (pairs-of n sets) (subst (λ (z : List ℕ). Has (make s q) (map (make z) (below n))) e (Has-map (make s) q (below n) (below-has n q lt)))
has-pair n q s (r ∷ sets) lt (inr h) =
    let make : List ℕ → ℕ → Pair = λ s q. record { state = q; set = s } in
    Has-right (make s q) (map (make r) (below n)) (pairs-of n sets) (has-pair n q s sets lt h)

-- A pair is a state and a set of states.
pub record IsPairOf (a : Automaton) (p : Pair) : Type 0 where
  pub state_in : p.state < a.states
  pub set_in : Has p.set (subsets a.states)

pub pairs_at_most : (a : Automaton) (l : List Pair) → Each (IsPairOf a) l → Pairs (λ x y. x ≢ y) l → length l ≤ 2 ^ a.states * a.states
pairs_at_most a l each apart =
    omega (
      arith,
      distinct-short l (pairs-of a.states (subsets a.states)) apart (λ p i. let h = Each-has (IsPairOf a) p l each i in has-pair a.states p.state p.set (subsets a.states) h.state_in h.set_in),
      length-pairs-of a.states (subsets a.states),
      ap (λ x. x * a.states) (length-subsets a.states),
    )

image-in : (a : Automaton) (set : List ℕ) (letter : ℕ) → Has (image a set letter) (subsets a.states)
unfolding image
image-in a set letter = filtered _ a.states

joined-in : (a : Automaton) (t : ℕ) (set : List ℕ) → Has set (subsets a.states) → Has (joined a t set) (subsets a.states)
unfolding joined
joined-in a t set h = by (eqb t (dead_state a))
  where
    by : (b : Bool) → Has (cond b set (set_where a (λ x. eqb x t || holds set x))) (subsets a.states)
    by true = h
    by false = filtered (λ x. eqb x t || holds set x) a.states

sets-in : (a : Automaton) (set ts : List ℕ) (p : Pair) → Has set (subsets a.states) → Has p (pairs_from a set ts) → Has p.set (subsets a.states)
sets-in a set [] p h i = absurd i
sets-in a set (t ∷ ts) p h (inl e) = subst (λ (p : Pair). Has p.set (subsets a.states)) (sym e) h
sets-in a set (t ∷ ts) p h (inr i) = sets-in a (joined a t set) ts p (joined-in a t set h) i

pub live-pair_of : (a : Automaton) → IsStill a → (p : Pair) → LivePair a p → IsPairOf a p
live-pair_of a still p first = record { state_in = omega (arith, still.three); set_in = no-states a.states }
live-pair_of a still q (move {p = p} letter from le has live) =
    record {
      state_in = still.targets p.state letter q.state (pairs-state a (image a p.set letter) (moves_at a p.state letter) q has);
      set_in = sets-in a (image a p.set letter) (moves_at a p.state letter) q (image-in a p.set letter) has;
    }

-- At most `8 s + 3` states are few enough for the bound.
pub enough : (q s : ℕ) → q ≤ 8 * s + 3 → 2 ^ q * q ≤ bound_n s
unfolding bound_n
enough q s h =
    let few : q ≤ 8 * (s + 1) = omega arith in
    let power : 2 ^ q ≤ 2 ^ (8 * (s + 1)) = pow_mono few in
    let both : 2 ^ q * q ≤ 2 ^ (8 * (s + 1)) * (8 * (s + 1)) = mul-le-mul power few in
    let turned : 2 ^ (8 * (s + 1)) * (8 * (s + 1)) ≡ 8 * (s + 1) * 2 ^ (8 * (s + 1)) = mul_comm (2 ^ (8 * (s + 1))) (8 * (s + 1)) in
    omega (arith, both, turned)

each-live : (a : Automaton) → IsStill a → (l : List Pair) → Each (LivePair a) l → Each (IsPairOf a) l
each-live a still [] h = tt
each-live a still (p ∷ l) h = (live-pair_of a still p h.0, each-live a still l h.1)

pub few-pairs : (a : Automaton) → IsStill a → (s : ℕ) → a.states ≤ 8 * s + 3 → MoreThan (bound_n s) (LivePair a) → ⊥
few-pairs a still s few (l, apart, each, long) =
    absurd (omega (arith, pairs_at_most a l (each-live a still l each) apart, enough a.states s few, long))

-- The states of a graph of live pairs are the live pairs

kept-number : (a : Automaton) (at : ℕ → Pair) (ps : List Pair) (ks : List ℕ) (p : Pair) → KeptLive a at ps ks → Has p ps → IsLive a p.set → (k : ℕ) × Has k ks × (at k ≡ p)
kept-number a at [] ks p e h live = absurd h
kept-number a at (r ∷ ps) ks p (inl (dead, more)) (inl e) live = absurd (dead (subst (λ (p : Pair). IsLive a p.set) e live))
kept-number a at (r ∷ ps) ks p (inl (dead, more)) (inr h) live = kept-number a at ps ks p more h live
kept-number a at (r ∷ ps) ks p (inr (k, rest, alive, e, same, more)) (inl d) live = (k, rw e (inl refl), same ∙ sym d)
kept-number a at (r ∷ ps) ks p (inr (k, rest, alive, e, same, more)) (inr h) live =
    let j = kept-number a at ps rest p more h live in
    (j.0, rw e (inr j.1), j.2)

pub number-there : (a : Automaton) (next : ℕ → ℕ → List ℕ) (at : ℕ → Pair) (n : ℕ) → IsPairGraph a next at n → (p : Pair) → LivePair a p → (i : ℕ) × (i < n) × (at i ≡ p)
number-there a next at n g p first = (0, g.some, g.first)
number-there a next at n g q (move {p = p} letter from le has live) =
    let i = number-there a next at n g p from in
    let h : Has q (next_pairs a (at i.0) letter) = subst (λ (p : Pair). Has q (next_pairs a p letter)) (sym i.2) has in
    let k = kept-number a at (next_pairs a (at i.0) letter) (next i.0 letter) q (g.moves i.0 letter i.1 le) h live in
    (k.0, g.targets i.0 letter k.0 i.1 k.1, k.2)

pub no-more-than-states : (a : Automaton) (next : ℕ → ℕ → List ℕ) (at : ℕ → Pair) (n m : ℕ) → IsPairGraph a next at n → n ≤ m → MoreThan m (LivePair a) → ⊥
no-more-than-states a next at n m g le (l, apart, each, long) =
    let short = distinct-short l (map at (below n)) apart (λ p i.
    let k = number-there a next at n g p (Each-has (LivePair a) p l each i) in
    subst (λ (p : Pair). Has p (map at (below n))) k.2 (Has-map at k.0 (below n) (below-has n k.0 k.1))) in
    absurd (omega (arith, short, long, length-map (below n) at, length-below n))
