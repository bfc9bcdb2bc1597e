-- Laws of a search: how the set pairs that it finds follow their order.
use Rattle.std.proofs.Common.{◌≡◌, ◌∙◌, ℕ, zero, suc, ◌+◌, ◌<◌, ◌≤◌, ◌⊎◌, inl, inr, List, [], ◌∷◌, ◌++◌, length, get_or, map, take, slice_get, Some, Result, Ok, Err, IfOk, Bool, true, false, cond, nat_lt, refl, sym, ap, ap₂, subst, arith, append_assoc}
use Rattle.std.specs.List.{list_any}
use Rattle.std.proofs.lemmas.Bool.{cases_lt, cond-true, cond-false, lt-ltb, le-ltb}
use Rattle.std.proofs.lemmas.List.{length-append, length-map, map-append, append-nil, get_or_append_left, get_or-map, take_more}
use Rattle.std.proofs.lemmas.Option.{slice_get-get_or, get_or_from_slice_get}
use Rattle.rl_syntax.specs.declared.limits.TheConstants.{MOST_SET_PAIRS}
use Rattle.rl_prio.specs.Automaton.{Automaton, letters_count}
use Rattle.rl_sets.specs.Live.{below}
use Rattle.rl_sets.specs.Walk.{Walk, set_at, IsMadeFor}
use Rattle.rl_sets.proofs.WalkLemmas.{get_kept}
use Rattle.rl_equiv.specs.declared.pair.SetPair.{SetPair}
use Rattle.rl_equiv.specs.declared.searching.PairKey.{PairKey}
use Rattle.rl_equiv.specs.declared.searching.PairSearch.{PairSearch}
use Rattle.rl_equiv.specs.SetPairs.{first_pair}
use Rattle.rl_equiv.specs.Numbering.{same_pair, with_one, with_more, Reached, reached_by, next_reached, pairs_reached, with_reached, with_all_reached}
use Rattle.rl_equiv.specs.internal.Machines.{pair_on, ends, pairs_of}
use Rattle.rl_equiv.specs.internal.Searching.{State, state_of, no_key, no_way, key_at, way_at, pair_of, pairs_in, pair_at, word_at, reached_in, reached_at, reached_on, with_reached_within, IsNext, IsSearch, IsOnward, AreCapped, ends_of}
use Rattle.rl_equiv.specs.Sides.{IsSide}
use Rattle.rl_equiv.proofs.FoundLaws.{no_reached, reached-length, reached-get}
use Rattle.rl_equiv.proofs.ImageLaws.{length-below}
use Rattle.rl_equiv.proofs.SideLaws.{side-lower, side-same}
use Rattle.rl_equiv.proofs.VisitLaws.{onward-refl}

-- ---- lists that grow

pub one-grows : (found : List SetPair) (p : SetPair) → (more : List SetPair) × (with_one found p ≡ found ++ more)
one-grows found p = by (list_any (same_pair p) found)
  where
    by : (b : Bool) → (more : List SetPair) × (cond b found (found ++ p ∷ []) ≡ found ++ more)
    by true = ([], sym (append-nil found))
    by false = (p ∷ [], refl)

pub more-grows : (found ps : List SetPair) → (more : List SetPair) × (with_more found ps ≡ found ++ more)
more-grows found [] = ([], sym (append-nil found))
more-grows found (p ∷ ps) =
    let x = one-grows found p in
    let y = more-grows (with_one found p) ps in
    (x.0 ++ y.0, y.1 ∙ ap (λ (l : List SetPair). l ++ y.0) x.1 ∙ append_assoc found x.0 y.0)

pub reached-grows : (found : List Reached) (r : Reached) → (more : List Reached) × (with_reached found r ≡ found ++ more)
reached-grows found r = by (list_any (same_pair r.pair) (pairs_reached found))
  where
    by : (b : Bool) → (more : List Reached) × (cond b found (found ++ r ∷ []) ≡ found ++ more)
    by true = ([], sym (append-nil found))
    by false = (r ∷ [], refl)

pub all-append : (found rs qs : List Reached) → with_all_reached found (rs ++ qs) ≡ with_all_reached (with_all_reached found rs) qs
all-append found [] qs = refl
all-append found (r ∷ rs) qs = all-append (with_reached found r) rs qs

by-push : (word : List ℕ) (letter : ℕ) (ps : List SetPair) (p : SetPair) (last : ℕ) → last ≡ letter + length ps
    → reached_by word letter (ps ++ p ∷ []) ≡ reached_by word letter ps ++ record { pair = p; word = word ++ last ∷ [] } ∷ []
by-push word letter [] p last e = let here : letter ≡ last = omega (arith, e) in ap (λ (n : ℕ). record { pair = p; word = word ++ n ∷ [] } ∷ []) here
by-push word letter (q ∷ ps) p last e = ap (λ (l : List Reached). record { pair = q; word = word ++ letter ∷ [] } ∷ l) (by-push word (suc letter) ps p last (omega (arith, e)))

-- One more set pair, on both sides.
pub capped-one : (limit : ℕ) (found whole : List Reached) (p : Reached) → AreCapped limit found whole → AreCapped limit (with_reached_within limit found p) (with_reached whole p)
capped-one limit found whole p (inl e) = by (cases_lt limit (length found))
  where
    by : (limit < length found) ⊎ (length found ≤ limit) → AreCapped limit (with_reached_within limit found p) (with_reached whole p)
    by (inl lt) =
        let full : with_reached_within limit found p ≡ found = cond-true (nat_lt limit (length found)) found (with_reached found p) (lt-ltb limit (length found) lt) in
        let x = reached-grows whole p in
        subst (λ (l : List Reached). AreCapped limit l (with_reached whole p)) (sym full) (inr (lt, (x.0, x.1 ∙ ap (λ (l : List Reached). l ++ x.0) (sym e))))
    by (inr le) =
        let room : with_reached_within limit found p ≡ with_reached found p = cond-false (nat_lt limit (length found)) found (with_reached found p) (le-ltb limit (length found) le) in
        inl (room ∙ ap (λ (l : List Reached). with_reached l p) e)
capped-one limit found whole p (inr h) =
    let full : with_reached_within limit found p ≡ found = cond-true (nat_lt limit (length found)) found (with_reached found p) (lt-ltb limit (length found) h.0) in
    let x = reached-grows whole p in
    subst (λ (l : List Reached). AreCapped limit l (with_reached whole p)) (sym full)
    (inr (h.0, (h.1.0 ++ x.0, x.1 ∙ ap (λ (l : List Reached). l ++ x.0) h.1.1 ∙ append_assoc found h.1.0 x.0)))

-- What is found at a place.
pub capped-get : {X : Type 0} (limit : ℕ) (found whole : List X) (k : ℕ) (d : X) → AreCapped limit found whole → k < length found → slice_get whole k ≡ Some (get_or found k d)
capped-get {X = X} limit found whole k d (inl e) lt = ap (λ (l : List X). slice_get l k) (sym e) ∙ slice_get-get_or found k d lt
capped-get {X = X} limit found whole k d (inr h) lt =
    ap (λ (l : List X). slice_get l k) h.1.1 ∙ get_kept found h.1.0 k (get_or found k d) (slice_get-get_or found k d lt)

-- The same without the words.
pub capped-pairs : (limit : ℕ) (found whole : List Reached) → AreCapped limit found whole → AreCapped limit (pairs_reached found) (pairs_reached whole)
capped-pairs limit found whole (inl e) = inl (ap pairs_reached e)
capped-pairs limit found whole (inr h) =
    inr (omega (arith, h.0, length-map found (λ (r : Reached). r.pair)), (pairs_reached h.1.0, ap pairs_reached h.1.1 ∙ map-append (λ (r : Reached). r.pair) found h.1.0))

-- ---- the set pairs of a search

pub pairs-length : (s : State) → length (pairs_in s) ≡ length s.keys
pairs-length s = length-map s.keys (pair_of s.first s.second)

pub pairs-get : (s : State) (k : ℕ) → k < length s.keys → get_or (pairs_in s) k first_pair ≡ pair_at s k
pairs-get s k lt = get_or-map (pair_of s.first s.second) s.keys k no_key first_pair lt

module _ (a b : Automaton) (old new : State) (o : IsOnward a b old new) where
  pub onward-longer : length old.keys ≤ length new.keys
  onward-longer = omega (arith, ap length o.grown, length-append (reached_in old) o.more, reached-length old, reached-length new)

  pub onward-reached : (k : ℕ) → k < length old.keys → reached_at new k ≡ reached_at old k
  onward-reached k lt =
      sym (reached-get new k (omega (arith, onward-longer)))
      ∙ ap (λ (l : List Reached). get_or l k no_reached) o.grown
      ∙ get_or_append_left (reached_in old) o.more no_reached k (omega (arith, reached-length old))
      ∙ reached-get old k lt

  pub onward-get : (k : ℕ) → k < length old.keys → pair_at new k ≡ pair_at old k
  onward-get k lt = ap (λ (r : Reached). r.pair) (onward-reached k lt)

pub onward-onward : (a b : Automaton) (s t u : State) → IsOnward a b s t → IsOnward a b t u → IsOnward a b s u
onward-onward a b s t u o p = record {
  search = p.search;
  limit_is = p.limit_is ∙ o.limit_is;
  more = o.more ++ p.more;
  grown = p.grown ∙ ap (λ (l : List Reached). l ++ p.more) o.grown ∙ append_assoc (reached_in s) o.more p.more;
}

-- How far a set pair is expanded: its first letters were visited.
pub record IsExpanding (a b : Automaton) (old cur : State) (place letter : ℕ) : Type 0 where
  pub onward : IsOnward a b old cur
  pub reached : (whole : List Reached) → AreCapped old.limit (reached_in old) whole
      → AreCapped old.limit (reached_in cur) (with_all_reached whole (reached_by (word_at old place) 0 (map (pair_on a b (pair_at old place)) (below letter))))

pub expanding-start : (a b : Automaton) (s : State) (place : ℕ) → IsSearch a b s → IsExpanding a b s s place 0
expanding-start a b s place search = record { onward = onward-refl a b s search; reached = λ whole capped. capped }

pub expanding-more : (a b : Automaton) (old cur new : State) (place letter : ℕ) → place < length old.keys → IsExpanding a b old cur place letter → IsOnward a b cur new
    → reached_in new ≡ with_reached_within cur.limit (reached_in cur) (reached_on a b (reached_at cur place) letter) → IsExpanding a b old new place (letter + 1)
expanding-more a b old cur new place letter lt x o e = record {
  onward = onward-onward a b old cur new x.onward o;
  reached = λ whole capped.
      let word = word_at old place in
      let f = pair_on a b (pair_at old place) in
      let r = reached_on a b (reached_at old place) letter in
      let now : reached_in new ≡ with_reached_within old.limit (reached_in cur) r =
      e ∙ ap₂ (λ (n : ℕ) (q : Reached). with_reached_within n (reached_in cur) (reached_on a b q letter)) x.onward.limit_is (onward-reached a b old cur x.onward place lt) in
      let one : letter + 1 ≡ suc letter = omega arith in
      let pushed : reached_by word 0 (map f (below (suc letter))) ≡ reached_by word 0 (map f (below letter)) ++ r ∷ [] =
      ap (reached_by word 0) (map-append f (below letter) (letter ∷ []))
      ∙ by-push word 0 (map f (below letter)) (f letter) letter (omega (arith, length-map (below letter) f, length-below letter)) in
      let then : with_all_reached whole (reached_by word 0 (map f (below (letter + 1)))) ≡ with_reached (with_all_reached whole (reached_by word 0 (map f (below letter)))) r =
      ap (λ (n : ℕ). with_all_reached whole (reached_by word 0 (map f (below n)))) one
      ∙ ap (with_all_reached whole) pushed
      ∙ all-append whole (reached_by word 0 (map f (below letter))) (r ∷ []) in
      subst (λ (l : List Reached). AreCapped old.limit l (with_all_reached whole (reached_by word 0 (map f (below (letter + 1)))))) (sym now)
      (subst (λ (l : List Reached). AreCapped old.limit (with_reached_within old.limit (reached_in cur) r) l) (sym then)
      (capped-one old.limit (reached_in cur) (with_all_reached whole (reached_by word 0 (map f (below letter)))) r (x.reached whole capped)));
}

pub expanding-done : (a b : Automaton) (old cur : State) (place letter : ℕ) → letter ≡ letters_count a → IsExpanding a b old cur place letter
    → (whole : List Reached) → AreCapped old.limit (reached_in old) whole → AreCapped old.limit (reached_in cur) (with_all_reached whole (next_reached (pairs_of a b) (reached_at old place)))
unfolding pairs_of
expanding-done a b old cur place letter e x whole capped =
    subst (λ (n : ℕ). AreCapped old.limit (reached_in cur) (with_all_reached whole (reached_by (word_at old place) 0 (map (pair_on a b (pair_at old place)) (below n))))) e (x.reached whole capped)

-- What was found is still there if the set pairs are the same.
pub still-found : (s t : State) (place : ℕ) → pairs_in t ≡ pairs_in s → place < length s.keys → place < length t.keys
still-found s t place same lt =
    subst (λ (n : ℕ). place < n) (sym (length-map s.keys (pair_of s.first s.second)) ∙ ap length (sym same) ∙ length-map t.keys (pair_of t.first t.second)) lt

pub key-read : (s : State) (place : ℕ) (key : PairKey) → slice_get s.keys place ≡ Some key → key_at s place ≡ key
key-read s place key e = get_or_from_slice_get s.keys place key no_key e

-- The ends of the set pair at a place are those of its sets.
pub ends-read : (a b : Automaton) (s : State) (place : ℕ) (key : PairKey) (x y : Bool) → key_at s place ≡ key → x ≡ ends a (set_at s.first key.first) → y ≡ ends b (set_at s.second key.second)
    → record { first = x; second = y } ≡ ends_of (pairs_of a b) (pair_at s place)
unfolding pairs_of
ends-read a b s place key x y e f g =
    let first : ends a (set_at s.first key.first) ≡ ends a (pair_at s place).first = ap (λ (k : PairKey). ends a (set_at s.first k.first)) (sym e) in
    let second : ends b (set_at s.second key.second) ≡ ends b (pair_at s place).second = ap (λ (k : PairKey). ends b (set_at s.second k.second)) (sym e) in
    let p = f ∙ first in
    let q = g ∙ second in
    λ i. record { first = p i; second = q i }

-- A search that has found the first set pair, by the numbers of its sets.
abbrev pub first_state : ℕ → ℕ → ℕ → Walk → Walk → State
first_state limit n m v w = record { limit = limit; first = v; second = w; keys = record { first = n; second = m } ∷ []; ways = no_way ∷ [] }

-- What holds of a search holds of it.
pub search-start : (a b : Automaton) (limit n m : ℕ) (v w : Walk) → 1 ≤ limit → limit ≤ MOST_SET_PAIRS → IsSide a MOST_SET_PAIRS 1 v → IsSide b MOST_SET_PAIRS 1 w
    → n < length v.sets → m < length w.sets → set_at v n ≡ 0 ∷ [] → set_at w m ≡ 0 ∷ [] → IsSearch a b (first_state limit n m v w)
search-start a b limit n m v w some low one two n_in m_in e f = record {
  some_limit = some;
  low_limit = low;
  first_side = side-lower a limit MOST_SET_PAIRS 1 v low one;
  second_side = side-lower b limit MOST_SET_PAIRS 1 w low two;
  first_in = λ k lt. by_first k lt;
  second_in = λ k lt. by_second k lt;
  some = omega arith;
  few = omega arith;
  paired = refl;
  start = λ i. record { first = e i; second = f i };
  ways = λ k lt below. absurd (omega arith);
}
  where
    by_first : (k : ℕ) → k < 1 → (get_or (record { first = n; second = m } ∷ []) k no_key).first < length v.sets
    by_first zero lt = n_in
    by_first (suc k) lt = absurd (omega arith)

    by_second : (k : ℕ) → k < 1 → (get_or (record { first = n; second = m } ∷ []) k no_key).second < length w.sets
    by_second zero lt = m_in
    by_second (suc k) lt = absurd (omega arith)

-- The same for the search that was made, if it was.
pub begun-search : {E : Type 0} (a b : Automaton) (limit n m : ℕ) (v w : Walk) → 1 ≤ limit → limit ≤ MOST_SET_PAIRS → IsSide a MOST_SET_PAIRS 1 v → IsSide b MOST_SET_PAIRS 1 w
    → n < length v.sets → m < length w.sets → set_at v n ≡ 0 ∷ [] → set_at w m ≡ 0 ∷ [] → (r : Result PairSearch E) → IfOk r (λ s. state_of s ≡ first_state limit n m v w) → IfOk r (λ s. IsSearch a b (state_of s))
begun-search a b limit n m v w some low one two n_in m_in e f (Err x) h = tt
begun-search a b limit n m v w some low one two n_in m_in e f (Ok s) h = subst (IsSearch a b) (sym h) (search-start a b limit n m v w some low one two n_in m_in e f)

pub begun-limit : {E : Type 0} (limit n m : ℕ) (v w : Walk) (r : Result PairSearch E) → IfOk r (λ s. state_of s ≡ first_state limit n m v w) → IfOk r (λ s. s.limit ≡ limit)
begun-limit limit n m v w (Err x) h = tt
begun-limit limit n m v w (Ok s) h = ap (λ (t : State). t.limit) h

pub begun-one : {E : Type 0} (limit n m : ℕ) (v w : Walk) → set_at v n ≡ 0 ∷ [] → set_at w m ≡ 0 ∷ [] → (r : Result PairSearch E)
    → IfOk r (λ s. state_of s ≡ first_state limit n m v w) → IfOk r (λ s. pairs_in (state_of s) ≡ first_pair ∷ [])
begun-one limit n m v w e f (Err x) h = tt
begun-one limit n m v w e f (Ok s) h =
    let first : pairs_in (first_state limit n m v w) ≡ first_pair ∷ [] = λ i. record { first = e i; second = f i } ∷ [] in
    ap pairs_in h ∙ first

-- A search whose walks have the same sets as before.
pub search-again : (a b : Automaton) (s : State) (v w : Walk) → IsSearch a b s → IsMadeFor v a → v.limit ≡ s.first.limit → v.sets ≡ s.first.sets → IsMadeFor w b → w.limit ≡ s.second.limit → w.sets ≡ s.second.sets
    → IsSearch a b (record { limit = s.limit; first = v; second = w; keys = s.keys; ways = s.ways })
search-again a b s v w search made limit e made' limit' f = record {
  some_limit = search.some_limit;
  low_limit = search.low_limit;
  first_side = side-same a s.limit (length s.keys) s.first v search.first_side made limit e;
  second_side = side-same b s.limit (length s.keys) s.second w search.second_side made' limit' f;
  first_in = λ k lt. subst (λ (l : List (List ℕ)). (key_at s k).first < length l) (sym e) (search.first_in k lt);
  second_in = λ k lt. subst (λ (l : List (List ℕ)). (key_at s k).second < length l) (sym f) (search.second_in k lt);
  some = search.some;
  few = search.few;
  paired = search.paired;
  start = pair-again (key_at s 0) ∙ search.start;
  ways = λ k lt below. by k (search.ways k lt below);
}
  where
    pair-again : (key : PairKey) → pair_of v w key ≡ pair_of s.first s.second key
    pair-again key i = record { first = get_or (e i) key.first []; second = get_or (f i) key.second [] }

    by : (k : ℕ) → IsNext a b s k (way_at s k) → IsNext a b (record { limit = s.limit; first = v; second = w; keys = s.keys; ways = s.ways }) k (way_at s k)
    by k next = record {
      earlier = next.earlier;
      small = next.small;
      is = pair-again (key_at s k) ∙ next.is ∙ ap (λ (p : SetPair). pair_on a b p (way_at s k).letter) (sym (pair-again (key_at s (way_at s k).parent)));
    }

pub pairs-again : (s : State) (v w : Walk) → v.sets ≡ s.first.sets → w.sets ≡ s.second.sets → map (pair_of v w) s.keys ≡ pairs_in s
pairs-again s v w e f = ap₂ (λ (x y : List (List ℕ)). map (λ (key : PairKey). record { first = get_or x key.first []; second = get_or y key.second [] }) s.keys) e f

-- One more of the set pairs that were found was put into the relation.
pub relation-more : (s : State) (relation : List SetPair) (place : ℕ) (key : PairKey) (x y : List ℕ) → relation ≡ take place (pairs_in s) → place < length s.keys → slice_get s.keys place ≡ Some key
    → x ≡ set_at s.first key.first → y ≡ set_at s.second key.second → relation ++ record { first = x; second = y } ∷ [] ≡ take (place + 1) (pairs_in s)
relation-more s relation place key x y is lt read e f =
    let k = key-read s place key read in
    let p : record { first = x; second = y } ≡ pair_at s place = λ i. record { first = (e ∙ ap (λ (q : PairKey). set_at s.first q.first) (sym k)) i; second = (f ∙ ap (λ (q : PairKey). set_at s.second q.second) (sym k)) i } in
    ap₂ (λ (l : List SetPair) (q : SetPair). l ++ q ∷ []) is (p ∙ sym (pairs-get s place lt))
    ∙ sym (take_more (pairs_in s) place first_pair (omega (arith, pairs-length s)))
