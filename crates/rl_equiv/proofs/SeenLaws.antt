-- Laws of what a search has seen.
use Rattle.std.proofs.Common.{◌≡◌, ◌∙◌, ℕ, suc, ◌<◌, ◌≤◌, ◌⊎◌, inl, inr, List, [], ◌∷◌, ◌++◌, length, get_or, slice_get, Some, Any, Bool, true, false, not, ◌&&◌, refl, sym, ap, ap₂, subst, arith}
use Rattle.std.proofs.lemmas.Bool.{cases_lt, false≢true}
use Rattle.std.proofs.lemmas.List.{length_push, get_or_push, get_or_append_left}
use Rattle.std.proofs.lemmas.Option.{slice_get_within, get_or_from_slice_get}
use Rattle.rl_prio.specs.Automaton.{Automaton}
use Rattle.rl_sets.proofs.WalkLemmas.{get_kept}
use Rattle.rl_equiv.specs.declared.pair.SetPair.{SetPair}
use Rattle.rl_equiv.specs.declared.searching.Ends.{Ends}
use Rattle.rl_equiv.specs.declared.searching.Way.{Way}
use Rattle.rl_equiv.specs.SetPairs.{first_pair, differs, SetPairs}
use Rattle.rl_equiv.specs.Numbering.{found_after, first_ones, AreAll, AreMore, Reached, pairs_reached, next_reached, with_all_reached, looked_at_reached, reached_after}
use Rattle.rl_equiv.specs.internal.Machines.{pairs_of}
use Rattle.rl_equiv.specs.internal.Searching.{AreReaders, State, pairs_in, pair_at, words_of, reached_of, reached_in, reached_at, IsSearch, IsOnward, AreCapped, ends_of, is_apart, ends_in, no_ends, IsSeen, IsThrough, IsSeenApart}
use Rattle.rl_equiv.proofs.FoundLaws.{no_reached, reached-pairs, reached-length, reached-get}
use Rattle.rl_equiv.proofs.SearchLaws.{capped-get, capped-pairs, pairs-length, pairs-get, onward-longer, onward-reached}
use Rattle.rl_equiv.proofs.RunLaws.{IsRunning, running-exceeded, running-all, found-extends, get-taken}
use Rattle.rl_equiv.proofs.WordLaws.{reached-found}

reached-zero : (d : SetPairs) → reached_after d 0 ≡ record { pair = first_pair; word = [] } ∷ []
unfolding reached_after
reached-zero d = refl

reached-next : (d : SetPairs) (k : ℕ) → reached_after d (suc k) ≡ looked_at_reached d (reached_after d k) (slice_get (reached_after d k) k)
unfolding reached_after
reached-next d k = refl

reached-looked : (d : SetPairs) (k : ℕ) (r : Reached) → slice_get (reached_after d k) k ≡ Some r → reached_after d (suc k) ≡ with_all_reached (reached_after d k) (next_reached d r)
reached-looked d k r e = reached-next d k ∙ ap (looked_at_reached d (reached_after d k)) e

one-way : (ways : List Way) → length ways ≡ 1 → words_of ways ≡ [] ∷ []
one-way [] e = absurd (omega (arith, e))
one-way (w ∷ []) e = refl
one-way (w ∷ x ∷ ways) e = absurd (omega (arith, e))

pub seen-start : (a b : Automaton) (s : State) (seen : List Ends) → IsSearch a b s → pairs_in s ≡ first_pair ∷ [] → seen ≡ [] → IsSeen a b s.limit s seen
seen-start a b s seen search one none = subst (λ (l : List Ends). IsSeen a b s.limit s l) (sym none) (record {
  search = search;
  limit_is = refl;
  in_limit = omega arith;
  in_found = omega arith;
  capped = inl (ap₂ reached_of one (one-way s.ways (omega (arith, search.paired, pairs-length s, ap length one))) ∙ sym (reached-zero (pairs_of a b)));
  are = λ k lt. absurd (omega arith);
})

-- Looking at the ends of a set pair leaves the set pairs as they are.
module _ (s t : State) (pairs : pairs_in t ≡ pairs_in s) (ways : t.ways ≡ s.ways) where
  tried-reached : reached_in t ≡ reached_in s
  tried-reached = ap₂ reached_of pairs (ap words_of ways)

  pub tried-length : length t.keys ≡ length s.keys
  tried-length = omega (arith, ap length pairs, pairs-length s, pairs-length t)

  tried-get : (k : ℕ) → k < length s.keys → reached_at t k ≡ reached_at s k
  tried-get k lt = sym (reached-get t k (omega (arith, tried-length))) ∙ ap (λ (l : List Reached). get_or l k no_reached) tried-reached ∙ reached-get s k lt

-- One more set pair was looked at.
pub seen-more : (a b : Automaton) (limit : ℕ) (cur t new : State) (seen longer : List Ends) (ends : Ends) → IsSeen a b limit cur seen → length seen < length cur.keys → length seen < limit
    → t.limit ≡ cur.limit → pairs_in t ≡ pairs_in cur → t.ways ≡ cur.ways → ends ≡ ends_of (pairs_of a b) (pair_at cur (length seen)) → IsOnward a b t new
    → ((whole : List Reached) → AreCapped t.limit (reached_in t) whole → AreCapped t.limit (reached_in new) (with_all_reached whole (next_reached (pairs_of a b) (reached_at t (length seen)))))
    → longer ≡ seen ++ ends ∷ [] → IsSeen a b limit new longer
seen-more a b limit cur t new seen longer ends r lt small same_limit same_pairs same_ways is o put pushed =
    let d = pairs_of a b in
    let place = length seen in
    let limits : t.limit ≡ limit = same_limit ∙ r.limit_is in
    let there = tried-reached cur t same_pairs same_ways in
    let long = tried-length cur t same_pairs same_ways in
    let before : AreCapped t.limit (reached_in t) (reached_after d place) =
    subst (λ (n : ℕ). AreCapped n (reached_in t) (reached_after d place)) (sym limits) (subst (λ (l : List Reached). AreCapped limit l (reached_after d place)) (sym there) r.capped) in
    let read : slice_get (reached_after d place) place ≡ Some (reached_at t place) =
    capped-get t.limit (reached_in t) (reached_after d place) place no_reached before (omega (arith, reached-length t, long)) ∙ ap (λ (x : Reached). Some x) (reached-get t place (omega (arith, long))) in
    let after : AreCapped limit (reached_in new) (reached_after d (suc place)) =
    subst (λ (n : ℕ). AreCapped n (reached_in new) (reached_after d (suc place))) limits
    (subst (λ (l : List Reached). AreCapped t.limit (reached_in new) l) (sym (reached-looked d place (reached_at t place) read)) (put (reached_after d place) before)) in
    let count : length longer ≡ suc place = omega (arith, ap length pushed, length_push seen ends) in
    let stays = λ (k : ℕ) (less : k < length cur.keys). ap (λ (x : Reached). x.pair) (onward-reached a b t new o k (omega (arith, long)) ∙ tried-get cur t same_pairs same_ways k less) in
    record {
      search = o.search;
      limit_is = o.limit_is ∙ limits;
      in_limit = omega (arith, count);
      in_found = omega (arith, count, onward-longer a b t new o, long);
      capped = subst (λ (n : ℕ). AreCapped limit (reached_in new) (reached_after d n)) (sym count) after;
      are = λ k less. ap (λ (l : List Ends). ends_in l k) pushed ∙ elim (cases_lt k place) [
        | inl in' ↦ get_or_append_left seen (ends ∷ []) no_ends k in' ∙ r.are k in' ∙ ap (ends_of d) (sym (stays k (omega arith)))
        | inr ge ↦
            let here : place ≡ k = omega (arith, count, less) in
            get_or_push seen ends no_ends k here ∙ is ∙ ap (λ (n : ℕ). ends_of d (pair_at cur n)) here ∙ ap (ends_of d) (sym (stays k (omega arith)))
      ];
    }

-- None was apart so far.
pub calm-more : (all : Bool) (seen longer : List Ends) (ends : Ends) → (all ≡ false → (k : ℕ) → k < length seen → is_apart (ends_in seen k) ≡ false) → (all ≡ false → is_apart ends ≡ false)
    → longer ≡ seen ++ ends ∷ [] → all ≡ false → (k : ℕ) → k < length longer → is_apart (ends_in longer k) ≡ false
calm-more all seen longer ends before now pushed not_all k lt = ap (λ (l : List Ends). is_apart (ends_in l k)) pushed ∙ elim (cases_lt k (length seen)) [
  | inl less ↦ ap is_apart (get_or_append_left seen (ends ∷ []) no_ends k less) ∙ before not_all k less
  | inr ge ↦ ap is_apart (get_or_push seen ends no_ends k (omega (arith, lt, ap length pushed, length_push seen ends))) ∙ now not_all
]

-- The last one is apart.
pub apart-last : (limit : ℕ) (s : State) (seen longer : List Ends) (ends : Ends) → ((k : ℕ) → k < length seen → is_apart (ends_in seen k) ≡ false) → is_apart ends ≡ true → longer ≡ seen ++ ends ∷ []
    → IsSeenApart limit s longer
apart-last limit s seen longer ends before now pushed =
    let count : length longer ≡ suc (length seen) = omega (arith, ap length pushed, length_push seen ends) in
    record {
      before = λ k lt. ap (λ (l : List Ends). is_apart (ends_in l k)) pushed ∙ ap is_apart (get_or_append_left seen (ends ∷ []) no_ends k (omega (arith, count))) ∙ before k (omega (arith, count));
      last = inr (λ k e. ap (λ (l : List Ends). is_apart (ends_in l k)) pushed ∙ ap is_apart (get_or_push seen ends no_ends k (omega (arith, count, e))) ∙ now);
    }

-- ---- what was seen of the set pairs

module _ (a b : Automaton) (limit : ℕ) (s : State) (seen : List Ends) (r : IsSeen a b limit s seen) where
  pub seen-pairs : AreCapped limit (pairs_in s) (found_after (pairs_of a b) (length seen))
  seen-pairs =
      let d = pairs_of a b in
      subst (λ (l : List SetPair). AreCapped limit l (found_after d (length seen))) (reached-pairs s)
      (subst (λ (l : List SetPair). AreCapped limit (pairs_reached (reached_in s)) l) (reached-found d (length seen)) (capped-pairs limit (reached_in s) (reached_after d (length seen)) r.capped))

  pub seen-differs : (k : ℕ) → k < length seen → differs (pairs_of a b) (pair_at s k) ≡ is_apart (ends_in seen k)
  seen-differs k lt = ap is_apart (sym (r.are k lt))

  pub seen-apart : (k : ℕ) → k < length seen → is_apart (ends_in seen k) ≡ true → Any (λ p. differs (pairs_of a b) p ≡ true) (first_ones (pairs_of a b) limit)
  seen-apart k lt e =
      let d = pairs_of a b in
      let n = length seen in
      let p = pair_at s k in
      let there : slice_get (found_after d n) k ≡ Some p = capped-get limit (pairs_in s) (found_after d n) k first_pair seen-pairs (omega (arith, pairs-length s, r.in_found)) ∙ ap (λ (q : SetPair). Some q) (pairs-get s k (omega (arith, r.in_found))) in
      let x = found-extends d n limit r.in_limit in
      let then : slice_get (first_ones d limit) k ≡ Some p =
      get-taken (found_after d limit) limit k p (omega (arith, r.in_limit)) (ap (λ (l : List SetPair). slice_get l k) x.1 ∙ get_kept (found_after d n) x.0 k p there) in
      (k, p, slice_get_within (first_ones d limit) k p then, get_or_from_slice_get (first_ones d limit) k p p then, seen-differs k lt ∙ e)

  -- None was apart.
  module _ (old : State) (is : old.limit ≡ limit) (apart : IsSeenApart limit s seen) (place : ℕ) (count : length seen ≡ suc place) (calm : is_apart (ends_in seen place) ≡ false) where
    seen-through : IsThrough limit s seen
    seen-through = by apart.last
      where
        by : IsThrough limit s seen ⊎ ((k : ℕ) → length seen ≡ suc k → is_apart (ends_in seen k) ≡ true) → IsThrough limit s seen
        by (inl t) = t
        by (inr h) = absurd (false≢true (sym calm ∙ h place count))

    seen-running : IsRunning a b old s (length seen)
    seen-running = record {
      search = r.search;
      limit_is = r.limit_is ∙ sym is;
      place_in = omega (arith, r.in_limit, r.limit_is);
      capped = subst (λ (n : ℕ). AreCapped n (pairs_in s) (found_after (pairs_of a b) (length seen))) (sym r.limit_is) seen-pairs;
      found = r.in_found;
      none = λ k lt. seen-differs k lt ∙ elim (cases_lt (suc k) (length seen)) [
        | inl less ↦ apart.before k less
        | inr ge ↦ let here : place ≡ k = omega (arith, count, lt, ge) in ap (λ (n : ℕ). is_apart (ends_in seen n)) (sym here) ∙ calm
      ];
    }

    pub seen-exceeded : limit < length s.keys → AreMore (pairs_of a b) old.limit
    seen-exceeded more = by seen-through
      where
        by : IsThrough limit s seen → AreMore (pairs_of a b) old.limit
        by (inl le) = running-exceeded a b old s (length seen) seen-running (omega (arith, r.in_limit, more)) (omega (arith, r.in_limit, le, r.limit_is))
        by (inr le) = absurd (omega (arith, r.in_limit, more, le))

    pub seen-all : AreReaders a b → length s.keys ≤ limit → (relation : List SetPair) → relation ≡ pairs_in s → AreAll (pairs_of a b) old.limit relation
    seen-all readers few relation e = by seen-through
      where
        by : IsThrough limit s seen → AreAll (pairs_of a b) old.limit relation
        by (inl le) = running-all a b old s (length seen) relation readers seen-running (omega (arith, few, le)) e
        by (inr le) = running-all a b old s (length seen) relation readers seen-running le e

-- A search that isn't asked to look at all stops at the first one that is apart.
pub stop-parts : (all apart : Bool) → (not all && apart) ≡ true → (all ≡ false) × (apart ≡ true)
stop-parts true apart e = absurd (false≢true e)
stop-parts false apart e = (refl, e)

pub calm-from : (all apart : Bool) → (not all && apart) ≡ false → all ≡ false → apart ≡ false
calm-from true apart e f = absurd (false≢true (sym f))
calm-from false apart e f = e

-- The same, with the place as a number of its own.
pub seen-more-at : (a b : Automaton) (limit : ℕ) (cur t new : State) (seen longer : List Ends) (ends : Ends) (place : ℕ) → place ≡ length seen → IsSeen a b limit cur seen → place < length cur.keys → place < limit
    → t.limit ≡ cur.limit → pairs_in t ≡ pairs_in cur → t.ways ≡ cur.ways → ends ≡ ends_of (pairs_of a b) (pair_at cur place) → IsOnward a b t new
    → ((whole : List Reached) → AreCapped t.limit (reached_in t) whole → AreCapped t.limit (reached_in new) (with_all_reached whole (next_reached (pairs_of a b) (reached_at t place))))
    → longer ≡ seen ++ ends ∷ [] → IsSeen a b limit new longer
seen-more-at a b limit cur t new seen longer ends place here r lt small same_limit same_pairs same_ways is o put pushed =
    seen-more a b limit cur t new seen longer ends r (omega (arith, here, lt)) (omega (arith, here, small)) same_limit same_pairs same_ways (is ∙ ap (λ (n : ℕ). ends_of (pairs_of a b) (pair_at cur n)) here) o
    (subst (λ (n : ℕ). (whole : List Reached) → AreCapped t.limit (reached_in t) whole → AreCapped t.limit (reached_in new) (with_all_reached whole (next_reached (pairs_of a b) (reached_at t n)))) here put) pushed
