-- Laws of the whole search: what its answers say about the order of set pairs.
use Rattle.std.proofs.Common.{◌≡◌, ◌∙◌, ℕ, zero, suc, ◌+◌, ◌<◌, ◌≤◌, inl, inr, List, [], ◌∷◌, ◌++◌, length, get_or, take, slice_get, Option, Some, None, All, Contains, Bool, true, false, cond, nat_lt, refl, sym, ap, subst, arith, append_assoc}
use Rattle.std.specs.List.{list_any}
use Rattle.std.specs.Str.{bytes_eq}
use Rattle.std.proofs.lemmas.Bool.{cases_lt, lt-ltb, and_parts, and_from}
use Rattle.std.proofs.lemmas.List.{length-append, append-nil, take-append-le, take_all, length-take, get_or_default}
use Rattle.std.proofs.lemmas.List.Elements.{All-nil, All-cons, All-more, All-weaker, Contains-append_left, Contains-push}
use Rattle.std.proofs.lemmas.List.Folds.{Any-from_list_any}
use Rattle.std.proofs.lemmas.Option.{slice_get_past, slice_get-get_or, get_or_from_slice_get}
use Rattle.std.proofs.lemmas.Slice.Eq.{bytes_eq-Decides}
use Rattle.rl_prio.specs.Automaton.{Automaton, letters_count, accepting_state}
use Rattle.rl_sets.specs.Live.{image}
use Rattle.rl_sets.proofs.WalkLemmas.{get_kept}
use Rattle.rl_equiv.specs.declared.pair.SetPair.{SetPair}
use Rattle.rl_equiv.specs.SetPairs.{first_pair, SetPairs, differs, IsKept, IsClosed}
use Rattle.rl_equiv.specs.Numbering.{same_pair, with_one, with_more, looked_at, found_after, AreAll, AreMore}
use Rattle.rl_equiv.specs.internal.Machines.{pair_on, all_proper, pairs_of}
use Rattle.rl_equiv.specs.internal.Searching.{AreReaders, State, pairs_in, pair_at, way_at, IsSearch, AreCapped}
use Rattle.rl_equiv.proofs.RiseLaws.{rises-cons}
use Rattle.rl_equiv.proofs.SearchLaws.{more-grows, pairs-length, pairs-get}

-- ---- the order of set pairs

pub found-zero : (d : SetPairs) → found_after d 0 ≡ first_pair ∷ []
unfolding found_after
found-zero d = refl

found-next : (d : SetPairs) (k : ℕ) → found_after d (suc k) ≡ looked_at d (found_after d k) (slice_get (found_after d k) k)
unfolding found_after
found-next d k = refl

looked-grows : (d : SetPairs) (found : List SetPair) (o : Option SetPair) → (more : List SetPair) × (looked_at d found o ≡ found ++ more)
looked-grows d found None = ([], sym (append-nil found))
looked-grows d found (Some p) = more-grows found (d.nexts p)

pub found-extends : (d : SetPairs) (k j : ℕ) → k ≤ j → (more : List SetPair) × (found_after d j ≡ found_after d k ++ more)
found-extends d k zero le = let e : zero ≡ k = omega arith in ([], ap (found_after d) e ∙ sym (append-nil (found_after d k)))
found-extends d k (suc j) le =
    elim (cases_lt j k) [
      | inl lt ↦ let e : suc j ≡ k = omega arith in ([], ap (found_after d) e ∙ sym (append-nil (found_after d k)))
      | inr ge ↦
          let x = found-extends d k j ge in
          let y = looked-grows d (found_after d j) (slice_get (found_after d j) j) in
          (x.0 ++ y.0, found-next d j ∙ y.1 ∙ ap (λ (l : List SetPair). l ++ y.0) x.1 ∙ append_assoc (found_after d k) x.0 y.0)
    ]

-- Once all were looked at, no more are found.
pub found-steady : (d : SetPairs) (k j : ℕ) → length (found_after d k) ≤ k → k ≤ j → found_after d j ≡ found_after d k
found-steady d k zero all le = let e : zero ≡ k = omega arith in ap (found_after d) e
found-steady d k (suc j) all le =
    elim (cases_lt j k) [
      | inl lt ↦ let e : suc j ≡ k = omega arith in ap (found_after d) e
      | inr ge ↦
          let x = found-steady d k j all ge in
          let none : slice_get (found_after d j) j ≡ None = slice_get_past (found_after d j) j (omega (arith, ap length x)) in
          found-next d j ∙ ap (looked_at d (found_after d j)) none ∙ x
    ]

pub found-looked : (d : SetPairs) (k : ℕ) (p : SetPair) → slice_get (found_after d k) k ≡ Some p → found_after d (suc k) ≡ with_more (found_after d k) (d.nexts p)
found-looked d k p e = found-next d k ∙ ap (looked_at d (found_after d k)) e

-- ---- what was appended is there

pub one-holds : (found : List SetPair) (p : SetPair) → Contains (with_one found p) p
one-holds found p = by (list_any (same_pair p) found) refl
  where
    by : (b : Bool) → list_any (same_pair p) found ≡ b → Contains (cond b found (found ++ p ∷ [])) p
    by true e =
        let h = Any-from_list_any (same_pair p) found e in
        let x = and_parts (bytes_eq p.first (h.1).first) (bytes_eq p.second (h.1).second) h.4 in
        let f = (bytes_eq-Decides p.first (h.1).first).0 x.0 in
        let g = (bytes_eq-Decides p.second (h.1).second).0 x.1 in
        let same : h.1 ≡ p = λ i. record { first = sym f i; second = sym g i } in
        subst (Contains found) same (h.0, h.2, h.3)
    by false e = Contains-push found p

pub grown-holds : (found whole : List SetPair) (p : SetPair) → (more : List SetPair) × (whole ≡ found ++ more) → Contains found p → Contains whole p
grown-holds found whole p g c = subst (λ (l : List SetPair). Contains l p) (sym g.1) (Contains-append_left found g.0 p c)

more-holds : (found ps : List SetPair) → All (Contains (with_more found ps)) ps
more-holds found [] = All-nil (Contains found)
more-holds found (p ∷ ps) =
    All-cons (Contains (with_more (with_one found p) ps)) p ps
    (grown-holds (with_one found p) (with_more (with_one found p) ps) p (more-grows (with_one found p) ps) (one-holds found p))
    (more-holds (with_one found p) ps)

-- ---- what holds of the first ones

all-taken : (P : SetPair → Type 0) (l : List SetPair) (n : ℕ) → n ≤ length l → ((k : ℕ) → k < n → P (get_or l k first_pair)) → All P (take n l)
all-taken P l zero le each = λ k d lt. absurd (omega (arith, length-take 0 l, lt))
all-taken P l (suc n) le each =
    let one : n + 1 ≡ suc n = omega arith in
    subst (λ (m : ℕ). All P (take m l)) one (All-more P l n first_pair (omega arith) (all-taken P l n (omega arith) (λ k lt. each k (omega arith))) (each n (omega arith)))

pub get-taken : (l : List SetPair) (n k : ℕ) (p : SetPair) → k < n → slice_get l k ≡ Some p → slice_get (take n l) k ≡ Some p
get-taken [] n k p lt e = cc
get-taken (x ∷ l) zero k p lt e = absurd (omega arith)
get-taken (x ∷ l) (suc n) zero p lt e = e
get-taken (x ∷ l) (suc n) (suc k) p lt e = get-taken l n k p (omega arith) e

capped-take : (limit : ℕ) (found whole : List SetPair) (n : ℕ) → AreCapped limit found whole → n ≤ length found → take n whole ≡ take n found
capped-take limit found whole n (inl e) le = ap (take n) (sym e)
capped-take limit found whole n (inr h) le = ap (take n) h.1.1 ∙ take-append-le n found h.1.0 le

capped-longer : (limit : ℕ) (found whole : List SetPair) → AreCapped limit found whole → length found ≤ length whole
capped-longer limit found whole (inl e) = omega (arith, ap length e)
capped-longer limit found whole (inr h) = omega (arith, ap length h.1.1, length-append found h.1.0)

-- ---- the search

-- The first set pairs, up to a place, were looked at, and none of them differs.
pub record IsRunning (a b : Automaton) (old cur : State) (place : ℕ) : Type 0 where
  pub search : IsSearch a b cur
  pub limit_is : cur.limit ≡ old.limit
  pub place_in : place ≤ cur.limit
  pub capped : AreCapped cur.limit (pairs_in cur) (found_after (pairs_of a b) place)
  pub found : place ≤ length cur.keys
  pub none : (k : ℕ) → k < place → differs (pairs_of a b) (pair_at cur k) ≡ false

-- More set pairs are reached than the limit allows.
pub running-exceeded : (a b : Automaton) (old cur : State) (place : ℕ) → IsRunning a b old cur place → place < length cur.keys → place ≡ cur.limit → AreMore (pairs_of a b) old.limit
running-exceeded a b old cur place r lt e =
    let d = pairs_of a b in
    let F = pairs_in cur in
    let here : place ≡ old.limit = e ∙ r.limit_is in
    subst (λ (n : ℕ). AreMore d n) here (record {
      more = omega (arith, capped-longer cur.limit F (found_after d place) r.capped, pairs-length cur);
      none_differs = subst (All (λ p. differs d p ≡ false)) (sym (capped-take cur.limit F (found_after d place) place r.capped (omega (arith, pairs-length cur))))
          (all-taken (λ p. differs d p ≡ false) F place (omega (arith, pairs-length cur)) (λ k small. ap (differs d) (pairs-get cur k (omega arith)) ∙ r.none k small));
    })

-- Each set pair that is found is proper.
pub first-proper' : (a b : Automaton) → AreReaders a b → (pairs_of a b).proper first_pair ≡ true
unfolding pairs_of
first-proper' a b readers =
    and_from (all_proper a (0 ∷ [])) (all_proper b (0 ∷ []))
    (rises-cons 0 (accepting_state a) 0 [] (omega arith) (omega (arith, readers.first_reads.whole.three_states)) refl)
    (rises-cons 0 (accepting_state b) 0 [] (omega arith) (omega (arith, readers.second_reads.whole.three_states)) refl)

pub next-proper : (a b : Automaton) → AreReaders a b → (p : SetPair) (letter : ℕ) → letter < letters_count a → (pairs_of a b).proper (pair_on a b p letter) ≡ true
unfolding pairs_of
next-proper a b readers p letter lt =
    and_from (all_proper a (image a p.first letter)) (all_proper b (image b p.second letter)) (readers.first_reads.on_letters p.first letter lt) (readers.second_reads.on_letters p.second letter (omega (arith, readers.same_letters)))

pub found-proper : (a b : Automaton) (s : State) → AreReaders a b → IsSearch a b s → (k : ℕ) → k < length s.keys → (pairs_of a b).proper (pair_at s k) ≡ true
found-proper a b s readers search zero lt = ap (pairs_of a b).proper search.start ∙ first-proper' a b readers
found-proper a b s readers search (suc k) lt =
    let n = search.ways (suc k) (omega arith) lt in
    ap (pairs_of a b).proper n.is ∙ next-proper a b readers (pair_at s (way_at s (suc k)).parent) (way_at s (suc k)).letter n.small

-- Once all were looked at, the next set pairs of each are found.
pub found-nexts : (d : SetPairs) (F : List SetPair) (place k : ℕ) → F ≡ found_after d place → k < length F → length F ≤ place → All (Contains F) (d.nexts (get_or F k first_pair))
found-nexts d F place k e lt le =
    let early : k < length (found_after d k) = elim (cases_lt k (length (found_after d k))) [
      | inl less ↦ less
      | inr more ↦ absurd (omega (arith, ap length (found-steady d k place more (omega arith)), ap length e, lt, more))
    ] in
    let x = found-extends d k place (omega arith) in
    let q = get_or (found_after d k) k first_pair in
    let there : slice_get (found_after d k) k ≡ Some q = slice_get-get_or (found_after d k) k first_pair early in
    let far : slice_get F k ≡ Some q = ap (λ (l : List SetPair). slice_get l k) (e ∙ x.1) ∙ get_kept (found_after d k) x.0 k q there in
    let same : q ≡ get_or F k first_pair = sym (get_or_from_slice_get F k q first_pair far) in
    let y = found-extends d (suc k) place (omega arith) in
    let in_next : All (Contains (found_after d (suc k))) (d.nexts q) = subst (λ (l : List SetPair). All (Contains l) (d.nexts q)) (sym (found-looked d k q there)) (more-holds (found_after d k) (d.nexts q)) in
    subst (λ (p : SetPair). All (Contains F) (d.nexts p)) same
    (All-weaker (Contains (found_after d (suc k))) (Contains F) (λ p c. grown-holds (found_after d (suc k)) F p (y.0, e ∙ y.1) c) (d.nexts q) in_next)

get-any : (s : State) (k : ℕ) (x : SetPair) → k < length (pairs_in s) → get_or (pairs_in s) k x ≡ pair_at s k
get-any s k x lt = get_or_default (pairs_in s) k x first_pair lt ∙ pairs-get s k (omega (arith, pairs-length s))

-- All set pairs are found.
pub found-closed : (a b : Automaton) (cur : State) (place : ℕ) → AreReaders a b → IsSearch a b cur → pairs_in cur ≡ found_after (pairs_of a b) place → length cur.keys ≤ place
    → ((k : ℕ) → k < length cur.keys → differs (pairs_of a b) (pair_at cur k) ≡ false) → IsClosed (pairs_of a b) (pairs_in cur)
found-closed a b cur place readers search e le none = record {
  first_in = (0, omega (arith, pairs-length cur, search.some), pairs-get cur 0 search.some ∙ search.start);
  kept = λ k x lt.
      let small : k < length cur.keys = omega (arith, pairs-length cur) in
      subst (IsKept (pairs_of a b) (pairs_in cur)) (sym (get-any cur k x lt)) (record {
        is_proper = found-proper a b cur readers search k small;
        no_difference = none k small;
        nexts_in = subst (λ (p : SetPair). All (Contains (pairs_in cur)) ((pairs_of a b).nexts p)) (pairs-get cur k small)
            (found-nexts (pairs_of a b) (pairs_in cur) place k e lt (omega (arith, pairs-length cur)));
      });
}

pub running-all : (a b : Automaton) (old cur : State) (place : ℕ) (relation : List SetPair) → AreReaders a b → IsRunning a b old cur place → length cur.keys ≤ place → relation ≡ pairs_in cur → AreAll (pairs_of a b) old.limit relation
running-all a b old cur place relation readers r all is = by r.capped
  where
    by : AreCapped cur.limit (pairs_in cur) (found_after (pairs_of a b) place) → AreAll (pairs_of a b) old.limit relation
    by (inr h) = absurd (omega (arith, h.0, pairs-length cur, r.place_in))
    by (inl e) =
        let d = pairs_of a b in
        let F = pairs_in cur in
        let few : length (found_after d place) ≤ place = omega (arith, ap length e, pairs-length cur) in
        let steady : found_after d old.limit ≡ found_after d place = found-steady d place old.limit few (omega (arith, r.place_in, r.limit_is)) in
        let whole : F ≡ found_after d old.limit = e ∙ sym steady in
        let short : length (found_after d old.limit) ≤ old.limit = omega (arith, ap length whole, pairs-length cur, r.place_in, r.limit_is) in
        let none : All (λ p. differs d p ≡ false) F = λ k x lt. ap (differs d) (get-any cur k x lt) ∙ r.none k (omega (arith, pairs-length cur)) in
        record {
          all = is ∙ whole;
          few = short;
          none_differs = subst (All (λ p. differs d p ≡ false)) (whole ∙ sym (take_all old.limit (found_after d old.limit) short)) none;
          closed = subst (IsClosed d) (sym is) (found-closed a b cur place readers r.search e all (λ k lt. r.none k (omega arith)));
        }
