-- The law of covers. A list of set pairs that holds the first one, and with each that shows no difference its next ones, and that
-- is no longer than a limit: where none of the first ones shows a difference, the search stays in the list and ends, so it has
-- found all that a word leads to. Hence, where a word leads to a difference, one of the first ones shows one.
use Rattle.std.proofs.Common.{◌≡◌, ◌∙◌, ℕ, zero, suc, ◌<◌, ◌≤◌, ◌⊎◌, inl, inr, List, [], ◌∷◌, ◌++◌, length, get_or, slice_get, Option, None, Some, All, Any, Contains, Bool, true, false, cond, refl, sym, ap, subst, arith}
use Rattle.std.specs.List.{list_any}
use Rattle.std.specs.Str.{bytes_eq}
use Rattle.std.proofs.lemmas.Bool.{both_ways, cases_lt, and_parts, and_from, or_cases, false≢true, false_from_ne_true}
use Rattle.std.proofs.lemmas.List.{length_push, get_or_append_left, get_or_push, take_all}
use Rattle.std.proofs.lemmas.List.Elements.{All-nil, All-cons, All-head, All-tail, All-push, All-contains, All-take, All-weaker}
use Rattle.std.proofs.lemmas.List.Folds.{Any-from_list_any, list_any_at}
use Rattle.std.proofs.lemmas.Option.{slice_get_within, get_or_from_slice_get}
use Rattle.std.proofs.lemmas.Slice.Eq.{bytes_eq-Decides}
use Rattle.rl_prio.proofs.KindLemmas.{pigeonholes}
use Rattle.rl_sets.proofs.WalkLemmas.{get_kept}
use Rattle.rl_equiv.specs.declared.pair.SetPair.{SetPair}
use Rattle.rl_equiv.specs.SetPairs.{first_pair, SetPairs, differs}
use Rattle.rl_equiv.specs.Numbering.{same_pair, with_one, with_more, looked_at, found_after, first_ones, NoneDiffers, Reads}
use Rattle.rl_equiv.proofs.RunLaws.{found-zero, found-extends, get-taken}
use Rattle.rl_equiv.proofs.WordLaws.{all-found}
use Rattle.rl_trim.specs.declared.judgement.Judgement.TheVariants.{Equal}
use Rattle.rl_trim.specs.Judged.{IsFound}
use Rattle.rl_trim.proofs.OrderLaws.{found-fit}

-- ---- a set pair is the same as itself alone

same-itself : (p : SetPair) → same_pair p p ≡ true
same-itself p = and_from (bytes_eq p.first p.first) (bytes_eq p.second p.second) ((bytes_eq-Decides p.first p.first).1 refl) ((bytes_eq-Decides p.second p.second).1 refl)

same-one : (p q : SetPair) → same_pair p q ≡ true → p ≡ q
same-one p q e =
    let x = and_parts (bytes_eq p.first q.first) (bytes_eq p.second q.second) e in
    let f = (bytes_eq-Decides p.first q.first).0 x.0 in
    let g = (bytes_eq-Decides p.second q.second).0 x.1 in
    λ i. record { first = f i; second = g i }

found-step : (d : SetPairs) (k : ℕ) → found_after d (suc k) ≡ looked_at d (found_after d k) (slice_get (found_after d k) k)
unfolding found_after
found-step d k = refl

-- ---- found set pairs are in a list

module _ (P : SetPair → Type 0) where
  one-each : (found : List SetPair) (p : SetPair) → All P found → P p → All P (with_one found p)
  one-each found p each here = by (list_any (same_pair p) found)
    where
      by : (b : Bool) → All P (cond b found (found ++ p ∷ []))
      by true = each
      by false = All-push P found p each here

  more-each : (found ps : List SetPair) → All P found → All P ps → All P (with_more found ps)
  more-each found [] each next = each
  more-each found (p ∷ ps) each next = more-each (with_one found p) ps (one-each found p each (All-head P p ps next)) (All-tail P p ps next)

-- ---- found set pairs are different from one another

abbrev AreApart : List SetPair → Type 0
AreApart found = (i j : ℕ) → i < j → j < length found → get_or found i first_pair ≡ get_or found j first_pair → ⊥

one-apart : (found : List SetPair) (p : SetPair) → AreApart found → AreApart (with_one found p)
one-apart found p apart = by (list_any (same_pair p) found) refl
  where
    by : (b : Bool) → list_any (same_pair p) found ≡ b → AreApart (cond b found (found ++ p ∷ []))
    by true e i j lt in' same = apart i j lt in' same
    by false e i j lt in' same =
        let early : i < length found = omega (arith, length_push found p) in
        let first = get_or_append_left found (p ∷ []) first_pair i early in
        elim (cases_lt j (length found)) [
          | inl less ↦ apart i j lt less (sym first ∙ same ∙ get_or_append_left found (p ∷ []) first_pair j less)
          | inr more ↦
              let is : p ≡ get_or found i first_pair = sym (get_or_push found p first_pair j (omega (arith, length_push found p))) ∙ sym same ∙ first in
              both_ways (list_any (same_pair p) found) e (list_any_at (same_pair p) found i first_pair early (subst (λ (q : SetPair). same_pair p q ≡ true) is (same-itself p)))
        ]

more-apart : (found ps : List SetPair) → AreApart found → AreApart (with_more found ps)
more-apart found [] apart = apart
more-apart found (p ∷ ps) apart = more-apart (with_one found p) ps (one-apart found p apart)

looked-apart : (d : SetPairs) (found : List SetPair) (o : Option SetPair) → AreApart found → AreApart (looked_at d found o)
looked-apart d found None apart = apart
looked-apart d found (Some p) apart = more-apart found (d.nexts p) apart

found-apart : (d : SetPairs) (k : ℕ) → AreApart (found_after d k)
found-apart d zero = subst AreApart (sym (found-zero d)) (λ i j lt in' same. absurd (omega arith))
found-apart d (suc k) = subst AreApart (sym (found-step d k)) (looked-apart d (found_after d k) (slice_get (found_after d k) k) (found-apart d k))

-- ---- different set pairs of a list are no more than it has

-- Where a set pair stands in a list.
abbrev spot : List SetPair → SetPair → ℕ
spot [] p = 0
spot (q ∷ l) p = cond (same_pair p q) 0 (suc (spot l p))

spot-is : (l : List SetPair) (p : SetPair) → list_any (same_pair p) l ≡ true → (spot l p < length l) × (get_or l (spot l p) first_pair ≡ p)
spot-is [] p e = absurd (false≢true e)
spot-is (q ∷ l) p e = by (same_pair p q) refl (spot-is l p)
  where
    by : (b : Bool) → same_pair p q ≡ b → (list_any (same_pair p) l ≡ true → (spot l p < length l) × (get_or l (spot l p) first_pair ≡ p))
        → (cond b 0 (suc (spot l p)) < suc (length l)) × (get_or (q ∷ l) (cond b 0 (suc (spot l p))) first_pair ≡ p)
    by true h later = (omega arith, sym (same-one p q h))
    by false h later = elim (or_cases (same_pair p q) (list_any (same_pair p) l) e) [
      | inl here ↦ absurd (both_ways (same_pair p q) h here)
      | inr there ↦ let r = later there in (omega (arith, r.0), r.1)
    ]

in-any : (l : List SetPair) (p : SetPair) → Contains l p → list_any (same_pair p) l ≡ true
in-any l p c = list_any_at (same_pair p) l c.0 p c.1 (subst (λ (q : SetPair). same_pair p q ≡ true) (sym c.2) (same-itself p))

few-apart : (cover found : List SetPair) → AreApart found → All (Contains cover) found → length found ≤ length cover
few-apart cover found apart each =
    let at = λ (i : ℕ). get_or found i first_pair in
    let is : (i : ℕ) → i < length found → (spot cover (at i) < length cover) × (get_or cover (spot cover (at i)) first_pair ≡ at i) = λ i lt. spot-is cover (at i) (in-any cover (at i) (each i first_pair lt)) in
    pigeonholes (length cover) (λ i. spot cover (at i)) (length found) (λ i lt. (is i lt).0)
    (λ i j lt in' e. apart i j lt in' (sym (is i (omega arith)).1 ∙ ap (λ (n : ℕ). get_or cover n first_pair) e ∙ (is j in').1))

-- ---- the search stays in a cover

module _ (d : SetPairs) (limit : ℕ) (cover : List SetPair) (first_in : Contains cover first_pair)
    (covered : All (λ p. (differs d p ≡ true) ⊎ All (Contains cover) (d.nexts p)) cover) (none : NoneDiffers d limit) where
  looked-in : (k : ℕ) → k < limit → All (Contains cover) (found_after d k) → (o : Option SetPair) → slice_get (found_after d k) k ≡ o → All (Contains cover) (looked_at d (found_after d k) o)
  looked-in k lt each None e = each
  looked-in k lt each (Some p) e =
      let found = found_after d k in
      let firsts = first_ones d limit in
      let x = found-extends d k limit (omega arith) in
      let far : slice_get (found_after d limit) k ≡ Some p = ap (λ (l : List SetPair). slice_get l k) x.1 ∙ get_kept found x.0 k p e in
      let taken : slice_get firsts k ≡ Some p = get-taken (found_after d limit) limit k p lt far in
      let same : differs d p ≡ false = subst (λ (q : SetPair). differs d q ≡ false) (get_or_from_slice_get firsts k p first_pair taken) (none k first_pair (slice_get_within firsts k p taken)) in
      let in' : Contains cover p = subst (Contains cover) (get_or_from_slice_get found k p first_pair e) (each k first_pair (slice_get_within found k p e)) in
      elim (All-contains (λ q. (differs d q ≡ true) ⊎ All (Contains cover) (d.nexts q)) cover p covered in') [
        | inl apart ↦ absurd (both_ways (differs d p) same apart)
        | inr next ↦ more-each (Contains cover) found (d.nexts p) each next
      ]

  found-in : (k : ℕ) → k ≤ limit → All (Contains cover) (found_after d k)
  found-in zero le = subst (All (Contains cover)) (sym (found-zero d)) (All-cons (Contains cover) first_pair [] first_in (All-nil (Contains cover)))
  found-in (suc k) le = subst (All (Contains cover)) (sym (found-step d k)) (looked-in k (omega arith) (found-in k (omega arith)) (slice_get (found_after d k) k) refl)

  found-few : length cover ≤ limit → length (found_after d limit) ≤ limit
  found-few few = omega (arith, few, few-apart cover (found_after d limit) (found-apart d limit) (found-in limit (omega arith)))

-- Where none of the first ones shows a difference, no word leads to one.
cover-same : (d : SetPairs) (limit : ℕ) (cover : List SetPair) → length cover ≤ limit → Contains cover first_pair
    → All (λ p. (differs d p ≡ true) ⊎ All (Contains cover) (d.nexts p)) cover → NoneDiffers d limit
    → (q : SetPair) (word : List ℕ) → Reads d first_pair word q → differs d q ≡ false
cover-same d limit cover few first_in covered none q word reads =
    let found = found_after d limit in
    let short = found-few d limit cover first_in covered none few in
    All-contains (λ p. differs d p ≡ false) found q (subst (All (λ p. differs d p ≡ false)) (take_all limit found short) none)
    (all-found d limit short word q reads)

pub cover_apart : (d : SetPairs) (limit : ℕ) (cover : List SetPair) → length cover ≤ limit → Contains cover first_pair
    → All (λ p. (differs d p ≡ true) ⊎ All (Contains cover) (d.nexts p)) cover
    → (q : SetPair) (word : List ℕ) → Reads d first_pair word q → differs d q ≡ true → Any (λ p. differs d p ≡ true) (first_ones d limit)
cover_apart d limit cover few first_in covered q word reads apart = by (list_any (differs d) (first_ones d limit)) refl
  where
    by : (b : Bool) → list_any (differs d) (first_ones d limit) ≡ b → Any (λ p. differs d p ≡ true) (first_ones d limit)
    by true e = Any-from_list_any (differs d) (first_ones d limit) e
    by false e =
        let firsts = first_ones d limit in
        let none : NoneDiffers d limit = λ k x lt. false_from_ne_true (differs d (get_or firsts k x)) (λ h. both_ways (list_any (differs d) firsts) e (list_any_at (differs d) firsts k x lt h)) in
        absurd (both_ways (differs d q) (cover-same d limit cover few first_in covered none q word reads) apart)

-- Where the list holds the next ones of each, and none shows a difference, the first ones are all.
pub cover_equal : (d : SetPairs) (limit : ℕ) (cover : List SetPair) → length cover ≤ limit → Contains cover first_pair
    → All (λ p. (differs d p ≡ false) × All (Contains cover) (d.nexts p)) cover → IsFound d limit Equal
cover_equal d limit cover few first_in calm =
    let kept : (p : SetPair) → Contains cover p → (differs d p ≡ false) × All (Contains cover) (d.nexts p) =
    λ p. All-contains (λ q. (differs d q ≡ false) × All (Contains cover) (d.nexts q)) cover p calm in
    let each : All (Contains cover) (found_after d limit) = found-fit d (Contains cover) first_in (λ p c. (kept p c).1) limit in (
      omega (arith, few, few-apart cover (found_after d limit) (found-apart d limit) each),
      All-take (λ p. differs d p ≡ false) limit (found_after d limit) (All-weaker (Contains cover) (λ p. differs d p ≡ false) (λ p c. (kept p c).0) (found_after d limit) each),
    )
