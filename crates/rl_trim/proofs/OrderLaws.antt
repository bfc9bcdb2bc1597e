-- Orders that are one. Where a map carries the first set pair and the next ones of one search to those of another, and keeps what
-- is found apart, it carries the order of the first search to that of the second.
use Rattle.std.proofs.Common.{◌≡◌, ◌∙◌, ℕ, zero, suc, ◌≤◌, List, [], ◌∷◌, ◌++◌, length, get_or, map, take, slice_get, Option, None, Some, All, Any, Contains, Bool, true, false, ◌||◌, cond, refl, sym, ap, ap₂, subst, arith}
use Rattle.std.specs.List.{list_any}
use Rattle.std.specs.Option.{option_map}
use Rattle.std.specs.Str.{bytes_eq}
use Rattle.std.proofs.lemmas.Bool.{and_parts, and_from}
use Rattle.std.proofs.lemmas.List.{map-append, length-map, get_or-map, get_or_default, take-map, take_all}
use Rattle.std.proofs.lemmas.List.Elements.{All-nil, All-cons, All-head, All-tail, All-push, All-take, All-map, Contains-append_left}
use Rattle.std.proofs.lemmas.Option.{slice_get_within, get_or_from_slice_get, slice_get-map}
use Rattle.std.proofs.lemmas.Slice.Eq.{bytes_eq-Decides}
use Rattle.rl_sets.proofs.SetLemmas.{same_tests}
use Rattle.rl_equiv.specs.declared.pair.SetPair.{SetPair}
use Rattle.rl_equiv.specs.SetPairs.{first_pair, SetPairs, differs}
use Rattle.rl_equiv.specs.Numbering.{same_pair, with_one, with_more, looked_at, found_after, first_ones, NoneDiffers, AreAll}
use Rattle.rl_equiv.proofs.RunLaws.{found-zero, found-extends, found-nexts}

-- ---- set pairs that are the same

pub same-pairs : (p q : SetPair) → p ≡ q → same_pair p q ≡ true
same-pairs p q e =
    and_from (bytes_eq p.first q.first) (bytes_eq p.second q.second)
    ((bytes_eq-Decides p.first q.first).1 (ap (λ (r : SetPair). r.first) e))
    ((bytes_eq-Decides p.second q.second).1 (ap (λ (r : SetPair). r.second) e))

pub one-pair : (p q : SetPair) → same_pair p q ≡ true → p ≡ q
one-pair p q e =
    let x = and_parts (bytes_eq p.first q.first) (bytes_eq p.second q.second) e in
    let f = (bytes_eq-Decides p.first q.first).0 x.0 in
    let g = (bytes_eq-Decides p.second q.second).0 x.1 in
    λ i. record { first = f i; second = g i }

found-next : (d : SetPairs) (k : ℕ) → found_after d (suc k) ≡ looked_at d (found_after d k) (slice_get (found_after d k) k)
unfolding found_after
found-next d k = refl

-- ---- what holds of each that is found

module _ (d : SetPairs) (P : SetPair → Type 0) where
  one-fits : (found : List SetPair) (p : SetPair) → All P found → P p → All P (with_one found p)
  one-fits found p each here = by (list_any (same_pair p) found)
    where
      by : (b : Bool) → All P (cond b found (found ++ p ∷ []))
      by true = each
      by false = All-push P found p each here

  more-fit : (found ps : List SetPair) → All P found → All P ps → All P (with_more found ps)
  more-fit found [] each next = each
  more-fit found (p ∷ ps) each next = more-fit (with_one found p) ps (one-fits found p each (All-head P p ps next)) (All-tail P p ps next)

  module _ (first : P first_pair) (stays : (p : SetPair) → P p → All P (d.nexts p)) where
    looked-fit : (found : List SetPair) (k : ℕ) (o : Option SetPair) → slice_get found k ≡ o → All P found → All P (looked_at d found o)
    looked-fit found k None e each = each
    looked-fit found k (Some p) e each =
        let here : P p = subst P (get_or_from_slice_get found k p first_pair e) (each k first_pair (slice_get_within found k p e)) in
        more-fit found (d.nexts p) each (stays p here)

    pub found-fit : (k : ℕ) → All P (found_after d k)
    found-fit zero = subst (All P) (sym (found-zero d)) (All-cons P first_pair [] first (All-nil P))
    found-fit (suc k) = subst (All P) (sym (found-next d k)) (looked-fit (found_after d k) k (slice_get (found_after d k) k) refl (found-fit k))

-- ---- the order of one search is that of another

module _ (d e : SetPairs) (P : SetPair → Type 0) (f : SetPair → SetPair)
    (start : f first_pair ≡ first_pair) (first : P first_pair)
    (stays : (p : SetPair) → P p → All P (d.nexts p))
    (onward : (p : SetPair) → P p → map f (d.nexts p) ≡ e.nexts (f p))
    (one : (p q : SetPair) → P p → P q → f p ≡ f q → p ≡ q) where
  same-mapped : (p q : SetPair) → P p → P q → same_pair (f p) (f q) ≡ same_pair p q
  same-mapped p q x y =
      same_tests (same_pair (f p) (f q)) (same_pair p q)
      (λ h. same-pairs p q (one p q x y (one-pair (f p) (f q) h)))
      (λ h. same-pairs (f p) (f q) (ap f (one-pair p q h)))

  any-mapped : (found : List SetPair) (p : SetPair) → All P found → P p → list_any (same_pair (f p)) (map f found) ≡ list_any (same_pair p) found
  any-mapped [] p each here = refl
  any-mapped (q ∷ found) p each here = ap₂ (λ x y. x || y) (same-mapped p q here (All-head P q found each)) (any-mapped found p (All-tail P q found each) here)

  one-mapped : (found : List SetPair) (p : SetPair) → All P found → P p → map f (with_one found p) ≡ with_one (map f found) (f p)
  one-mapped found p each here =
      by (list_any (same_pair p) found) ∙ ap (λ (b : Bool). cond b (map f found) (map f found ++ f p ∷ [])) (sym (any-mapped found p each here))
    where
      by : (b : Bool) → map f (cond b found (found ++ p ∷ [])) ≡ cond b (map f found) (map f found ++ f p ∷ [])
      by true = refl
      by false = map-append f found (p ∷ [])

  more-mapped : (found ps : List SetPair) → All P found → All P ps → map f (with_more found ps) ≡ with_more (map f found) (map f ps)
  more-mapped found [] each next = refl
  more-mapped found (p ∷ ps) each next =
      let here = All-head P p ps next in
      more-mapped (with_one found p) ps (one-fits d P found p each here) (All-tail P p ps next)
      ∙ ap (λ (l : List SetPair). with_more l (map f ps)) (one-mapped found p each here)

  looked-mapped : (found : List SetPair) (k : ℕ) (o : Option SetPair) → slice_get found k ≡ o → All P found
      → map f (looked_at d found o) ≡ looked_at e (map f found) (option_map f o)
  looked-mapped found k None h each = refl
  looked-mapped found k (Some p) h each =
      let here : P p = subst P (get_or_from_slice_get found k p first_pair h) (each k first_pair (slice_get_within found k p h)) in
      more-mapped found (d.nexts p) each (stays p here)
      ∙ ap (with_more (map f found)) (onward p here)

  -- The order is carried along.
  pub order-same : (k : ℕ) → map f (found_after d k) ≡ found_after e k
  order-same zero =
      ap (map f) (found-zero d) ∙ ap (λ (p : SetPair). p ∷ []) start ∙ sym (found-zero e)
  order-same (suc k) =
      let found = found_after d k in
      ap (map f) (found-next d k)
      ∙ looked-mapped found k (slice_get found k) refl (found-fit d P first stays k)
      ∙ ap (looked_at e (map f found)) (sym (slice_get-map f found k))
      ∙ ap (λ (l : List SetPair). looked_at e l (slice_get l k)) (order-same k)
      ∙ sym (found-next e k)

  pub order-length : (k : ℕ) → length (found_after e k) ≡ length (found_after d k)
  order-length k = ap length (sym (order-same k)) ∙ length-map (found_after d k) f

  pub order-first : (limit : ℕ) → map f (first_ones d limit) ≡ first_ones e limit
  order-first limit = sym (take-map f limit (found_after d limit)) ∙ ap (take limit) (order-same limit)

  first-fit : (limit : ℕ) → All P (first_ones d limit)
  first-fit limit = All-take P limit (found_after d limit) (found-fit d P first stays limit)

  -- And so are the set pairs that show a difference.
  module _ (alike : (p : SetPair) → P p → differs d p ≡ differs e (f p)) where
    pub none-same : (limit : ℕ) → NoneDiffers d limit → NoneDiffers e limit
    none-same limit none =
        subst (All (λ p. differs e p ≡ false)) (order-first limit)
        (All-map (λ p. differs e p ≡ false) f (first_ones d limit)
        (λ k x lt. sym (alike (get_or (first_ones d limit) k x) (first-fit limit k x lt)) ∙ none k x lt))

    pub any-same : (limit : ℕ) → Any (λ p. differs d p ≡ true) (first_ones d limit) → Any (λ p. differs e p ≡ true) (first_ones e limit)
    any-same limit h =
        let ones = first_ones d limit in
        let here : P h.1 = subst P h.3 (first-fit limit h.0 h.1 h.2) in
        subst (Any (λ p. differs e p ≡ true)) (order-first limit)
        (h.0, f h.1, omega (arith, h.2, length-map ones f), get_or-map f ones h.0 h.1 (f h.1) h.2 ∙ ap f h.3, sym (alike h.1 here) ∙ h.4)

-- ---- once all are found, they are closed

pub order-all : (d : SetPairs) (limit : ℕ) → length (found_after d limit) ≤ limit → All (λ p. d.proper p ≡ true) (found_after d limit) → NoneDiffers d limit
    → AreAll d limit (found_after d limit)
order-all d limit few proper none =
    let found = found_after d limit in
    let x = found-extends d 0 limit (omega arith) in
    let whole : found ≡ (first_pair ∷ []) ++ x.0 = x.1 ∙ ap (λ (l : List SetPair). l ++ x.0) (found-zero d) in
    let calm : All (λ p. differs d p ≡ false) found = subst (All (λ p. differs d p ≡ false)) (take_all limit found few) none in
    record {
      all = refl;
      few = few;
      none_differs = none;
      closed = record {
        first_in = subst (λ (l : List SetPair). Contains l first_pair) (sym whole) (Contains-append_left (first_pair ∷ []) x.0 first_pair (0, omega arith, refl));
        kept = λ k y lt. record {
          is_proper = proper k y lt;
          no_difference = calm k y lt;
          nexts_in = subst (λ (p : SetPair). All (Contains found) (d.nexts p)) (get_or_default found k first_pair y lt) (found-nexts d found limit k refl lt few);
        };
      };
    }
