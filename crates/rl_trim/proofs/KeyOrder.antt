-- Laws of the pairs of a trial by the numbers of their sets, in the order in which they are found.
use Rattle.std.proofs.Common.{◌≡◌, ◌∙◌, ℕ, suc, ◌+◌, ◌<◌, ◌≤◌, ◌⊎◌, inl, inr, List, [], ◌∷◌, ◌++◌, length, get_or, map, Bool, true, false, ◌||◌, cond, eqb, eqb-true, eq-eqb, refl, sym, ap, ap₂, subst, arith}
use Rattle.std.specs.List.{list_any}
use Rattle.std.proofs.lemmas.Bool.{cases_lt, and_parts, and_from, or_left, or_right}
use Rattle.std.proofs.lemmas.List.{length_push, length-append, length-map, get_or-map, get_or_push, get_or_append_left, map-append}
use Rattle.std.proofs.lemmas.List.Folds.{list_any-append}
use Rattle.rl_prio.specs.Automaton.{Automaton, letters_count}
use Rattle.rl_sets.specs.Live.{below}
use Rattle.rl_sets.specs.Walk.{Walk, set_at, IsMadeFor}
use Rattle.rl_sets.proofs.SetLemmas.{same_tests}
use Rattle.rl_equiv.specs.declared.pair.SetPair.{SetPair}
use Rattle.rl_equiv.specs.SetPairs.{first_pair, SetPairs}
use Rattle.rl_equiv.specs.Numbering.{same_pair, with_one, with_more}
use Rattle.rl_equiv.proofs.SearchLaws.{more-grows}
use Rattle.rl_trim.specs.declared.key.Key.{Key}
use Rattle.rl_trim.specs.declared.order.Arrived.{Arrived}
use Rattle.rl_trim.specs.declared.judgement.Judgement.TheVariants.{Apart}
use Rattle.rl_trim.specs.Judged.{IsFound}
use Rattle.rl_trim.specs.internal.Trims.{trim_on, trim_nexts}
use Rattle.rl_trim.specs.internal.Quick.{IsGrown, IsInside, no_key, key_at, pair_of, pair_at}
use Rattle.rl_trim.specs.internal.Orders.{key_is, with_key, pairs_in, AreKeys, AreArrived}
use Rattle.rl_trim.proofs.SetLaws.{grown-refl, grown-grown}
use Rattle.rl_trim.proofs.PairLaws.{inside-grown, pair-grown}
use Rattle.rl_equiv.specs.SetPairs.{differs}
use Rattle.rl_trim.specs.internal.Trims.{trim_differs, trim_pairs}
use Rattle.rl_trim.specs.Reached.{IsClosedTo}
use Rattle.rl_trim.proofs.OrderLaws.{same-pairs, one-pair}
use Rattle.rl_trim.proofs.TrimOrder.{trim-differs, trim-nexts}
use Rattle.rl_trim.proofs.LookLaws.{IsLooking, looking-more, looking-stay, looking-apart}

-- ---- keys and pairs

pub pairs-length : (w : Walk) (keys : List Key) → length (pairs_in w keys) ≡ length keys
pairs-length w keys = length-map keys (pair_of w)

pub pairs-get : (w : Walk) (keys : List Key) (i : ℕ) → i < length keys → get_or (pairs_in w keys) i first_pair ≡ pair_at w keys i
pairs-get w keys i lt = get_or-map (pair_of w) keys i no_key first_pair lt

pub keys-grown : (a : Automaton) (v w : Walk) (keys : List Key) → IsGrown a v w → AreKeys a v keys → AreKeys a w keys
keys-grown a v w keys g r = record { made = g.made; inside = λ i lt. inside-grown a v w (key_at keys i) g (r.inside i lt) }

each-grown : (a : Automaton) (v w : Walk) (keys : List Key) → IsGrown a v w → ((i : ℕ) → i < length keys → IsInside v (key_at keys i)) → pairs_in w keys ≡ pairs_in v keys
each-grown a v w [] g each = refl
each-grown a v w (k ∷ keys) g each =
    ap₂ (λ (p : SetPair) (ps : List SetPair). p ∷ ps) (pair-grown a v w k g (each 0 (omega arith))) (each-grown a v w keys g (λ i lt. each (suc i) (omega arith)))

pub pairs-grown : (a : Automaton) (v w : Walk) (keys : List Key) → IsGrown a v w → AreKeys a v keys → pairs_in w keys ≡ pairs_in v keys
pairs-grown a v w keys g r = each-grown a v w keys g r.inside

-- One set has one number.
number-same : (a : Automaton) (w : Walk) (m n : ℕ) → IsMadeFor w a → m < length w.sets → n < length w.sets → set_at w m ≡ set_at w n → m ≡ n
number-same a w m n made x y e = by (cases_lt m n) (cases_lt n m)
  where
    by : (m < n) ⊎ (n ≤ m) → (n < m) ⊎ (m ≤ n) → m ≡ n
    by (inl less) other = absurd (made.apart m n less y e)
    by (inr ge) (inl less) = absurd (made.apart n m less x (sym e))
    by (inr ge) (inr le) = omega arith

-- Pairs are the same exactly where their keys are.
one-same : (a : Automaton) (w : Walk) (x y : Key) → IsMadeFor w a → IsInside w x → IsInside w y → same_pair (pair_of w x) (pair_of w y) ≡ key_is x y
one-same a w x y made i j =
    same_tests (same_pair (pair_of w x) (pair_of w y)) (key_is x y)
    (λ e.
    let p = one-pair (pair_of w x) (pair_of w y) e in
    and_from (eqb x.first y.first) (eqb x.second y.second)
    (eq-eqb x.first y.first (number-same a w x.first y.first made i.first_in j.first_in (ap (λ (r : SetPair). r.first) p)))
    (eq-eqb x.second y.second (number-same a w x.second y.second made i.second_in j.second_in (ap (λ (r : SetPair). r.second) p))))
    (λ e.
    let p = and_parts (eqb x.first y.first) (eqb x.second y.second) e in
    let f = eqb-true x.first y.first p.0 in
    let g = eqb-true x.second y.second p.1 in
    same-pairs (pair_of w x) (pair_of w y) (λ k. record { first = set_at w (f k); second = set_at w (g k) }))

any-same : (a : Automaton) (w : Walk) (key : Key) (keys : List Key) → IsMadeFor w a → IsInside w key → ((i : ℕ) → i < length keys → IsInside w (key_at keys i))
    → list_any (same_pair (pair_of w key)) (pairs_in w keys) ≡ list_any (key_is key) keys
any-same a w key [] made here each = refl
any-same a w key (k ∷ keys) made here each =
    ap₂ (λ x y. x || y) (one-same a w key k made here (each 0 (omega arith))) (any-same a w key keys made here (λ i lt. each (suc i) (omega arith)))

-- ---- one more key

push-inside : (w : Walk) (keys : List Key) (key : Key) → IsInside w key → ((i : ℕ) → i < length keys → IsInside w (key_at keys i)) → (i : ℕ) → i < length (keys ++ key ∷ []) → IsInside w (key_at (keys ++ key ∷ []) i)
push-inside w keys key here each i lt = elim (cases_lt i (length keys)) [
  | inl less ↦ subst (IsInside w) (sym (get_or_append_left keys (key ∷ []) no_key i less)) (each i less)
  | inr more ↦ subst (IsInside w) (sym (get_or_push keys key no_key i (omega (arith, length_push keys key)))) here
]

put-inside : (w : Walk) (keys : List Key) (key : Key) (b : Bool) → IsInside w key → ((i : ℕ) → i < length keys → IsInside w (key_at keys i))
    → (i : ℕ) → i < length (cond b keys (keys ++ key ∷ [])) → IsInside w (key_at (cond b keys (keys ++ key ∷ [])) i)
put-inside w keys key true here each = each
put-inside w keys key false here each = push-inside w keys key here each

pub keys-put : (a : Automaton) (v w : Walk) (keys more : List Key) (key : Key) → IsGrown a v w → IsInside w key → more ≡ with_key keys key → AreKeys a v keys → AreKeys a w more
keys-put a v w keys more key g here e r =
    subst (AreKeys a w) (sym e) (record { made = g.made; inside = put-inside w keys key (list_any (key_is key) keys) here (keys-grown a v w keys g r).inside })

put-pairs : (w : Walk) (keys : List Key) (key : Key) (b : Bool) → pairs_in w (cond b keys (keys ++ key ∷ [])) ≡ cond b (pairs_in w keys) (pairs_in w keys ++ pair_of w key ∷ [])
put-pairs w keys key true = refl
put-pairs w keys key false = map-append (pair_of w) keys (key ∷ [])

pub pairs-put : (a : Automaton) (v w : Walk) (keys more : List Key) (key : Key) (p : SetPair) → IsGrown a v w → IsInside w key → pair_of w key ≡ p → more ≡ with_key keys key → AreKeys a v keys
    → pairs_in w more ≡ with_one (pairs_in v keys) p
pairs-put a v w keys more key p g here is e r =
    ap (pairs_in w) e
    ∙ put-pairs w keys key (list_any (key_is key) keys)
    ∙ ap (λ (b : Bool). cond b (pairs_in w keys) (pairs_in w keys ++ pair_of w key ∷ [])) (sym (any-same a w key keys g.made here (keys-grown a v w keys g r).inside))
    ∙ ap₂ (λ (l : List SetPair) (q : SetPair). with_one l q) (pairs-grown a v w keys g r) is

-- ---- the next pairs of one

push-more : (found ps : List SetPair) (p : SetPair) → with_more found (ps ++ p ∷ []) ≡ with_one (with_more found ps) p
push-more found [] p = refl
push-more found (q ∷ ps) p = push-more (with_one found q) ps p

one-twice : (found : List SetPair) (p : SetPair) → with_one (with_one found p) p ≡ with_one found p
one-twice found p = by (list_any (same_pair p) found) refl
  where
    by : (b : Bool) → list_any (same_pair p) found ≡ b → with_one (cond b found (found ++ p ∷ [])) p ≡ cond b found (found ++ p ∷ [])
    by true e = ap (λ (b : Bool). cond b found (found ++ p ∷ [])) e
    by false e =
        let there : list_any (same_pair p) (found ++ p ∷ []) ≡ true =
        list_any-append (same_pair p) found (p ∷ []) ∙ or_right (list_any (same_pair p) found) (same_pair p p || false) (or_left (same_pair p p) false (same-pairs p p refl)) in
        ap (λ (b : Bool). cond b (found ++ p ∷ []) ((found ++ p ∷ []) ++ p ∷ [])) there

-- A letter with the next pair of the letter before adds none.
more-skipped : (found : List SetPair) (on : ℕ → SetPair) (l : ℕ) → on l ≡ on (suc l) → with_more found (map on (below (suc l))) ≡ with_more found (map on (below (suc (suc l))))
more-skipped found on l same =
    let first = with_more found (map on (below l)) in
    let one : with_more found (map on (below (suc l))) ≡ with_one first (on l) = ap (with_more found) (map-append on (below l) (l ∷ [])) ∙ push-more found (map on (below l)) (on l) in
    let two : with_more found (map on (below (suc (suc l)))) ≡ with_one (with_more found (map on (below (suc l)))) (on (suc l)) =
    ap (with_more found) (map-append on (below (suc l)) (suc l ∷ [])) ∙ push-more found (map on (below (suc l))) (on (suc l)) in
    one
    ∙ sym (one-twice first (on l))
    ∙ ap₂ (λ (x : List SetPair) (p : SetPair). with_one x p) (sym one) same
    ∙ sym two

-- The next pairs on the first letters were put behind.
pub record IsFollowing (a : Automaton) (keep : List Bool) (v w : Walk) (keys more : List Key) (place letters : ℕ) : Type 0 where
  pub grown : IsGrown a v w
  pub are : AreKeys a w more
  pub pairs : pairs_in w more ≡ with_more (pairs_in v keys) (map (trim_on a keep (pair_at v keys place)) (below letters))

pub following-start : (a : Automaton) (keep : List Bool) (v : Walk) (keys : List Key) (place : ℕ) → AreKeys a v keys → IsFollowing a keep v v keys keys place 0
following-start a keep v keys place r = record { grown = grown-refl a v r.made; are = r; pairs = refl }

module _ (a : Automaton) (keep : List Bool) (v w : Walk) (keys more : List Key) (place letters : ℕ) (f : IsFollowing a keep v w keys more place letters) (lt : place < length keys) where
  abbrev nexts : List SetPair
  nexts = map (trim_on a keep (pair_at v keys place)) (below letters)

  pub following-longer : place < length more
  following-longer =
      let x = more-grows (pairs_in v keys) nexts in
      omega (arith, lt, ap length (f.pairs ∙ x.1), length-append (pairs_in v keys) x.0, pairs-length v keys, pairs-length w more)

  following-same : pair_at w more place ≡ pair_at v keys place
  following-same =
      let x = more-grows (pairs_in v keys) nexts in
      sym (pairs-get w more place following-longer)
      ∙ ap (λ (l : List SetPair). get_or l place first_pair) (f.pairs ∙ x.1)
      ∙ get_or_append_left (pairs_in v keys) x.0 first_pair place (omega (arith, lt, pairs-length v keys))
      ∙ pairs-get v keys place lt

  pub following-more : (x : Walk) (most : List Key) → IsGrown a w x → AreKeys a x most → pairs_in x most ≡ with_one (pairs_in w more) (trim_on a keep (pair_at w more place) letters)
      → IsFollowing a keep v x keys most place (letters + 1)
  following-more x most g r e =
      let on = trim_on a keep (pair_at v keys place) in
      let one : suc letters ≡ letters + 1 = omega arith in
      let all : map on (below (suc letters)) ≡ nexts ++ on letters ∷ [] = map-append on (below letters) (letters ∷ []) in
      record {
        grown = grown-grown a v w x f.grown g;
        are = r;
        pairs =
            e
            ∙ ap₂ (λ (l : List SetPair) (p : SetPair). with_one l (trim_on a keep p letters)) f.pairs following-same
            ∙ sym (push-more (pairs_in v keys) nexts (on letters))
            ∙ ap (with_more (pairs_in v keys)) (sym all)
            ∙ ap (λ (n : ℕ). with_more (pairs_in v keys) (map on (below n))) one;
      }

  pub following-skip : (l : ℕ) → letters ≡ suc l → trim_on a keep (pair_at v keys place) l ≡ trim_on a keep (pair_at v keys place) (suc l) → IsFollowing a keep v w keys more place (letters + 1)
  following-skip l e same =
      let on = trim_on a keep (pair_at v keys place) in
      let next : suc (suc l) ≡ letters + 1 = omega (arith, e) in
      record {
        grown = f.grown;
        are = f.are;
        pairs =
            f.pairs
            ∙ ap (λ (n : ℕ). with_more (pairs_in v keys) (map on (below n))) e
            ∙ more-skipped (pairs_in v keys) on l same
            ∙ ap (λ (n : ℕ). with_more (pairs_in v keys) (map on (below n))) next;
      }

  pub following-done : letters ≡ letters_count a → pairs_in w more ≡ with_more (pairs_in v keys) (trim_nexts a keep (pair_at v keys place))
  following-done all = f.pairs ∙ ap (λ (n : ℕ). with_more (pairs_in v keys) (map (trim_on a keep (pair_at v keys place)) (below n))) all

-- ---- looking at the pairs

-- The pair at a place was looked at.
module _ (a : Automaton) (keep : List Bool) (v w : Walk) (keys : List Key) (limit place : ℕ) (told : Bool) (l : IsLooking (trim_pairs a keep) limit place (pairs_in v keys)) (lt : place < length keys)
    (is : told ≡ trim_differs a (pair_at v keys place)) where
  abbrev d : SetPairs
  d = trim_pairs a keep

  abbrev p : SetPair
  p = get_or (pairs_in v keys) place first_pair

  there : place < length (pairs_in v keys)
  there = omega (arith, lt, pairs-length v keys)

  tells : differs d p ≡ told
  tells = trim-differs a keep p ∙ ap (trim_differs a) (pairs-get v keys place lt) ∙ sym is

  pub told-apart : told ≡ true → place < limit → IsFound d limit Apart
  told-apart e low = looking-apart d limit place (pairs_in v keys) l there low (tells ∙ e)

  pub told-many : told ≡ false → limit < length keys → pairs_in w keys ≡ pairs_in v keys → IsLooking d limit (place + 1) (pairs_in w keys)
  told-many e many same =
      subst (IsLooking d limit (place + 1)) (sym same) (looking-stay d limit place (pairs_in v keys) l there (omega (arith, many, pairs-length v keys)) (tells ∙ e))

  pub told-few : (x : Walk) (more : List Key) → told ≡ false → length keys ≤ limit → pairs_in w keys ≡ pairs_in v keys → pairs_in x more ≡ with_more (pairs_in w keys) (trim_nexts a keep (pair_at w keys place))
      → IsLooking d limit (place + 1) (pairs_in x more)
  told-few x more e few same put =
      let pair : pair_at w keys place ≡ p = sym (pairs-get w keys place lt) ∙ ap (λ (ps : List SetPair). get_or ps place first_pair) same in
      looking-more d limit place (pairs_in v keys) l (pairs_in x more) there (omega (arith, few, pairs-length v keys)) (tells ∙ e)
      (put ∙ ap₂ (λ (ps : List SetPair) (q : SetPair). with_more ps (trim_nexts a keep q)) same pair ∙ ap (with_more (pairs_in v keys)) (sym (trim-nexts a keep p)))

-- The first pair's key.
pub keys-start : (a : Automaton) (w : Walk) (keys : List Key) (done count : ℕ) → IsClosedTo a w done count → keys ≡ no_key ∷ [] → AreKeys a w keys
keys-start a w keys done count c e = subst (AreKeys a w) (sym e) (record { made = c.made; inside = by })
  where
    by : (i : ℕ) → i < 1 → IsInside w (key_at (no_key ∷ []) i)
    by i lt =
        let here : 0 ≡ i = omega arith in
        let some : 0 < length w.sets = omega (arith, c.some, c.few) in
        subst (λ (k : ℕ). IsInside w (key_at (no_key ∷ []) k)) here (record { first_in = some; second_in = some })

pub pairs-start : (a : Automaton) (w : Walk) (keys : List Key) (done count : ℕ) → IsClosedTo a w done count → keys ≡ no_key ∷ [] → pairs_in w keys ≡ first_pair ∷ []
pairs-start a w keys done count c e =
    let p : pair_of w no_key ≡ first_pair = λ j. record { first = c.start j; second = c.start j } in
    ap (pairs_in w) e ∙ ap (λ (q : SetPair). q ∷ []) p

-- The next pairs of one on the first letters were put behind, and what is known of the sets is right.
pub record IsExpanding (a : Automaton) (keep : List Bool) (v w : Walk) (keys more : List Key) (r : Arrived) (place letters : ℕ) : Type 0 where
  pub following : IsFollowing a keep v w keys more place letters
  pub arrived : AreArrived keep w more r

-- The first pairs, up to a place, were looked at.
pub record IsJudging (a : Automaton) (keep : List Bool) (v w : Walk) (keys : List Key) (r : Arrived) (limit place : ℕ) : Type 0 where
  pub grown : IsGrown a v w
  pub are : AreKeys a w keys
  pub arrived : AreArrived keep w keys r
  pub looking : IsLooking (trim_pairs a keep) limit place (pairs_in w keys)
