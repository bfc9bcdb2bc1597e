-- Laws of a search that finds one more set pair.
use Rattle.std.proofs.Common.{◌≡◌, ◌∙◌, ℕ, suc, ◌+◌, ◌<◌, ◌≤◌, ◌⊎◌, inl, inr, List, [], ◌∷◌, ◌++◌, length, get_or, map, Bool, true, false, not, ◌||◌, ◌&&◌, cond, eqb, eqb-true, eq-eqb, nat_lt, refl, sym, ap, ap₂, subst, arith}
use Rattle.std.specs.List.{list_any}
use Rattle.std.specs.Str.{bytes_eq}
use Rattle.std.proofs.lemmas.Bool.{false≢true, cases_lt, and_parts, and_from, cond-false, le-ltb}
use Rattle.std.proofs.lemmas.List.{length_push, get_or_push, get_or_append_left, length-map, map-append, append-nil, get_or_default}
use Rattle.std.proofs.lemmas.List.Folds.{Any-from_list_any}
use Rattle.std.proofs.lemmas.Slice.Eq.{bytes_eq-Decides}
use Rattle.rl_prio.specs.Automaton.{Automaton, letters_count}
use Rattle.rl_sets.specs.Live.{image}
use Rattle.rl_sets.specs.Walk.{Walk, set_at, IsMadeFor}
use Rattle.rl_sets.proofs.SetLemmas.{same_tests}
use Rattle.rl_equiv.specs.declared.pair.SetPair.{SetPair}
use Rattle.rl_equiv.specs.declared.searching.PairKey.{PairKey}
use Rattle.rl_equiv.specs.declared.searching.Way.{Way}
use Rattle.rl_equiv.specs.Numbering.{same_pair, Reached, with_reached}
use Rattle.rl_equiv.specs.internal.Machines.{pair_on}
use Rattle.rl_equiv.specs.internal.Searching.{Gets, State, no_key, no_way, key_at, way_at, pair_of, pairs_in, pair_at, words_of, word_at, reached_of, reached_in, reached_at, reached_on, with_reached_within, IsNext, IsSearch, IsOnward}
use Rattle.rl_equiv.proofs.FoundLaws.{words-push, words-length, of-push, reached-pairs, reached-length}
use Rattle.rl_equiv.proofs.SideLaws.{gets-within, gets-set, gets-longer, gets-same, gets-old, side-gets, side-stays}

abbrev pub key_eq : PairKey → PairKey → Bool
key_eq x y = eqb x.first y.first && eqb x.second y.second

pub same-key : (x y : PairKey) → key_eq x y ≡ true → x ≡ y
same-key x y e =
    let p = and_parts (eqb x.first y.first) (eqb x.second y.second) e in
    let f = eqb-true x.first y.first p.0 in
    let g = eqb-true x.second y.second p.1 in
    λ i. record { first = f i; second = g i }

-- One set has one number.
number-same : (a : Automaton) (v : Walk) (m n : ℕ) → IsMadeFor v a → m < length v.sets → n < length v.sets → set_at v m ≡ set_at v n → m ≡ n
number-same a v m n made lt lt' e = by (cases_lt m n) (cases_lt n m)
  where
    by : (m < n) ⊎ (n ≤ m) → (n < m) ⊎ (m ≤ n) → m ≡ n
    by (inl less) more = absurd (made.apart m n less lt' e)
    by (inr ge) (inl less) = absurd (made.apart n m less lt (sym e))
    by (inr ge) (inr le) = omega arith

-- The keys are of sets of the walks.
abbrev pub KeysIn : Walk → Walk → List PairKey → Type 0
KeysIn v w [] = Unit {0}
KeysIn v w (k ∷ ks) = (k.first < length v.sets) × (k.second < length w.sets) × KeysIn v w ks

pub KeysIn-from : (v w : Walk) (keys : List PairKey) → ((k : ℕ) → k < length keys → (get_or keys k no_key).first < length v.sets) → ((k : ℕ) → k < length keys → (get_or keys k no_key).second < length w.sets) → KeysIn v w keys
KeysIn-from v w [] f g = tt
KeysIn-from v w (k ∷ ks) f g = (f 0 (omega arith), g 0 (omega arith), KeysIn-from v w ks (λ i lt. f (suc i) (omega arith)) (λ i lt. g (suc i) (omega arith)))

pub pairs-same : (v w x y : Walk) (keys : List PairKey) → KeysIn v w keys → ((k : ℕ) → k < length v.sets → set_at x k ≡ set_at v k) → ((k : ℕ) → k < length w.sets → set_at y k ≡ set_at w k)
    → map (pair_of x y) keys ≡ map (pair_of v w) keys
pairs-same v w x y [] in' f g = refl
pairs-same v w x y (k ∷ ks) in' f g =
    let e = f k.first in'.0 in
    let h = g k.second in'.1 in
    let p : pair_of x y k ≡ pair_of v w k = λ i. record { first = e i; second = h i } in
    ap₂ (λ q qs. q ∷ qs) p (pairs-same v w x y ks in'.2 f g)

-- Two set pairs are the same exactly if their keys are.
one-same : (a b : Automaton) (v w : Walk) (key k : PairKey) → IsMadeFor v a → IsMadeFor w b → key.first < length v.sets → key.second < length w.sets → k.first < length v.sets → k.second < length w.sets
    → same_pair (pair_of v w key) (pair_of v w k) ≡ key_eq key k
one-same a b v w key k made made' f g h i =
    same_tests _ _
    (λ e.
    let p = and_parts (bytes_eq (set_at v key.first) (set_at v k.first)) (bytes_eq (set_at w key.second) (set_at w k.second)) e in
    let x = number-same a v key.first k.first made f h ((bytes_eq-Decides (set_at v key.first) (set_at v k.first)).0 p.0) in
    let y = number-same b w key.second k.second made' g i ((bytes_eq-Decides (set_at w key.second) (set_at w k.second)).0 p.1) in
    and_from (eqb key.first k.first) (eqb key.second k.second) (eq-eqb key.first k.first x) (eq-eqb key.second k.second y))
    (λ e.
    let p = and_parts (eqb key.first k.first) (eqb key.second k.second) e in
    and_from (bytes_eq (set_at v key.first) (set_at v k.first)) (bytes_eq (set_at w key.second) (set_at w k.second))
    ((bytes_eq-Decides (set_at v key.first) (set_at v k.first)).1 (ap (set_at v) (eqb-true key.first k.first p.0)))
    ((bytes_eq-Decides (set_at w key.second) (set_at w k.second)).1 (ap (set_at w) (eqb-true key.second k.second p.1))))

any-same : (a b : Automaton) (v w : Walk) (key : PairKey) (keys : List PairKey) → IsMadeFor v a → IsMadeFor w b → key.first < length v.sets → key.second < length w.sets → KeysIn v w keys
    → list_any (same_pair (pair_of v w key)) (map (pair_of v w) keys) ≡ list_any (key_eq key) keys
any-same a b v w key [] made made' f g in' = refl
any-same a b v w key (k ∷ ks) made made' f g in' =
    ap₂ (λ x y. x || y) (one-same a b v w key k made made' f g in'.0 in'.1) (any-same a b v w key ks made made' f g in'.2)

-- What is known when a set pair is visited.
pub record IsVisit (a b : Automaton) (s : State) (v w : Walk) (place letter n m : ℕ) : Type 0 where
  pub search : IsSearch a b s
  pub place_in : place < length s.keys
  pub letter_in : letter < letters_count a
  pub room : length s.keys ≤ s.limit
  pub first_gets : Gets a s.first v (image a (pair_at s place).first letter) n
  pub second_gets : Gets b s.second w (image b (pair_at s place).second letter) m

module _ (a b : Automaton) (s : State) (v w : Walk) (place letter n m : ℕ) (i : IsVisit a b s v w place letter n m) where
  abbrev pub key : PairKey
  key = record { first = n; second = m }

  abbrev pub next : SetPair
  next = pair_on a b (pair_at s place) letter

  keys-in : KeysIn s.first s.second s.keys
  keys-in = KeysIn-from s.first s.second s.keys i.search.first_in i.search.second_in

  first-same : (k : ℕ) → k < length s.first.sets → set_at v k ≡ set_at s.first k
  first-same = gets-same a s.first v (image a (pair_at s place).first letter) n i.first_gets

  second-same : (k : ℕ) → k < length s.second.sets → set_at w k ≡ set_at s.second k
  second-same = gets-same b s.second w (image b (pair_at s place).second letter) m i.second_gets

  first-longer : length s.first.sets ≤ length v.sets
  first-longer = gets-longer a s.first v (image a (pair_at s place).first letter) n i.first_gets

  second-longer : length s.second.sets ≤ length w.sets
  second-longer = gets-longer b s.second w (image b (pair_at s place).second letter) m i.second_gets

  first-there : n < length v.sets
  first-there = gets-within a s.first v (image a (pair_at s place).first letter) n i.first_gets

  second-there : m < length w.sets
  second-there = gets-within b s.second w (image b (pair_at s place).second letter) m i.second_gets

  keys-in-new : KeysIn v w s.keys
  keys-in-new = KeysIn-from v w s.keys (λ k lt. omega (arith, i.search.first_in k lt, first-longer)) (λ k lt. omega (arith, i.search.second_in k lt, second-longer))

  pairs-kept : map (pair_of v w) s.keys ≡ pairs_in s
  pairs-kept = pairs-same s.first s.second v w s.keys keys-in first-same second-same

  next-is : pair_of v w key ≡ next
  next-is =
      let e = gets-set a s.first v (image a (pair_at s place).first letter) n i.first_gets in
      let f = gets-set b s.second w (image b (pair_at s place).second letter) m i.second_gets in
      λ j. record { first = e j; second = f j }

  -- Whether the next set pair was found already, by its key.
  any-is : list_any (same_pair next) (pairs_in s) ≡ list_any (key_eq key) s.keys
  any-is =
      ap₂ (λ (p : SetPair) (l : List SetPair). list_any (same_pair p) l) (sym next-is) (sym pairs-kept)
      ∙ any-same a b v w key s.keys i.first_gets.made i.second_gets.made first-there second-there keys-in-new

  abbrev pub next_one : Reached
  next_one = reached_on a b (reached_at s place) letter

  within-is : with_reached_within s.limit (reached_in s) next_one ≡ cond (list_any (key_eq key) s.keys) (reached_in s) (reached_in s ++ next_one ∷ [])
  within-is =
      cond-false (nat_lt s.limit (length (reached_in s))) (reached_in s) (with_reached (reached_in s) next_one) (le-ltb s.limit (length (reached_in s)) (omega (arith, i.room, reached-length s)))
      ∙ ap (λ (l : List SetPair). cond (list_any (same_pair next) l) (reached_in s) (reached_in s ++ next_one ∷ [])) (reached-pairs s)
      ∙ ap (λ (t : Bool). cond t (reached_in s) (reached_in s ++ next_one ∷ [])) any-is

  reached-kept : reached_of (map (pair_of v w) s.keys) (words_of s.ways) ≡ reached_in s
  reached-kept = ap (λ (l : List SetPair). reached_of l (words_of s.ways)) pairs-kept

  pair-kept : (k : ℕ) → k < length s.keys → pair_of v w (key_at s k) ≡ pair_at s k
  pair-kept k lt =
      let e = first-same (key_at s k).first (i.search.first_in k lt) in
      let f = second-same (key_at s k).second (i.search.second_in k lt) in
      λ j. record { first = e j; second = f j }

  abbrev pub old_state : State
  old_state = record { limit = s.limit; first = v; second = w; keys = s.keys; ways = s.ways }

  found-key : list_any (key_eq key) s.keys ≡ true → (k : ℕ) × (k < length s.keys) × (key_at s k ≡ key)
  found-key there =
      let h = Any-from_list_any (key_eq key) s.keys there in
      (h.0, h.2, get_or_default s.keys h.0 no_key h.1 h.2 ∙ h.3 ∙ sym (same-key key h.1 h.4))

  pub visited-old : list_any (key_eq key) s.keys ≡ true → IsOnward a b s old_state × (reached_in old_state ≡ with_reached_within s.limit (reached_in s) next_one)
  visited-old there =
      let h = found-key there in
      let x = gets-old a s.first v (image a (pair_at s place).first letter) n i.first_gets (subst (λ (k : PairKey). k.first < length s.first.sets) h.2 (i.search.first_in h.0 h.1)) in
      let y = gets-old b s.second w (image b (pair_at s place).second letter) m i.second_gets (subst (λ (k : PairKey). k.second < length s.second.sets) h.2 (i.search.second_in h.0 h.1)) in (
        record {
          search = record {
            some_limit = i.search.some_limit;
            low_limit = i.search.low_limit;
            first_side = side-stays a s.limit (length s.keys) s.first v (image a (pair_at s place).first letter) n x i.search.first_side i.first_gets;
            second_side = side-stays b s.limit (length s.keys) s.second w (image b (pair_at s place).second letter) m y i.search.second_side i.second_gets;
            first_in = λ k lt. omega (arith, i.search.first_in k lt, first-longer);
            second_in = λ k lt. omega (arith, i.search.second_in k lt, second-longer);
            some = i.search.some;
            few = i.search.few;
            paired = i.search.paired;
            start = pair-kept 0 i.search.some ∙ i.search.start;
            ways = λ k lt below. let o = i.search.ways k lt below in record {
              earlier = o.earlier;
              small = o.small;
              is = pair-kept k below ∙ o.is ∙ ap (λ (p : SetPair). pair_on a b p (way_at s k).letter) (sym (pair-kept (way_at s k).parent (omega (arith, o.earlier))));
            };
          };
          limit_is = refl;
          more = [];
          grown = reached-kept ∙ sym (append-nil (reached_in s));
        },
        reached-kept ∙ sym (within-is ∙ ap (λ (t : Bool). cond t (reached_in s) (reached_in s ++ next_one ∷ [])) there),
      )

  abbrev pub way : Way
  way = record { parent = place; letter = letter }

  abbrev pub new_state : State
  new_state = record { limit = s.limit; first = v; second = w; keys = s.keys ++ key ∷ []; ways = s.ways ++ way ∷ [] }

  key-old : (k : ℕ) → k < length s.keys → get_or (s.keys ++ key ∷ []) k no_key ≡ key_at s k
  key-old k lt = get_or_append_left s.keys (key ∷ []) no_key k lt

  key-new : (k : ℕ) → length s.keys ≡ k → get_or (s.keys ++ key ∷ []) k no_key ≡ key
  key-new k e = get_or_push s.keys key no_key k e

  pub visited-new : list_any (key_eq key) s.keys ≡ false → IsOnward a b s new_state × (reached_in new_state ≡ with_reached_within s.limit (reached_in s) next_one)
  visited-new none =
      let x = image a (pair_at s place).first letter in
      let y = image b (pair_at s place).second letter in
      let long : length (s.keys ++ key ∷ []) ≡ length s.keys + 1 = length_push s.keys key in
      let old-pair = λ (k : ℕ) (lt : k < length s.keys). ap (pair_of v w) (key-old k lt) ∙ pair-kept k lt in
      let grown : map (pair_of v w) (s.keys ++ key ∷ []) ≡ pairs_in s ++ next ∷ [] = map-append (pair_of v w) s.keys (key ∷ []) ∙ ap₂ (λ (l : List SetPair) (p : SetPair). l ++ p ∷ []) pairs-kept next-is in
      let longer : reached_in new_state ≡ reached_in s ++ next_one ∷ [] =
      ap₂ reached_of grown (words-push s.ways way (omega (arith, i.search.paired, i.search.some)))
      ∙ of-push (pairs_in s) (words_of s.ways) next (word_at s place ++ letter ∷ []) (omega (arith, length-map s.keys (pair_of s.first s.second), words-length s.ways, i.search.paired)) in (
        record {
          search = record {
            some_limit = i.search.some_limit;
            low_limit = i.search.low_limit;
            first_side = side-gets a s.limit (length s.keys) (length (s.keys ++ key ∷ [])) s.first v x n long i.search.first_side i.first_gets;
            second_side = side-gets b s.limit (length s.keys) (length (s.keys ++ key ∷ [])) s.second w y m long i.search.second_side i.second_gets;
            first_in = λ k lt. elim (cases_lt k (length s.keys)) [
              | inl less ↦ subst (λ (q : PairKey). q.first < length v.sets) (sym (key-old k less)) (omega (arith, i.search.first_in k less, first-longer))
              | inr more ↦ subst (λ (q : PairKey). q.first < length v.sets) (sym (key-new k (omega arith))) first-there
            ];
            second_in = λ k lt. elim (cases_lt k (length s.keys)) [
              | inl less ↦ subst (λ (q : PairKey). q.second < length w.sets) (sym (key-old k less)) (omega (arith, i.search.second_in k less, second-longer))
              | inr more ↦ subst (λ (q : PairKey). q.second < length w.sets) (sym (key-new k (omega arith))) second-there
            ];
            some = omega (arith, long);
            few = omega (arith, long, i.room);
            paired = omega (arith, long, length_push s.ways way, i.search.paired);
            start = old-pair 0 i.search.some ∙ i.search.start;
            ways = λ k lt below. elim (cases_lt k (length s.keys)) [
              | inl less ↦
                  let o = i.search.ways k lt less in
                  let same : get_or (s.ways ++ way ∷ []) k no_way ≡ way_at s k = get_or_append_left s.ways (way ∷ []) no_way k (omega (arith, i.search.paired)) in
                  subst (IsNext a b new_state k) (sym same) (record {
                    earlier = o.earlier;
                    small = o.small;
                    is = old-pair k less ∙ o.is ∙ ap (λ (p : SetPair). pair_on a b p (way_at s k).letter) (sym (old-pair (way_at s k).parent (omega (arith, o.earlier))));
                  })
              | inr more ↦
                  let here : length s.ways ≡ k = omega (arith, i.search.paired) in
                  subst (IsNext a b new_state k) (sym (get_or_push s.ways way no_way k here)) (record {
                    earlier = omega (arith, i.place_in);
                    small = i.letter_in;
                    is = ap (pair_of v w) (key-new k (omega arith)) ∙ next-is ∙ ap (λ (p : SetPair). pair_on a b p letter) (sym (old-pair place i.place_in));
                  })
            ];
          };
          limit_is = refl;
          more = next_one ∷ [];
          grown = longer;
        },
        longer ∙ sym (within-is ∙ ap (λ (t : Bool). cond t (reached_in s) (reached_in s ++ next_one ∷ [])) none),
      )

pub onward-refl : (a b : Automaton) (s : State) → IsSearch a b s → IsOnward a b s s
onward-refl a b s search = record { search = search; limit_is = refl; more = []; grown = sym (append-nil (reached_in s)) }

pub visit-read : (a b : Automaton) (s : State) (v w : Walk) (place letter n m : ℕ) (key : PairKey) → IsSearch a b s → place < length s.keys → letter < letters_count a → length s.keys ≤ s.limit → key_at s place ≡ key
    → Gets a s.first v (image a (set_at s.first key.first) letter) n → Gets b s.second w (image b (set_at s.second key.second) letter) m → IsVisit a b s v w place letter n m
visit-read a b s v w place letter n m read search lt small room e g h = record {
  search = search;
  place_in = lt;
  letter_in = small;
  room = room;
  first_gets = subst (λ (k : PairKey). Gets a s.first v (image a (set_at s.first k.first) letter) n) (sym e) g;
  second_gets = subst (λ (k : PairKey). Gets b s.second w (image b (set_at s.second k.second) letter) m) (sym e) h;
}

not-true : (b : Bool) → not b ≡ true → b ≡ false
not-true true e = absurd (false≢true e)
not-true false e = refl

not-false : (b : Bool) → not b ≡ false → b ≡ true
not-false true e = refl
not-false false e = absurd (false≢true (sym e))

module _ (a b : Automaton) (s : State) (v w : Walk) (place letter n m : ℕ) (i : IsVisit a b s v w place letter n m) (keys : List PairKey) (added : Bool)
    (e : keys ≡ cond (list_any (key_eq (key a b s v w place letter n m i)) s.keys) s.keys (s.keys ++ key a b s v w place letter n m i ∷ []))
    (f : added ≡ not (list_any (key_eq (key a b s v w place letter n m i)) s.keys)) where
  pub visit-put : (ways : List Way) → added ≡ true → ways ≡ s.ways ++ way a b s v w place letter n m i ∷ []
      → IsOnward a b s (record { limit = s.limit; first = v; second = w; keys = keys; ways = ways })
      × (reached_in (record { limit = s.limit; first = v; second = w; keys = keys; ways = ways }) ≡ with_reached_within s.limit (reached_in s) (reached_on a b (reached_at s place) letter))
  visit-put ways is g =
      let none = not-true (list_any (key_eq (key a b s v w place letter n m i)) s.keys) (sym f ∙ is) in
      let ks = e ∙ ap (λ (t : Bool). cond t s.keys (s.keys ++ key a b s v w place letter n m i ∷ [])) none in
      let same : new_state a b s v w place letter n m i ≡ record { limit = s.limit; first = v; second = w; keys = keys; ways = ways } =
      λ j. record { limit = s.limit; first = v; second = w; keys = sym ks j; ways = sym g j } in
      subst (λ (t : State). IsOnward a b s t × (reached_in t ≡ with_reached_within s.limit (reached_in s) (reached_on a b (reached_at s place) letter))) same (visited-new a b s v w place letter n m i none)

  pub visit-stay : added ≡ false
      → IsOnward a b s (record { limit = s.limit; first = v; second = w; keys = keys; ways = s.ways })
      × (reached_in (record { limit = s.limit; first = v; second = w; keys = keys; ways = s.ways }) ≡ with_reached_within s.limit (reached_in s) (reached_on a b (reached_at s place) letter))
  visit-stay is =
      let there = not-false (list_any (key_eq (key a b s v w place letter n m i)) s.keys) (sym f ∙ is) in
      let ks = e ∙ ap (λ (t : Bool). cond t s.keys (s.keys ++ key a b s v w place letter n m i ∷ [])) there in
      let same : old_state a b s v w place letter n m i ≡ record { limit = s.limit; first = v; second = w; keys = keys; ways = s.ways } =
      λ j. record { limit = s.limit; first = v; second = w; keys = sym ks j; ways = s.ways } in
      subst (λ (t : State). IsOnward a b s t × (reached_in t ≡ with_reached_within s.limit (reached_in s) (reached_on a b (reached_at s place) letter))) same (visited-old a b s v w place letter n m i there)
