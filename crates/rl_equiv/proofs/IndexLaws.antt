-- Laws of the index of a relation.
use Rattle.std.proofs.Common.{◌≡◌, ◌∙◌, ℕ, ◌+◌, ◌<◌, ◌≤◌, ◌⊎◌, inl, inr, List, [], ◌∷◌, ◌++◌, length, get_or, map, All, Contains, Bool, true, false, ◌&&◌, ◌||◌, cond, IsTrue, ◌↔◌, refl, sym, ap, subst, arith}
use Rattle.std.specs.List.{list_any}
use Rattle.std.specs.Str.{bytes_eq}
use Rattle.std.proofs.lemmas.Bool.{cases_lt, and_parts, and_from}
use Rattle.std.proofs.lemmas.List.{map_push, get_or_default}
use Rattle.std.proofs.lemmas.List.Elements.{All-nil, All-push, All-contains}
use Rattle.std.proofs.lemmas.List.Folds.{Any-from_list_any, list_any-from_Any}
use Rattle.std.proofs.lemmas.Slice.Eq.{bytes_eq-Decides}
use Rattle.indexmap.specs.IndexSet.{insert_key}
use Rattle.rl_equiv.specs.declared.pair.SetPair.{SetPair}
use Rattle.rl_equiv.specs.declared.index.Sets.{Sets}
use Rattle.rl_equiv.specs.SetPairs.{first_pair, SetPairs, IsKept, IsClosed}
use Rattle.rl_equiv.specs.Numbering.{same_pair, with_one}
use Rattle.rl_equiv.specs.internal.Index.{pair_of_sets, HoldTheSame}
use Rattle.rl_equiv.proofs.RunLaws.{one-holds, grown-holds}
use Rattle.rl_equiv.proofs.SearchLaws.{one-grows}

abbrev pub sets_eq : Sets → Sets → Bool
sets_eq x y = bytes_eq x.first.items y.first.items && bytes_eq x.second.items y.second.items

-- Looking up two sets is looking up their set pair.
any-same : (keys : List Sets) (k : Sets) → list_any (sets_eq k) keys ≡ list_any (same_pair (pair_of_sets k)) (map pair_of_sets keys)
any-same [] k = refl
any-same (x ∷ xs) k = ap (λ (b : Bool). sets_eq k x || b) (any-same xs k)

pub put-one : (keys : List Sets) (k : Sets) → map pair_of_sets (insert_key sets_eq keys k) ≡ with_one (map pair_of_sets keys) (pair_of_sets k)
put-one keys k =
    by (list_any (sets_eq k) keys) ∙ ap (λ (b : Bool). cond b (map pair_of_sets keys) (map pair_of_sets keys ++ pair_of_sets k ∷ [])) (any-same keys k)
  where
    by : (b : Bool) → map pair_of_sets (cond b keys (keys ++ k ∷ [])) ≡ cond b (map pair_of_sets keys) (map pair_of_sets keys ++ pair_of_sets k ∷ [])
    by true = refl
    by false = map_push pair_of_sets keys k

-- A set pair is found exactly if it is there.
any-holds : (l : List SetPair) (p : SetPair) → list_any (same_pair p) l ≡ true → Contains l p
any-holds l p e =
    let h = Any-from_list_any (same_pair p) l e in
    let x = and_parts (bytes_eq p.first (h.1).first) (bytes_eq p.second (h.1).second) h.4 in
    let f = (bytes_eq-Decides p.first (h.1).first).0 x.0 in
    let g = (bytes_eq-Decides p.second (h.1).second).0 x.1 in
    let same : h.1 ≡ p = λ i. record { first = sym f i; second = sym g i } in
    subst (Contains l) same (h.0, h.2, h.3)

holds-any : (l : List SetPair) (p : SetPair) → Contains l p → list_any (same_pair p) l ≡ true
holds-any l p h =
    let same = and_from (bytes_eq p.first p.first) (bytes_eq p.second p.second) ((bytes_eq-Decides p.first p.first).1 refl) ((bytes_eq-Decides p.second p.second).1 refl) in
    list_any-from_Any (same_pair p) l (h.0, p, h.1, h.2, same)

pub found-there : (keys : List Sets) (k : Sets) (p : SetPair) (found : Bool) → found ≡ list_any (sets_eq k) keys → pair_of_sets k ≡ p → IsTrue found ↔ Contains (map pair_of_sets keys) p
found-there keys k p found e is =
    let here : found ≡ list_any (same_pair p) (map pair_of_sets keys) = e ∙ any-same keys k ∙ ap (λ (q : SetPair). list_any (same_pair q) (map pair_of_sets keys)) is in
    (λ i. any-holds (map pair_of_sets keys) p (sym here ∙ i), λ c. here ∙ holds-any (map pair_of_sets keys) p c)

-- The index has the first set pairs of a relation, and no others.
pub record HasFirst (relation : List SetPair) (i : ℕ) (index : List SetPair) : Type 0 where
  pub within : All (Contains relation) index
  pub all : (k : ℕ) (d : SetPair) → k < i → Contains index (get_or relation k d)

pub none-first : (relation index : List SetPair) → index ≡ [] → HasFirst relation 0 index
none-first relation index e = record {
  within = subst (All (Contains relation)) (sym e) (All-nil (Contains relation));
  all = λ k d lt. absurd (omega arith);
}

one-within : (relation index : List SetPair) (p : SetPair) → All (Contains relation) index → Contains relation p → All (Contains relation) (with_one index p)
one-within relation index p all there = by (list_any (same_pair p) index)
  where
    by : (b : Bool) → All (Contains relation) (cond b index (index ++ p ∷ []))
    by true = all
    by false = All-push (Contains relation) index p all there

pub more-first : (relation : List SetPair) (i : ℕ) (old new : List SetPair) (p : SetPair) → i < length relation → p ≡ get_or relation i p → new ≡ with_one old p → HasFirst relation i old → HasFirst relation (i + 1) new
more-first relation i old new p lt is e h =
    subst (HasFirst relation (i + 1)) (sym e) (record {
      within = one-within relation old p h.within (i, lt, sym is);
      all = λ k d less. by k d less (cases_lt k i);
    })
  where
    by : (k : ℕ) (d : SetPair) → k < i + 1 → (k < i) ⊎ (i ≤ k) → Contains (with_one old p) (get_or relation k d)
    by k d less (inl before) = grown-holds old (with_one old p) (get_or relation k d) (one-grows old p) (h.all k d before)
    by k d less (inr after) =
        let here : i ≡ k = omega arith in
        subst (λ (j : ℕ). Contains (with_one old p) (get_or relation j d)) here (subst (Contains (with_one old p)) (is ∙ get_or_default relation i p d lt) (one-holds old p))

pub all-first : (relation : List SetPair) (i : ℕ) (index : List SetPair) → length relation ≤ i → HasFirst relation i index → HoldTheSame index relation
all-first relation i index le h p = (
  λ c. All-contains (Contains relation) index p h.within c,
  λ c. subst (Contains index) c.2 (h.all c.0 p (omega (arith, c.1))),
)

-- A set pair that is kept in a list is kept in another one with the same set pairs.
pub kept-same : (d : SetPairs) (index relation : List SetPair) (p : SetPair) → HoldTheSame index relation → IsKept d index p → IsKept d relation p
kept-same d index relation p same k = record {
  is_proper = k.is_proper;
  no_difference = k.no_difference;
  nexts_in = λ n q lt. (same _).0 (k.nexts_in n q lt);
}

pub same-back : (index relation : List SetPair) → HoldTheSame index relation → HoldTheSame relation index
same-back index relation same p = ((same p).1, (same p).0)

-- Looking up the sets of the starts is looking up the first set pair.
pub first-there : (index : List SetPair) (x y : List ℕ) (found : Bool) → x ≡ 0 ∷ [] → y ≡ 0 ∷ [] → IsTrue found ↔ Contains index (record { first = x; second = y }) → IsTrue found ↔ Contains index first_pair
first-there index x y found e f h =
    let p : SetPair = record { first = x; second = y } in
    let is : p ≡ first_pair = λ i. record { first = e i; second = f i } in
    subst (λ (q : SetPair). IsTrue found ↔ Contains index q) is h

module _ (d : SetPairs) (index relation : List SetPair) (same : HoldTheSame index relation) where
  pub not-first : (Contains index first_pair → ⊥) → IsClosed d relation → ⊥
  not-first none k = none ((same first_pair).1 k.first_in)

  pub one-not-kept : (i : ℕ) (p : SetPair) → i < length relation → p ≡ get_or relation i p → (IsKept d index p → ⊥) → IsClosed d relation → ⊥
  one-not-kept i p lt is none k = none (kept-same d relation index p (same-back index relation same) (subst (IsKept d relation) (sym is) (k.kept i p lt)))

  pub all-kept : (i : ℕ) → length relation ≤ i → Contains index first_pair → ((k : ℕ) (e : SetPair) → k < i → IsKept d relation (get_or relation k e)) → IsClosed d relation
  all-kept i le there kept = record {
    first_in = (same first_pair).0 there;
    kept = λ k e lt. kept k e (omega (arith, lt));
  }
