-- Laws of the sets that a trial in order has found with themselves without the states that aren't kept.
use Rattle.std.proofs.Common.{◌≡◌, ◌∙◌, ℕ, ◌<◌, ◌⊎◌, inl, inr, List, [], ◌∷◌, ◌++◌, length, get_or, replicate, Bool, true, false, cond, sym, ap, ap₂, subst, arith}
use Rattle.std.specs.List.{list_any}
use Rattle.std.proofs.lemmas.Bool.{both_ways}
use Rattle.std.proofs.lemmas.List.Folds.{list_any_at}
use Rattle.rl_lanes.proofs.RowLemmas.{get_or-replicate_false}
use Rattle.rl_prio.specs.Automaton.{Automaton}
use Rattle.rl_sets.specs.Live.{image}
use Rattle.rl_sets.specs.Walk.{Walk, set_at}
use Rattle.rl_equiv.specs.declared.pair.SetPair.{SetPair}
use Rattle.rl_equiv.specs.SetPairs.{first_pair}
use Rattle.rl_equiv.specs.Numbering.{same_pair, with_one}
use Rattle.rl_trim.specs.declared.key.Key.{Key}
use Rattle.rl_trim.specs.declared.branch.Trims.{Trims}
use Rattle.rl_trim.specs.declared.order.Arrived.{Arrived}
use Rattle.rl_trim.specs.internal.Trims.{trimmed, trim_on}
use Rattle.rl_trim.specs.internal.Quick.{IsGrown, IsNumbered, IsInside, IsKeyOf, IsOnward, HasPair, key_at, pair_of, root, AreTrims}
use Rattle.rl_trim.specs.internal.Orders.{with_key, pairs_in, AreKeys, AreArrived}
use Rattle.rl_trim.proofs.OrderLaws.{same-pairs}
use Rattle.rl_trim.proofs.TrimLaws.{trims-none, trims-grown}
use Rattle.rl_trim.proofs.PairLaws.{inserted, has-onward, has-put, onward-put, onward-grown, root-grown}
use Rattle.rl_trim.proofs.KeyOrder.{pairs-get, pairs-length, pairs-grown}

pub arrived-none : (keep : List Bool) (w : Walk) (keys : List Key) (r : Arrived) (n : ℕ) → r.whole ≡ replicate n false → r.trims.numbers.items ≡ [] → AreArrived keep w keys r
arrived-none keep w keys r n e unnoted = record { inside = λ k t. absurd (none k t); found = λ k t. absurd (none k t); trims = trims-none keep w r.trims unnoted }
  where
    none : (k : ℕ) → get_or r.whole k false ≡ true → ⊥
    none k t = both_ways (get_or r.whole k false) (ap (λ (l : List Bool). get_or l k false) e ∙ get_or-replicate_false n k) t

arrived-onward : (a : Automaton) (keep : List Bool) (v w : Walk) (keys more : List Key) (r : Arrived) → IsOnward a v w keys more
    → ((i : ℕ) → i < length keys → IsInside v (key_at keys i)) → AreArrived keep v keys r → AreArrived keep w more r
arrived-onward a keep v w keys more r o each are = record {
  inside = λ k t. omega (arith, are.inside k t, o.grown.longer);
  found = λ k t. subst (HasPair w more) (sym (root-grown a keep v w k o.grown (are.inside k t))) (has-onward a v w keys more (root keep v k) o each (are.found k t));
  trims = trims-grown a keep v w r.trims o.grown are.trims;
}

pub arrived-grown : (a : Automaton) (keep : List Bool) (v w : Walk) (keys : List Key) (r : Arrived) → IsGrown a v w → AreKeys a v keys → AreArrived keep v keys r → AreArrived keep w keys r
arrived-grown a keep v w keys r g inside are = arrived-onward a keep v w keys keys r (onward-grown a v w keys g) inside.inside are

-- One more pair, and other numbers.
pub arrived-put : (a : Automaton) (keep : List Bool) (v w : Walk) (keys more : List Key) (key : Key) (r : Arrived) (t : Trims) → IsGrown a v w → more ≡ with_key keys key → AreKeys a v keys → AreArrived keep v keys r
    → AreTrims keep w t → AreArrived keep w more (record { whole = r.whole; trims = t })
arrived-put a keep v w keys more key r t g e inside are trims =
    let onward = arrived-onward a keep v w keys more r (onward-put a v w keys more key g (inserted keys more key e)) inside.inside are in
    record { inside = onward.inside; found = onward.found; trims = trims }

-- One more set.
pub arrived-noted : (keep : List Bool) (w : Walk) (keys : List Key) (r more : Arrived) (n : ℕ) → ((k : ℕ) → get_or more.whole k false ≡ true → (get_or r.whole k false ≡ true) ⊎ (k ≡ n)) → more.trims ≡ r.trims
    → n < length w.sets → HasPair w keys (root keep w n) → AreArrived keep w keys r → AreArrived keep w keys more
arrived-noted keep w keys r more n step same lt here are =
    record { inside = λ k t. inside k (step k t); found = λ k t. found k (step k t); trims = subst (AreTrims keep w) (sym same) are.trims }
  where
    inside : (k : ℕ) → (get_or r.whole k false ≡ true) ⊎ (k ≡ n) → k < length w.sets
    inside k (inl t) = are.inside k t
    inside k (inr e) = subst (λ m. m < length w.sets) (sym e) lt

    found : (k : ℕ) → (get_or r.whole k false ≡ true) ⊎ (k ≡ n) → HasPair w keys (root keep w k)
    found k (inl t) = are.found k t
    found k (inr e) = subst (λ m. HasPair w keys (root keep w m)) (sym e) here

-- The next pair of one set with itself.
module _ (a : Automaton) (keep : List Bool) (v w : Walk) (key : Key) (letter n : ℕ) (whole : key.second ≡ key.first) (is : IsNumbered a v w (image a (set_at v key.first) letter) n) where
  pub whole-next : trim_on a keep (pair_of v key) letter ≡ root keep w n
  whole-next =
      let second : image a (set_at v key.second) letter ≡ set_at w n = ap (λ (m : ℕ). image a (set_at v m) letter) whole ∙ sym is.is in
      λ j. record { first = sym is.is j; second = trimmed keep (second j) }

  -- It is among those that are found.
  pub whole-there : (keys : List Key) → AreKeys a v keys → HasPair w keys (root keep w n) → pairs_in w keys ≡ with_one (pairs_in v keys) (trim_on a keep (pair_of v key) letter)
  whole-there keys are h = stays ∙ ap₂ (λ (l : List SetPair) (q : SetPair). with_one l q) (pairs-grown a v w keys is.grown are) (sym whole-next)
    where
      at : get_or (pairs_in w keys) h.place first_pair ≡ root keep w n
      at = pairs-get w keys h.place h.inside ∙ h.is

      any : list_any (same_pair (root keep w n)) (pairs_in w keys) ≡ true
      any =
          list_any_at (same_pair (root keep w n)) (pairs_in w keys) h.place first_pair (omega (arith, h.inside, pairs-length w keys))
          (same-pairs (root keep w n) (get_or (pairs_in w keys) h.place first_pair) (sym at))

      stays : pairs_in w keys ≡ with_one (pairs_in w keys) (root keep w n)
      stays = ap (λ (b : Bool). cond b (pairs_in w keys) (pairs_in w keys ++ root keep w n ∷ [])) (sym any)

  -- It was put.
  pub whole-put : (x : Walk) (keys more : List Key) (second : ℕ) → IsKeyOf a v x (trim_on a keep (pair_of v key) letter) (record { first = n; second = second }) → IsGrown a w x
      → more ≡ with_key keys (record { first = n; second = second }) → HasPair x more (root keep x n)
  whole-put x keys more second k g e =
      has-put x keys more (record { first = n; second = second }) (root keep x n) (inserted keys more (record { first = n; second = second }) e) (k.is ∙ whole-next ∙ sym (root-grown a keep w x n g is.inside))
