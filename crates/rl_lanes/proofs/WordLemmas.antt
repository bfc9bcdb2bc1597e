-- Lemmas about words: the effect of storing eight lanes, whether some lane is set, and the number of set bits.
use Rattle.std.proofs.Common.{◌≡◌, ◌≢◌, ℕ, zero, suc, ◌+◌, ◌-◌, ◌<◌, ◌≤◌, ◌⊎◌, Bool, true, false, not, eqb, List, [], ◌∷◌, ◌++◌, length, get_or, take, map, refl, sym, ap, ◌∙◌, subst, inl, inr, arith, bit_or, count_ones, MatchBool}
use Rattle.std.specs.Simd.Lanes.{fold_l, sum_l, put_chunk, chunk}
use Rattle.std.proofs.lemmas.Simd.{length-put_chunk, get_or-put_chunk_below, get_or-put_chunk_at, get_or-put_chunk_above}
use Rattle.std.proofs.lemmas.Bool.{eqb-true, eqb-false, cases_eq}
use Rattle.std.proofs.lemmas.Nat.{le_or_l, le_or_r}
use Rattle.std.proofs.Math.Seq.{take-add}
use Rattle.std.proofs.lemmas.List.{map_more, map-append}
use Rattle.rl_lanes.specs.internal.Words.{JoinsAt, SomeWord, NoWord, SomePairAt, NoPairAt}

-- The words before `at` are combined by `f` with those of the other list. All other words are unchanged.
pub record JoinsBelow (f : ℕ → ℕ → ℕ) (at : ℕ) (old other new : List ℕ) : Type 0 where
  pub long : length new ≡ length old
  pub within : at ≤ length old
  pub below : (k : ℕ) → k < at → get_or new k 0 ≡ f (get_or old k 0) (get_or other k 0)
  pub above : (k : ℕ) → at ≤ k → get_or new k 0 ≡ get_or old k 0

-- Storing eight words that `f` makes of the words of two lists.
pub JoinsAt-put_chunk : (f : ℕ → ℕ → ℕ) (at : ℕ) (old other lanes : List ℕ) → length lanes ≡ 8 → at + 8 ≤ length old → ((k : ℕ) → k < 8 → get_or lanes k 0 ≡ f (get_or old (at + k) 0) (get_or other (at + k) 0)) → JoinsAt f at old other (put_chunk at old lanes)
JoinsAt-put_chunk f at old other lanes long room each = record {
  long = length-put_chunk at old lanes;
  below = λ k lt. get_or-put_chunk_below at old lanes k 0 lt;
  inside = λ k ge lt.
      let split : at + (k - at) ≡ k = omega arith in
      let P : ℕ → Type 0 = λ j. get_or (put_chunk at old lanes) j 0 ≡ f (get_or old j 0) (get_or other j 0) in
      subst P split (get_or-put_chunk_at at old lanes (k - at) 0 (omega arith) (omega arith) ∙ each (k - at) (omega arith));
  above = λ k ge. get_or-put_chunk_above at old lanes k 0 (omega arith);
}

NoWord-cons : (xs : List ℕ) → NoWord xs → NoWord (0 ∷ xs)
NoWord-cons xs none zero lt = refl
NoWord-cons xs none (suc k) lt = none k (omega arith)

SomeWord-cons : (x : ℕ) (xs : List ℕ) → SomeWord xs → SomeWord (x ∷ xs)
SomeWord-cons x xs (k, lt, set) = (suc k, omega arith, set)

-- If the union of all words is 0, every word is 0.
NoWord-from_fold : (a : ℕ) (xs : List ℕ) → fold_l bit_or a xs ≡ 0 → (a ≡ 0) × NoWord xs
NoWord-from_fold a [] e = (e, λ k lt. refl)
NoWord-from_fold a (x ∷ xs) e =
    let rest = NoWord-from_fold (bit_or a x) xs e in
    let x_is : x ≡ 0 = omega (arith, rest.0, le_or_r a x) in
    (omega (arith, rest.0, le_or_l a x), subst (λ y. NoWord (y ∷ xs)) (sym x_is) (NoWord-cons xs rest.1))

-- Otherwise some word isn't 0.
SomeWord-from_fold : (a : ℕ) (xs : List ℕ) → fold_l bit_or a xs ≢ 0 → (a ≢ 0) ⊎ SomeWord xs
SomeWord-from_fold a [] e = inl e
SomeWord-from_fold a (x ∷ xs) e =
    elim (SomeWord-from_fold (bit_or a x) xs e) [
      | inr some ↦ inr (SomeWord-cons x xs some)
      | inl set ↦ elim (cases_eq x 0) [
        | inr there ↦ inr (zero, omega arith, there)
        | inl gone ↦ inl (λ a_is. set ((λ i. bit_or (a_is i) (gone i)) ∙ refl))
      ]
    ]

pub any_lane_is : (xs : List ℕ) (b : Bool) → eqb (fold_l bit_or 0 xs) 0 ≡ b → MatchBool (not b) (SomeWord xs) (NoWord xs)
any_lane_is xs true e = (NoWord-from_fold 0 xs (eqb-true _ 0 e)).1
any_lane_is xs false e = elim (SomeWord-from_fold 0 xs (eqb-false _ 0 e)) [ inl off ↦ absurd (off refl) | inr some ↦ some ]

pub sum_l-append : (xs ys : List ℕ) → sum_l (xs ++ ys) ≡ sum_l xs + sum_l ys
sum_l-append [] ys = omega arith
sum_l-append (x ∷ xs) ys = omega (arith, sum_l-append xs ys)

-- The number of bits set in the words before an index, and in the `n` words from there on.
pub ones-take_more : (words : List ℕ) (at n : ℕ) → sum_l (map count_ones (take (at + n) words)) ≡ sum_l (map count_ones (take at words)) + sum_l (map count_ones (chunk at n words))
ones-take_more words at n =
    ap (λ ws. sum_l (map count_ones ws)) (take-add at n words)
    ∙ ap sum_l (map-append count_ones (take at words) (chunk at n words))
    ∙ sum_l-append (map count_ones (take at words)) (map count_ones (chunk at n words))

-- The words before an index have at most as many set bits as all words.
pub ones-take_le : (words : List ℕ) (at : ℕ) → sum_l (map count_ones (take at words)) ≤ sum_l (map count_ones words)
ones-take_le [] zero = omega arith
ones-take_le [] (suc at) = omega arith
ones-take_le (w ∷ ws) zero = omega arith
ones-take_le (w ∷ ws) (suc at) = omega (arith, ones-take_le ws at)

-- The number of bits set in the words before an index, and in the word there.
pub ones-take_one : (words : List ℕ) (at : ℕ) → at < length words → sum_l (map count_ones (take (at + 1) words)) ≡ sum_l (map count_ones (take at words)) + count_ones (get_or words at 0)
ones-take_one words at lt =
    ap sum_l (map_more count_ones words at 0 lt)
    ∙ sum_l-append (map count_ones (take at words)) (count_ones (get_or words at 0) ∷ [])
    ∙ omega arith

-- What holds for the lanes that `f` makes of eight words of two lists holds for those words.
pub pairs_from_lanes : (f : ℕ → ℕ → ℕ) (at : ℕ) (a b lanes : List ℕ) (some : Bool) → length lanes ≡ 8 → ((k : ℕ) → k < 8 → get_or lanes k 0 ≡ f (get_or a (at + k) 0) (get_or b (at + k) 0)) → MatchBool some (SomeWord lanes) (NoWord lanes) → MatchBool some (SomePairAt f at a b) (NoPairAt f at a b)
pairs_from_lanes f at a b lanes true long each (k, lt, set) = (at + k, omega arith, omega arith, λ off. set (each k (omega arith) ∙ off))
pairs_from_lanes f at a b lanes false long each none = λ k ge lt.
    let split : at + (k - at) ≡ k = omega arith in
    let P : ℕ → Type 0 = λ j. f (get_or a j 0) (get_or b j 0) ≡ 0 in
    subst P split (sym (each (k - at) (omega arith)) ∙ none (k - at) (omega arith))
