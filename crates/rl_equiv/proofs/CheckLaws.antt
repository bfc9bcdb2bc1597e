-- Laws of the check of a relation.
use Rattle.std.proofs.Common.{◌≡◌, ◌∙◌, ℕ, suc, ◌+◌, ◌<◌, ◌≤◌, ◌⊎◌, inl, inr, List, length, get_or, Contains, Result, Ok, Err, IfOk, IsTrue, ◌↔◌, Bool, true, false, not, sym, ap, subst, arith}
use Rattle.std.proofs.Math.Bool.{beq}
use Rattle.std.proofs.lemmas.Bool.{false≢true, cases_lt}
use Rattle.std.proofs.lemmas.List.{get_or_default}
use Rattle.rl_ranges.specs.declared.universe.Universe.{Universe}
use Rattle.rl_ranges.proofs.LetterLemmas.{beq-true}
use Rattle.rl_syntax.specs.Tree.{Tree}
use Rattle.rl_prio.specs.Automaton.{Automaton, letters_count, accepting_state}
use Rattle.rl_sets.specs.Live.{holds, image}
use Rattle.rl_sets.specs.Walk.{Walk, set_at, set_of}
use Rattle.rl_equiv.specs.declared.pair.SetPair.{SetPair}
use Rattle.rl_equiv.specs.SetPairs.{SetPairs, set_pairs, IsKept, IsClosed}
use Rattle.rl_equiv.specs.Languages.{SameLanguage}
use Rattle.rl_equiv.specs.Limits.{AreWithin}
use Rattle.rl_equiv.specs.Joined.{StandTogether}
use Rattle.rl_equiv.specs.internal.Machines.{ShareLetters, pair_on, ends, all_proper, pairs_of}
use Rattle.rl_equiv.specs.internal.Walks.{IsBegun, GoesOn}
use Rattle.rl_equiv.proofs.ImageLaws.{first_count, same_count, pairs_of-trees, image-set}
use Rattle.rl_equiv.proofs.ClosedLaws.{not-false, true-beq, first-proper, second-proper, ends-same, same-ends, next-in, in-next, closed-same}

-- The first set of a walk is that of the members.
pub set-image : (a : Automaton) (w : Walk) (set : List ℕ) (letter : ℕ) → set_at w 0 ≡ set_of a set → all_proper a set ≡ true → image a (set_at w 0) letter ≡ image a set letter
set-image a w set letter is proper = ap (λ s. image a s letter) is ∙ image-set a set letter proper

pub set-ends : (a : Automaton) (w : Walk) (set : List ℕ) → set_at w 0 ≡ set_of a set → all_proper a set ≡ true → ends a (set_at w 0) ≡ ends a set
set-ends a w set is proper = ap (λ s. holds s (accepting_state a)) (set-image a w set (letters_count a) is proper)

-- What holds after the first letters: of the two walks, and of the next set pairs of their first sets.
pub record AreNext (a b : Automaton) (relation : List SetPair) (p : SetPair) (v w : Walk) (letter : ℕ) : Type 0 where
  pub first_begun : IsBegun a v
  pub second_begun : IsBegun b w
  pub first_few : length v.sets ≤ suc (suc letter)
  pub second_few : length w.sets ≤ suc (suc letter)
  pub first_is : set_at v 0 ≡ p.first
  pub second_is : set_at w 0 ≡ p.second
  pub nexts : (l : ℕ) → l < letter → Contains relation (pair_on a b p l)

pub not-beq : (x y : Bool) → not (beq x y) ≡ true → x ≡ y → ⊥
not-beq x y e same = false≢true (sym (ap not (true-beq x y same)) ∙ e)

pub beq-not : (x y : Bool) → not (beq x y) ≡ false → x ≡ y
beq-not x y e = beq-true x y (not-false (beq x y) e)

module _ (a b : Automaton) (relation : List SetPair) (p : SetPair) where
  pub next-start : (v w x y : Walk) → GoesOn a v x → GoesOn b w y → length v.sets ≡ 1 → length w.sets ≡ 1 → set_at v 0 ≡ p.first → set_at w 0 ≡ p.second
      → AreNext a b relation p x y 0
  next-start v w x y g h one one' f f' = record {
    first_begun = g.begun;
    second_begun = h.begun;
    first_few = omega (arith, g.few);
    second_few = omega (arith, h.few);
    first_is = g.first ∙ f;
    second_is = h.first ∙ f';
    nexts = λ l lt. absurd (omega arith);
  }

  next-read : (v w : Walk) (letter : ℕ) (x y : List ℕ) → AreNext a b relation p v w letter → x ≡ image a (set_at v 0) letter → y ≡ image b (set_at w 0) letter
      → pair_on a b p letter ≡ record { first = x; second = y }
  next-read v w letter x y n e h =
      let f = e ∙ ap (λ (s : List ℕ). image a s letter) n.first_is in
      let g = h ∙ ap (λ (s : List ℕ). image b s letter) n.second_is in
      λ i. record { first = sym f i; second = sym g i }

  pub next-missing : (v w : Walk) (letter : ℕ) (x y : List ℕ) → AreNext a b relation p v w letter → x ≡ image a (set_at v 0) letter → y ≡ image b (set_at w 0) letter
      → (Contains relation (record { first = x; second = y }) → ⊥) → Contains relation (pair_on a b p letter) → ⊥
  next-missing v w letter x y n e h none there = none (subst (Contains relation) (next-read v w letter x y n e h) there)

  pub next-more : (v w v' w' : Walk) (letter : ℕ) (x y : List ℕ) → AreNext a b relation p v w letter → GoesOn a v v' → GoesOn b w w' → x ≡ image a (set_at v 0) letter → y ≡ image b (set_at w 0) letter
      → Contains relation (record { first = x; second = y }) → AreNext a b relation p v' w' (letter + 1)
  next-more v w v' w' letter x y n g h e e' in' = record {
    first_begun = g.begun;
    second_begun = h.begun;
    first_few = omega (arith, g.few, n.first_few);
    second_few = omega (arith, h.few, n.second_few);
    first_is = g.first ∙ n.first_is;
    second_is = h.first ∙ n.second_is;
    nexts = λ l lt. by l lt (cases_lt l letter);
  }
    where
      by : (l : ℕ) → l < letter + 1 → (l < letter) ⊎ (letter ≤ l) → Contains relation (pair_on a b p l)
      by l lt (inl less) = n.nexts l less
      by l lt (inr more) =
          let here : letter ≡ l = omega arith in
          subst (λ (k : ℕ). Contains relation (pair_on a b p k)) here (subst (Contains relation) (sym (next-read v w letter x y n e e')) in')

-- The first sets of two walks are kept exactly if the members that they were made of are.
module _ (a b : Automaton) (relation : List SetPair) (p : SetPair) (proper : (pairs_of a b).proper p ≡ true) (v w : Walk) (first : set_at v 0 ≡ set_of a p.first) (second : set_at w 0 ≡ set_of b p.second) where
  first-ends : ends a (set_at v 0) ≡ ends a p.first
  first-ends = set-ends a v p.first first (first-proper a b p proper)

  second-ends : ends b (set_at w 0) ≡ ends b p.second
  second-ends = set-ends b w p.second second (second-proper a b p proper)

  same-next : (l : ℕ) → pair_on a b (record { first = set_at v 0; second = set_at w 0 }) l ≡ pair_on a b p l
  same-next l = λ i. record {
    first = set-image a v p.first l first (first-proper a b p proper) i;
    second = set-image b w p.second l second (second-proper a b p proper) i;
  }

  pub sets-kept : {E : Type 0} (r : Result Bool E)
      → IfOk r (λ ok. IsTrue ok ↔ ((ends a (set_at v 0) ≡ ends b (set_at w 0)) × ((l : ℕ) → l < letters_count a → Contains relation (pair_on a b (record { first = set_at v 0; second = set_at w 0 }) l))))
      → IfOk r (λ ok. IsTrue ok ↔ IsKept (pairs_of a b) relation p)
  sets-kept (Err e) h = tt
  sets-kept (Ok ok) h = (
    λ i. record {
      is_proper = proper;
      no_difference = same-ends a b p (sym first-ends ∙ (h.0 i).0 ∙ second-ends);
      nexts_in = in-next a b relation p (λ l lt. subst (Contains relation) (same-next l) ((h.0 i).1 l lt));
    },
    λ k. h.1 (
      first-ends ∙ ends-same a b p k.no_difference ∙ sym second-ends,
      λ l lt. subst (Contains relation) (sym (same-next l)) (next-in a b relation p k.nexts_in l lt),
    ),
  )

-- One more member is kept.
pub kept-more : (d : SetPairs) (relation : List SetPair) (i : ℕ) (p : SetPair) → i < length relation → p ≡ get_or relation i p → IsKept d relation p
    → ((k : ℕ) (e : SetPair) → k < i → IsKept d relation (get_or relation k e)) → (k : ℕ) (e : SetPair) → k < i + 1 → IsKept d relation (get_or relation k e)
kept-more d relation i p lt is kept before k e small = by (cases_lt k i)
  where
    by : (k < i) ⊎ (i ≤ k) → IsKept d relation (get_or relation k e)
    by (inl less) = before k e less
    by (inr more) =
        let here : i ≡ k = omega arith in
        subst (λ (j : ℕ). IsKept d relation (get_or relation j e)) here (subst (IsKept d relation) (is ∙ get_or_default relation i p e lt) kept)

-- The answer for two automata is the answer for the trees that they stand for.
module _ (u : Universe) (s t : Tree) (a b : Automaton) (relation : List SetPair) (st : StandTogether u s t a b) (within : AreWithin u s t) where
  pub share-letters : ShareLetters a b
  share-letters = record {
    same_letters = same_count u s t a b st;
    few_letters = omega (arith, within.few_letters, first_count u s t a b st);
  }

  pub checked : {E : Type 0} (r : Result Bool E) → IfOk r (λ ok. IsTrue ok ↔ IsClosed (pairs_of a b) relation) → IfOk r (λ ok. IsTrue ok ↔ (AreWithin u s t × IsClosed (set_pairs u s t) relation))
  checked (Ok ok) h =
      let there : IsTrue ok → IsClosed (set_pairs u s t) relation = λ i. subst (λ (d : SetPairs). IsClosed d relation) (pairs_of-trees u s t a b st) (h.0 i) in
      let back : IsClosed (set_pairs u s t) relation → IsTrue ok = λ k. h.1 (subst (λ (d : SetPairs). IsClosed d relation) (sym (pairs_of-trees u s t a b st)) k) in
      (λ i. (within, there i), λ k. back k.1)
  checked (Err e) h = tt

  pub checked-same : {E : Type 0} (r : Result Bool E) → IfOk r (λ ok. IsTrue ok ↔ IsClosed (pairs_of a b) relation) → IfOk r (λ ok. IsTrue ok → SameLanguage u s t)
  checked-same (Ok ok) h = λ i. closed-same u s t a b relation st (subst (λ (d : SetPairs). IsClosed d relation) (pairs_of-trees u s t a b st) (h.0 i))
  checked-same (Err e) h = tt
