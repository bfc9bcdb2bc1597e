-- Laws of branches that have an equal one beside them. Each set that the automaton reaches has, with each state, the one that
-- stands in for it. So its image without the states that aren't kept is that of its kept states, and the pairs of a trial are
-- those of the automaton and itself, each set paired with itself without those states.
use Rattle.std.proofs.Common.{◌≡◌, ◌≢◌, ◌∙◌, ℕ, zero, suc, ◌+◌, ◌-◌, ◌%◌, ◌^◌, ◌<◌, ◌≤◌, ◌⊎◌, inl, inr, List, [], ◌∷◌, ◌++◌, length, get_or, take, map, filter, All, Some, Bool, true, false, not, ◌&&◌, cond, nat_lt, eqb, eqb-true, eq-eqb, refl, sym, ap, subst, arith}
use Rattle.std.specs.List.{list_any, slice_get}
use Rattle.std.proofs.Math.Bool.{beq}
use Rattle.std.proofs.lemmas.Bool.{cases_Bool, cases_lt, cond-true, cond-false, lt-ltb, le-ltb, false≢true, both_ways, ne_eqb, or_cases, or_left, or_right, and_parts, and_from, and_left, not_from_false}
use Rattle.std.proofs.lemmas.List.{take_all, get_or_default}
use Rattle.std.proofs.lemmas.List.Elements.{All-head, All-tail, All-map, All-more}
use Rattle.std.proofs.lemmas.List.Folds.{list_any-append}
use Rattle.std.proofs.lemmas.Option.{slice_get_cases, get_or_from_slice_get}
use Rattle.rl_prio.specs.Automaton.{Automaton, IsAutomaton, letters_count, accepting_state, dead_state, moves_at}
use Rattle.rl_prio.proofs.AutomatonLemmas.{moves_at-outside}
use Rattle.rl_sets.specs.Live.{below, holds, image}
use Rattle.rl_sets.proofs.LiveLemmas.{found_in, found_from}
use Rattle.rl_sets.proofs.SetLemmas.{same_tests, filter_same, holds-there, holds-from}
use Rattle.rl_equiv.specs.declared.pair.SetPair.{SetPair}
use Rattle.rl_equiv.specs.SetPairs.{first_pair, differs}
use Rattle.rl_equiv.specs.Numbering.{found_after, NoneDiffers}
use Rattle.rl_equiv.proofs.ImageLaws.{map-below}
use Rattle.rl_trim.specs.declared.judgement.Judgement.{Judgement}
use Rattle.rl_trim.specs.declared.judgement.Judgement.TheVariants.{Equal, Apart, Exceeded}
use Rattle.rl_trim.specs.Judged.{IsFound}
use Rattle.rl_trim.specs.Known.{whole_on, whole_nexts, whole_pairs}
use Rattle.rl_trim.specs.Twins.{is_kept, StandsIn, AreTwins, HasTwin}
use Rattle.rl_trim.specs.internal.Trims.{trimmed, trim_on, trim_nexts, set_ends, trim_pairs}
use Rattle.rl_trim.specs.Targets.{HasTargets, AreTargets}
use Rattle.rl_trim.specs.internal.Twins.{stand_in, FollowsAfter, StandsInAfter, IsReplaced, AreTwinsAfter}
use Rattle.rl_trim.proofs.SetLaws.{holds-member, holds-trimmed, filter-both, filter-all}
use Rattle.rl_trim.proofs.LiftLaws.{map-twice}
use Rattle.rl_trim.proofs.OrderLaws.{order-length, none-same, any-same}
use Rattle.rl_trim.proofs.TrimOrder.{all-below, trim-nexts}

not-false : (b : Bool) → not b ≡ true → b ≡ false
not-false true e = absurd (cc e)
not-false false e = refl

-- What holds of each member.
pub all-held : (P : ℕ → Type 0) (xs : List ℕ) (q : ℕ) → All P xs → holds xs q ≡ true → P q
all-held P [] q each h = absurd (cc h)
all-held P (x ∷ xs) q each h =
    elim (or_cases (eqb x q) (holds xs q) h) [
      | inl e ↦ subst P (eqb-true x q e) (All-head P x xs each)
      | inr e ↦ all-held P xs q (All-tail P x xs each) e
    ]

-- ---- the trial that leaves nothing out

all-kept : (q : ℕ) → is_kept [] q ≡ true
all-kept zero = refl
all-kept (suc p) = refl

whole-trimmed : (set : List ℕ) → trimmed [] set ≡ set
whole-trimmed set = filter-all (is_kept []) set (λ k d lt. all-kept (get_or set k d))

whole-next : (a : Automaton) (p : SetPair) (letter : ℕ) → trim_on a [] p letter ≡ whole_on a p letter
whole-next a p letter = let e = whole-trimmed (image a p.second letter) in λ i. record { first = image a p.first letter; second = e i }

-- Its pairs are those of the automaton and itself.
nothing-whole : (a : Automaton) → trim_pairs a [] ≡ whole_pairs a
unfolding trim_pairs whole_pairs
nothing-whole a =
    let e : (p : SetPair) → trim_nexts a [] p ≡ whole_nexts a p = λ p. map-below (trim_on a [] p) (whole_on a p) (letters_count a) (λ l lt. whole-next a p l) in
    λ i. record {
      nexts = λ p. e p i;
      ends_first = λ p. set_ends a p.first;
      ends_second = λ p. set_ends a p.second;
      proper = λ p. true;
    }

pub whole-found : (a : Automaton) (limit : ℕ) (j : Judgement) → IsFound (trim_pairs a []) limit j → IsFound (whole_pairs a) limit j
whole-found a limit j h = subst (λ d. IsFound d limit j) (nothing-whole a) h

pub whole-pairs-nexts : (a : Automaton) (p : SetPair) → (whole_pairs a).nexts p ≡ whole_nexts a p
unfolding whole_pairs
whole-pairs-nexts a p = refl

-- ---- sets that have, with each state, what stands in for it

-- The set holds states of the automaton, each with what stands in for it.
pub record IsDoubled (a : Automaton) (f : ℕ → ℕ) (set : List ℕ) : Type 0 where
  pub small : (q : ℕ) → holds set q ≡ true → q < a.states
  pub with_other : (q : ℕ) → holds set q ≡ true → holds set (f q) ≡ true

-- The pair is a set with itself, and each of its states has what stands in for it.
record IsTwice (a : Automaton) (f : ℕ → ℕ) (p : SetPair) : Type 0 where
  doubled : IsDoubled a f p.first
  same : p.second ≡ p.first

-- Whether a member of the set moves to a state.
abbrev moves_there : Automaton → List ℕ → ℕ → ℕ → Bool
moves_there a set letter t = list_any (λ q. holds (moves_at a q letter) t) set

-- Whether the state is in the image of the set.
abbrev reaches : Automaton → List ℕ → ℕ → ℕ → Bool
reaches a set letter t = not (eqb t (dead_state a)) && moves_there a set letter t

-- The pair of a first set and that set without the states that aren't kept.
abbrev with_trimmed : List Bool → SetPair → SetPair
with_trimmed keep p = record { first = p.first; second = trimmed keep p.first }

module _ (a : Automaton) (keep : List Bool) (f : ℕ → ℕ) (whole : IsAutomaton a) (twins : AreTwins a keep f) where
  pub start-doubled : IsDoubled a f (0 ∷ [])
  start-doubled = record { small = λ q h. omega (arith, zero-is q h, whole.three_states); with_other = λ q h. by q (zero-is q h) }
    where
      zero-is : (q : ℕ) → holds (0 ∷ []) q ≡ true → 0 ≡ q
      zero-is q h = elim (or_cases (eqb 0 q) false h) [ inl e ↦ eqb-true 0 q e | inr e ↦ absurd (cc e) ]

      by : (q : ℕ) → 0 ≡ q → holds (0 ∷ []) (f q) ≡ true
      by q e = let stays : f q ≡ 0 = ap f (sym e) ∙ twins.same 0 refl in ap (holds (0 ∷ [])) stays

  there : (set : List ℕ) (letter q t : ℕ) → letter ≤ letters_count a → IsDoubled a f set → holds set q ≡ true → holds (moves_at a q letter) t ≡ true → moves_there a set letter (f t) ≡ true
  there set letter q t le d h m =
      found_from (λ x. holds (moves_at a x letter) (f t)) set (f q) (d.with_other q h) ((twins.each q (d.small q h)).follows letter le t m)

  target-small : (set : List ℕ) (letter t : ℕ) → moves_there a set letter t ≡ true → t < a.states
  target-small set letter t m =
      let x = found_in (λ q. holds (moves_at a q letter) t) set m in
      all-held (λ r. r < a.states) (moves_at a x.0 letter) t (whole.targets x.0 letter) x.2

  pub image-doubled : (set : List ℕ) (letter : ℕ) → letter ≤ letters_count a → IsDoubled a f set → IsDoubled a f (image a set letter)
  unfolding image
  image-doubled set letter le d = record { small = λ t h. (holds-there (reaches a set letter) a.states t h).0; with_other = other }
    where
      other : (t : ℕ) → holds (filter (reaches a set letter) (below a.states)) t ≡ true → holds (filter (reaches a set letter) (below a.states)) (f t) ≡ true
      other t h =
          let in' = holds-there (reaches a set letter) a.states t h in
          let parts = and_parts (not (eqb t (dead_state a))) (moves_there a set letter t) in'.1 in
          let by = found_in (λ q. holds (moves_at a q letter) t) set parts.1 in
          let moved = there set letter by.0 t le d by.1 by.2 in
          let stays : f t ≢ dead_state a = (twins.each t in'.0).alive (λ e. both_ways (eqb t (dead_state a)) (not-false (eqb t (dead_state a)) parts.0) (eq-eqb t (dead_state a) e)) in
          holds-from (reaches a set letter) a.states (f t) (target-small set letter (f t) moved)
          (and_from (not (eqb (f t) (dead_state a))) (moves_there a set letter (f t)) (not_from_false (eqb (f t) (dead_state a)) (ne_eqb (f t) (dead_state a) stays)) moved)

  -- To a kept state, a set moves where its kept states do.
  moves-trimmed : (set : List ℕ) (letter t : ℕ) → letter ≤ letters_count a → IsDoubled a f set → is_kept keep t ≡ true → moves_there a (trimmed keep set) letter t ≡ moves_there a set letter t
  moves-trimmed set letter t le d k = same_tests (moves_there a (trimmed keep set) letter t) (moves_there a set letter t) onto back
    where
      onto : moves_there a (trimmed keep set) letter t ≡ true → moves_there a set letter t ≡ true
      onto e =
          let x = found_in (λ q. holds (moves_at a q letter) t) (trimmed keep set) e in
          let held = and_parts (is_kept keep x.0) (holds set x.0) (sym (holds-trimmed (is_kept keep) set x.0) ∙ x.1) in
          found_from (λ q. holds (moves_at a q letter) t) set x.0 held.1 x.2

      back : moves_there a set letter t ≡ true → moves_there a (trimmed keep set) letter t ≡ true
      back e =
          let x = found_in (λ q. holds (moves_at a q letter) t) set e in
          let other = twins.each x.0 (d.small x.0 x.1) in
          let held : holds (trimmed keep set) (f x.0) ≡ true = holds-trimmed (is_kept keep) set (f x.0) ∙ and_from (is_kept keep (f x.0)) (holds set (f x.0)) other.kept (d.with_other x.0 x.1) in
          let moved : holds (moves_at a (f x.0) letter) t ≡ true = subst (λ (n : ℕ). holds (moves_at a (f x.0) letter) n ≡ true) (twins.same t k) (other.follows letter le t x.2) in
          found_from (λ q. holds (moves_at a q letter) t) (trimmed keep set) (f x.0) held moved

  -- The image without the states that aren't kept is that of the kept states.
  pub image-trimmed : (set : List ℕ) (letter : ℕ) → letter ≤ letters_count a → IsDoubled a f set → trimmed keep (image a (trimmed keep set) letter) ≡ trimmed keep (image a set letter)
  unfolding image
  image-trimmed set letter le d =
      let kept = is_kept keep in
      let p = reaches a (trimmed keep set) letter in
      let r = reaches a set letter in
      sym (filter-both kept p (below a.states))
      ∙ filter_same (λ t. kept t && p t) (λ t. kept t && r t) a.states (λ t lt. by t (cases_Bool (kept t)))
      ∙ filter-both kept r (below a.states)
    where
      by : (t : ℕ) → (is_kept keep t ≡ true) ⊎ (is_kept keep t ≡ false) → (is_kept keep t && reaches a (trimmed keep set) letter t) ≡ (is_kept keep t && reaches a set letter t)
      by t (inl k) = ap (λ b. is_kept keep t && (not (eqb t (dead_state a)) && b)) (moves-trimmed set letter t le d k)
      by t (inr g) = and_left (is_kept keep t) (reaches a (trimmed keep set) letter t) g ∙ sym (and_left (is_kept keep t) (reaches a set letter t) g)

  kept-holds : (set : List ℕ) → holds (trimmed keep set) (accepting_state a) ≡ holds set (accepting_state a)
  kept-holds set = holds-trimmed (is_kept keep) set (accepting_state a) ∙ ap (λ b. b && holds set (accepting_state a)) twins.accepting

  -- The kept states of the set are led to the accepting state where the set is.
  pub ends-trimmed : (set : List ℕ) → IsDoubled a f set → set_ends a (trimmed keep set) ≡ set_ends a set
  ends-trimmed set d =
      let end = letters_count a in
      sym (kept-holds (image a (trimmed keep set) end))
      ∙ ap (λ (l : List ℕ). holds l (accepting_state a)) (image-trimmed set end (omega arith) d)
      ∙ kept-holds (image a set end)

  -- ---- pairs

  first-twice : IsTwice a f first_pair
  first-twice = record { doubled = start-doubled; same = refl }

  next-twice : (p : SetPair) → IsTwice a f p → (letter : ℕ) → letter < letters_count a → IsTwice a f (whole_on a p letter)
  next-twice p is letter lt = record {
    doubled = image-doubled p.first letter (omega arith) is.doubled;
    same = ap (λ (l : List ℕ). image a l letter) is.same;
  }

  nexts-twice : (p : SetPair) → IsTwice a f p → All (IsTwice a f) ((whole_pairs a).nexts p)
  nexts-twice p is =
      subst (All (IsTwice a f)) (sym (whole-pairs-nexts a p))
      (All-map (IsTwice a f) (whole_on a p) (below (letters_count a)) (all-below (λ l. IsTwice a f (whole_on a p l)) (letters_count a) (next-twice p is)))

  next-carried : (p : SetPair) → IsTwice a f p → (letter : ℕ) → letter < letters_count a → with_trimmed keep (whole_on a p letter) ≡ trim_on a keep (with_trimmed keep p) letter
  next-carried p is letter lt =
      let e = sym (image-trimmed p.first letter (omega arith) is.doubled) in
      λ i. record { first = image a p.first letter; second = e i }

  nexts-carried : (p : SetPair) → IsTwice a f p → map (with_trimmed keep) ((whole_pairs a).nexts p) ≡ (trim_pairs a keep).nexts (with_trimmed keep p)
  nexts-carried p is =
      ap (map (with_trimmed keep)) (whole-pairs-nexts a p)
      ∙ map-twice (with_trimmed keep) (whole_on a p) (below (letters_count a))
      ∙ map-below (λ l. with_trimmed keep (whole_on a p l)) (trim_on a keep (with_trimmed keep p)) (letters_count a) (next-carried p is)
      ∙ sym (trim-nexts a keep (with_trimmed keep p))

  one-carried : (p q : SetPair) → IsTwice a f p → IsTwice a f q → with_trimmed keep p ≡ with_trimmed keep q → p ≡ q
  one-carried p q is other e =
      let x = ap (λ (r : SetPair). r.first) e in
      let y = is.same ∙ x ∙ sym other.same in
      λ i. record { first = x i; second = y i }

  differs-carried : (p : SetPair) → IsTwice a f p → differs (whole_pairs a) p ≡ differs (trim_pairs a keep) (with_trimmed keep p)
  unfolding whole_pairs trim_pairs
  differs-carried p is = ap (λ (b : Bool). not (beq (set_ends a p.first) b)) (ap (set_ends a) is.same ∙ sym (ends-trimmed p.first is.doubled))

  pairs-length : (limit : ℕ) → length (found_after (trim_pairs a keep) limit) ≡ length (found_after (whole_pairs a) limit)
  pairs-length = order-length (whole_pairs a) (trim_pairs a keep) (IsTwice a f) (with_trimmed keep) refl first-twice nexts-twice nexts-carried one-carried

  pairs-none : (limit : ℕ) → NoneDiffers (whole_pairs a) limit → NoneDiffers (trim_pairs a keep) limit
  pairs-none = none-same (whole_pairs a) (trim_pairs a keep) (IsTwice a f) (with_trimmed keep) refl first-twice nexts-twice nexts-carried one-carried differs-carried

  found-carried : (limit : ℕ) (j : Judgement) → IsFound (whole_pairs a) limit j → IsFound (trim_pairs a keep) limit j
  found-carried limit Equal h = (omega (arith, h.0, pairs-length limit), pairs-none limit h.1)
  found-carried limit Apart h = any-same (whole_pairs a) (trim_pairs a keep) (IsTwice a f) (with_trimmed keep) refl first-twice nexts-twice nexts-carried one-carried differs-carried limit h
  found-carried limit Exceeded h = record { more = omega (arith, h.more, pairs-length limit); none_differs = pairs-none limit h.none_differs }

-- The trial of a branch that has an equal one beside it has the result of the trial that leaves nothing out.
pub twin-found : (a : Automaton) (keep : List Bool) (limit : ℕ) (j : Judgement) → HasTwin a keep → IsFound (whole_pairs a) limit j → IsFound (trim_pairs a keep) limit j
twin-found a keep limit j has = found-carried a keep has.stands_in has.whole has.are limit j

-- ---- further branches

-- Where nothing is left out, each state stands in for itself.
pub twin-nothing : (a : Automaton) → IsAutomaton a → HasTwin a []
twin-nothing a whole = record {
  whole = whole;
  stands_in = λ q. q;
  are = record {
    same = λ q k. refl;
    accepting = all-kept (accepting_state a);
    each = λ q lt. record { kept = all-kept q; alive = λ more. more; follows = λ letter le t h. h };
  };
}

-- What stands in for a state that was kept before stands in for what it stood in for.
module _ (a : Automaton) (before keep : List Bool) (f g : ℕ → ℕ) (whole : IsAutomaton a) (first : AreTwins a before f) (next : AreTwinsAfter a before keep g) where
  -- Numbers that aren't states have no moves, and get the accepting state.
  abbrev again : ℕ → ℕ
  again q = cond (nat_lt (f q) a.states) (g (f q)) (accepting_state a)

  abbrev replaced_twice : ℕ → ℕ
  replaced_twice q = cond (is_kept keep q) q (again q)

  again-is : (q : ℕ) → f q < a.states → again q ≡ g (f q)
  again-is q small = cond-true (nat_lt (f q) a.states) (g (f q)) (accepting_state a) (lt-ltb (f q) a.states small)

  kept-same : (q : ℕ) → q < a.states → is_kept keep q ≡ true → f q ≡ q
  kept-same q lt k = first.same q ((next.each q lt).fewer k)

  twice-is : (q : ℕ) → q < a.states → f q < a.states → replaced_twice q ≡ g (f q)
  twice-is q lt small = by (is_kept keep q) refl
    where
      by : (b : Bool) → is_kept keep q ≡ b → cond b q (again q) ≡ g (f q)
      by true k = sym (ap g (kept-same q lt k) ∙ next.same q k)
      by false k = again-is q small

  twice-past : (q : ℕ) → q < a.states → a.states ≤ f q → replaced_twice q ≡ accepting_state a
  twice-past q lt past = by (is_kept keep q) refl
    where
      by : (b : Bool) → is_kept keep q ≡ b → cond b q (again q) ≡ accepting_state a
      by true k = absurd (omega (arith, lt, past, kept-same q lt k))
      by false k = cond-false (nat_lt (f q) a.states) (g (f q)) (accepting_state a) (le-ltb (f q) a.states past)

  moved-small : (q letter t : ℕ) → holds (moves_at a q letter) t ≡ true → t < a.states
  moved-small q letter t h = all-held (λ r. r < a.states) (moves_at a q letter) t (whole.targets q letter) h

  mover-small : (q letter t : ℕ) → holds (moves_at a q letter) t ≡ true → q < a.states
  mover-small q letter t h =
      elim (cases_lt q a.states) [
        | inl lt ↦ lt
        | inr past ↦ absurd (false≢true (subst (λ (l : List ℕ). holds l t ≡ true) (moves_at-outside a q letter (inl past)) h))
      ]

  each-twice : (q : ℕ) → q < a.states → (f q < a.states) ⊎ (a.states ≤ f q) → StandsIn a keep replaced_twice q
  each-twice q lt (inl small) =
      let x = first.each q lt in
      let y = (next.each (f q) small).stands x.kept in
      let e = twice-is q lt small in
      record {
        kept = subst (λ n. is_kept keep n ≡ true) (sym e) y.kept;
        alive = λ more d. y.alive (x.alive more) (sym e ∙ d);
        follows = λ letter le t h.
            let m = x.follows letter le t h in
            let there = moved-small q letter t h in
            let n = y.follows letter le (f t) (first.each t there).kept m in
            subst (λ k. holds (moves_at a k letter) (replaced_twice t) ≡ true) (sym e)
            (subst (λ k. holds (moves_at a (g (f q)) letter) k ≡ true) (sym (twice-is t there (moved-small (f q) letter (f t) m))) n);
      }
  each-twice q lt (inr past) =
      let e = twice-past q lt past in
      record {
        kept = subst (λ n. is_kept keep n ≡ true) (sym e) next.accepting;
        alive = λ more d. omega (arith, whole.three_states, sym e ∙ d);
        follows = λ letter le t h. absurd (omega (arith, past, mover-small (f q) letter (f t) ((first.each q lt).follows letter le t h)));
      }

  twins-twice : AreTwins a keep replaced_twice
  twins-twice = record {
    same = λ q k. cond-true (is_kept keep q) q (again q) k;
    accepting = next.accepting;
    each = λ q lt. each-twice q lt (cases_lt (f q) a.states);
  }

pub twin-after : (a : Automaton) (before keep : List Bool) (g : ℕ → ℕ) → HasTwin a before → AreTwinsAfter a before keep g → HasTwin a keep
twin-after a before keep g has next = record {
  whole = has.whole;
  stands_in = replaced_twice a before keep has.stands_in g has.whole has.are next;
  are = twins-twice a before keep has.stands_in g has.whole has.are next;
}

-- ---- the targets of a state

-- A state follows another one on a letter once all targets were looked at.
pub follows-all : (a : Automaton) (before : List Bool) (f : ℕ → ℕ) (state other letter i : ℕ) (found targets : List ℕ) → found ≡ moves_at a other letter → targets ≡ moves_at a state letter → other ≡ f state
    → length targets ≤ i → All (λ t. is_kept before t ≡ true → holds found (f t) ≡ true) (take i targets) → FollowsAfter a before f state letter
follows-all a before f state other letter i found targets found_is targets_is o all each t k h =
    let here : holds found (f t) ≡ true =
    all-held (λ (t : ℕ). is_kept before t ≡ true → holds found (f t) ≡ true) targets t (subst (All (λ t. is_kept before t ≡ true → holds found (f t) ≡ true)) (take_all i targets all) each)
    (subst (λ (l : List ℕ). holds l t ≡ true) (sym targets_is) h) k in
    subst (λ (l : List ℕ). holds l (f t) ≡ true) (found_is ∙ ap (λ q. moves_at a q letter) o) here

-- A target of a kept state that is kept itself is there.
pub target-stays : (a : Automaton) (state other letter i wanted : ℕ) (found targets : List ℕ) → found ≡ moves_at a other letter → targets ≡ moves_at a state letter → other ≡ state
    → i < length targets → wanted ≡ get_or targets i 0 → holds found wanted ≡ true
target-stays a state other letter i wanted found targets found_is targets_is same lt e =
    let one : targets ≡ found = targets_is ∙ ap (λ q. moves_at a q letter) (sym same) ∙ sym found_is in
    subst (λ (l : List ℕ). holds l wanted ≡ true) one (subst (λ q. holds targets q ≡ true) (sym e) (holds-member targets i 0 lt))

-- ---- lists of targets

-- The list has all targets on the letters before, and the first `i` of those on this letter.
abbrev pub IsAppending : Automaton → ℕ → ℕ → List ℕ → ℕ → List ℕ → Type 0
IsAppending a state letter targets i list = HasTargets a state letter list × All (λ t. holds list t ≡ true) (take i targets)

held-still : (xs : List ℕ) (t q : ℕ) → holds xs q ≡ true → holds (xs ++ t ∷ []) q ≡ true
held-still xs t q e = list_any-append (λ x. eqb x q) xs (t ∷ []) ∙ or_left (holds xs q) (holds (t ∷ []) q) e

held-pushed : (xs : List ℕ) (t : ℕ) → holds (xs ++ t ∷ []) t ≡ true
held-pushed xs t = list_any-append (λ x. eqb x t) xs (t ∷ []) ∙ or_right (holds xs t) (holds (t ∷ []) t) (or_left (eqb t t) false (eq-eqb t t refl))

held-got : (xs : List ℕ) (i t : ℕ) → slice_get xs i ≡ Some t → holds xs t ≡ true
held-got xs i t e =
    elim (slice_get_cases xs i).1 [
      | inl h ↦ subst (λ q. holds xs q ≡ true) (get_or_from_slice_get xs i t 0 e) (holds-member xs i 0 h.1)
      | inr h ↦ absurd (cc (sym h.1 ∙ e))
    ]

-- The list has one target more once it is appended.
pub appending-more : (a : Automaton) (state letter : ℕ) (targets : List ℕ) (i : ℕ) (list longer : List ℕ) → longer ≡ list ++ get_or targets i 0 ∷ [] → i < length targets
    → IsAppending a state letter targets i list → IsAppending a state letter targets (i + 1) longer
appending-more a state letter targets i list longer e lt has =
    let t = get_or targets i 0 in
    subst (IsAppending a state letter targets (i + 1)) (sym e)
    ((λ l q low h. held-still list t q (has.0 l q low h)), All-more (λ q. holds (list ++ t ∷ []) q ≡ true) targets i 0 lt (λ k d low. held-still list t _ (has.1 k d low)) (held-pushed list t))

-- It has it already if it is the list's last one.
pub appending-same : (a : Automaton) (state letter : ℕ) (targets : List ℕ) (i : ℕ) (list : List ℕ) → i < length targets → slice_get list (length list - 1) ≡ Some (get_or targets i 0)
    → IsAppending a state letter targets i list → IsAppending a state letter targets (i + 1) list
appending-same a state letter targets i list lt last has = (has.0, All-more (λ q. holds list q ≡ true) targets i 0 lt has.1 (held-got list (length list - 1) (get_or targets i 0) last))

-- Once it has all targets on this letter, it has those on all letters up to this one.
pub appending-done : (a : Automaton) (state letter : ℕ) (targets : List ℕ) (i : ℕ) (list : List ℕ) → targets ≡ moves_at a state letter → length targets ≤ i
    → IsAppending a state letter targets i list → HasTargets a state (letter + 1) list
appending-done a state letter targets i list is all has l t low h =
    elim (cases_lt l letter) [
      | inl less ↦ has.0 l t less h
      | inr ge ↦
          let e : l ≡ letter = omega arith in
          all-held (λ q. holds list q ≡ true) targets t (subst (All (λ q. holds list q ≡ true)) (take_all i targets all) has.1)
          (subst (λ (m : List ℕ). holds m t ≡ true) (ap (moves_at a state) e ∙ sym is) h)
    ]

stand-same : (keep : List Bool) (distance q : ℕ) → is_kept keep q ≡ true → stand_in keep distance q ≡ q
stand-same keep distance q e = cond-true (is_kept keep q) q ((q + distance) % 2 ^ 32) e

still-kept : (b k : Bool) → b ≡ true → (b && not k) ≡ false → k ≡ true
still-kept true true e h = refl
still-kept true false e h = absurd (cc h)
still-kept false k e h = absurd (cc e)

-- A kept state with no target to be replaced stands in for itself.
pub stays-in : (a : Automaton) (before keep : List Bool) (distance q : ℕ) (list : List ℕ) → is_kept keep q ≡ true → HasTargets a q (suc (letters_count a)) list
    → All (λ t. (is_kept before t && not (is_kept keep t)) ≡ false) list → StandsInAfter a before keep (stand_in keep distance) q
stays-in a before keep distance q list kept has each = record {
  kept = subst (λ r. is_kept keep r ≡ true) (sym here) kept;
  alive = λ more e. more (sym here ∙ e);
  follows = λ letter le t k h.
      let stays : is_kept keep t ≡ true =
      still-kept (is_kept before t) (is_kept keep t) k (all-held (λ t. (is_kept before t && not (is_kept keep t)) ≡ false) list t each (has letter t (omega arith) h)) in
      let there : stand_in keep distance t ≡ t = stand-same keep distance t stays in
      subst (λ r. holds (moves_at a r letter) (stand_in keep distance t) ≡ true) (sym here) (subst (λ r. holds (moves_at a q letter) r ≡ true) (sym there) h);
}
  where
    here : stand_in keep distance q ≡ q
    here = stand-same keep distance q kept

-- The same with its list among those of all states.
pub listed-stays : (a : Automaton) (before keep : List Bool) (distance q : ℕ) (lists : List (List ℕ)) (list : List ℕ) → is_kept keep q ≡ true → q < a.states → AreTargets a a.states lists
    → list ≡ get_or lists q list → All (λ t. (is_kept before t && not (is_kept keep t)) ≡ false) list → StandsInAfter a before keep (stand_in keep distance) q
listed-stays a before keep distance q lists list kept lt are e each =
    let long : q < length lists = omega (arith, lt, are.0) in
    let here : get_or lists q [] ≡ list = get_or_default lists q [] list long ∙ sym e in
    stays-in a before keep distance q list kept (subst (HasTargets a q (suc (letters_count a))) here (are.1 q lt)) each

-- ---- all states

-- Where the states from `first` on are replaced, and those before, all are.
pub all-after : (a : Automaton) (before keep : List Bool) (distance first states : ℕ) → states ≡ a.states → is_kept keep (accepting_state a) ≡ true
    → ((q : ℕ) → first ≤ q → q < states → IsReplaced a before keep (stand_in keep distance) q) → ((q : ℕ) → 0 ≤ q → q < first → IsReplaced a before keep (stand_in keep distance) q)
    → AreTwinsAfter a before keep (stand_in keep distance)
all-after a before keep distance first states count accepting late early = record {
  same = λ q k. stand-same keep distance q k;
  accepting = accepting;
  each = λ q lt. by q lt (cases_lt q first);
}
  where
    by : (q : ℕ) → q < a.states → (q < first) ⊎ (first ≤ q) → IsReplaced a before keep (stand_in keep distance) q
    by q lt (inl less) = early q (omega arith) less
    by q lt (inr ge) = late q ge (omega (arith, lt, count))
