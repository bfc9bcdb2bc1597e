-- Lemmas on the search for a refused rest.
use Rattle.std.proofs.Common.{◌≡◌, ℕ, ◌+◌, ◌<◌, ◌≤◌, ◌⊎◌, true, false, List, [], ◌∷◌, ◌++◌, length, get_or, Result, Ok, Err, IfOk, IfErr, OnErr, refl, sym, ap, ◌∙◌, subst, inl, inr, arith}
use Rattle.std.proofs.lemmas.Bool.{cases_lt, cases_eq}
use Rattle.std.proofs.lemmas.List.{length_push, get_or_append_left, get_or_push}
use Rattle.rl_prio.specs.Automaton.{Automaton, IsAutomaton, letters_count, accepting_state}
use Rattle.rl_sets.specs.declared.rests.Way.{Way}
use Rattle.rl_sets.specs.Live.{holds, image, IsLive}
use Rattle.std.proofs.lemmas.Option.{slice_get_within, get_or_from_slice_get}
use Rattle.rl_sets.specs.declared.error.SetsError.{SetsError}
use Rattle.rl_sets.specs.declared.error.SetsError.TheVariants.{Sets}
use Rattle.rl_sets.specs.Rests.{Reached, here, further, IsGrown, IsOver}
use Rattle.rl_sets.specs.Walk.{Walk, set_at, IsMadeFor, IsListed, IsFull}
use Rattle.rl_sets.specs.internal.Search.{Found, number_at, way_at, root_way, found_set, IsStep, IsSearch, IsCovered, IsPast, IsLookedAt, Extends, IsImageAt}
use Rattle.rl_sets.proofs.LiveLemmas.{all-dead}
use Rattle.rl_sets.proofs.GrowthLemmas.{grown-length, set-kept, IsGrown-same, IsGrown-listed, IsOver-full}

module _ (a : Automaton) (from : List ℕ) (old new : Walk) (f : Found) (s : IsSearch a old f) (g : IsGrown a from old.sets new.sets) where
  -- The found sets stay.
  pub found-kept : (i : ℕ) → i < length f.numbers → found_set new f i ≡ found_set old f i
  found-kept i lt = set-kept (number_at f i) g (s.within i lt)

  pub IsSearch-grown : IsSearch a new f
  IsSearch-grown = record {
    some = s.some;
    paired = s.paired;
    within = λ i lt. omega (arith, s.within i lt, grown-length g);
    free = λ i lt. ap (λ x. holds x (accepting_state a)) (found-kept i lt) ∙ s.free i lt;
    reached = λ i lt. subst (λ x. Reached a x (found_set new f i)) (sym (found-kept 0 s.some)) (subst (Reached a (found_set old f 0)) (sym (found-kept i lt)) (s.reached i lt));
    steps = λ i some lt.
        let step = s.steps i some lt in
        record {
          earlier = step.earlier;
          small = step.small;
          image_is = found-kept i lt ∙ step.image_is ∙ ap (λ x. image a x (way_at f i).letter) (sym (found-kept (way_at f i).parent (omega (arith, step.earlier))));
        };
  }

  pub IsLookedAt-grown : (k c : ℕ) → IsLookedAt a old f k c → IsLookedAt a new f k c
  IsLookedAt-grown k c looked = record {
    ended = λ i less lt. ap (λ x. holds (image a x (letters_count a)) (accepting_state a)) (found-kept i lt) ∙ looked.ended i less lt;
    covered = λ i l past lt small.
        elim (looked.covered i l past lt small) [
          | inl h ↦ inl (h.0, h.1, found-kept h.0 h.1 ∙ h.2 ∙ ap (λ x. image a x l) (sym (found-kept i lt)))
          | inr dead ↦ inr (λ live. dead (subst (λ x. IsLive a (image a x l)) (found-kept i lt) live))
        ];
  }

-- ---- one more set
pub Extends-refl : (f : Found) → Extends f f
Extends-refl f = record { longer = omega arith; same = λ i lt. refl }

pub Extends-trans : (f g h : Found) → Extends f g → Extends g h → Extends f h
Extends-trans f g h x y = record {
  longer = omega (arith, x.longer, y.longer);
  same = λ i lt. y.same i (omega (arith, x.longer)) ∙ x.same i lt;
}

module _ (f : Found) (n : ℕ) (way : Way) where
  abbrev pub pushed : Found
  pushed = record { numbers = f.numbers ++ n ∷ []; ways = f.ways ++ way ∷ [] }

  number-old : (i : ℕ) → i < length f.numbers → number_at pushed i ≡ number_at f i
  number-old i lt = get_or_append_left f.numbers (n ∷ []) 0 i lt

  number-new : (i : ℕ) → i ≡ length f.numbers → number_at pushed i ≡ n
  number-new i e = get_or_push f.numbers n 0 i (sym e)

  pub Extends-pushed : Extends f pushed
  Extends-pushed = record { longer = omega (arith, length_push f.numbers n); same = number-old }

module _ (a : Automaton) (w : Walk) (f : Found) (n : ℕ) (way : Way) (s : IsSearch a w f) (parent_in : way.parent < length f.numbers) (small : way.letter < letters_count a) (at : IsImageAt a w f way.parent way.letter n)
    (free : holds (set_at w n) (accepting_state a) ≡ false) where
  set-old : (i : ℕ) → i < length f.numbers → found_set w (pushed f n way) i ≡ found_set w f i
  set-old i lt = ap (set_at w) (number-old f n way i lt)

  set-new : (i : ℕ) → i ≡ length f.numbers → found_set w (pushed f n way) i ≡ set_at w n
  set-new i e = ap (set_at w) (number-new f n way i e)

  pushed-step : (i : ℕ) → 0 < i → (i < length f.numbers) ⊎ (i ≡ length f.numbers) → IsStep a w (pushed f n way) i (way_at (pushed f n way) i)
  pushed-step i some (inl lt) =
      let step = s.steps i some lt in
      subst (IsStep a w (pushed f n way) i) (sym (get_or_append_left f.ways (way ∷ []) root_way i (omega (arith, s.paired)))) (record {
        earlier = step.earlier;
        small = step.small;
        image_is = set-old i lt ∙ step.image_is ∙ ap (λ x. image a x (way_at f i).letter) (sym (set-old (way_at f i).parent (omega (arith, step.earlier))));
      })
  pushed-step i some (inr e) =
      subst (IsStep a w (pushed f n way) i) (sym (get_or_push f.ways way root_way i (s.paired ∙ sym e))) (record {
        earlier = omega arith;
        small = small;
        image_is = set-new i e ∙ at.is ∙ ap (λ x. image a x way.letter) (sym (set-old way.parent parent_in));
      })

  reached-new : Reached a (found_set w f 0) (set_at w n)
  reached-new = subst (Reached a (found_set w f 0)) (sym at.is) (further way.letter (s.reached way.parent parent_in) (s.free way.parent parent_in) (omega arith))

  either : (i : ℕ) → i < length (f.numbers ++ n ∷ []) → (i < length f.numbers) ⊎ (i ≡ length f.numbers)
  either i lt = elim (cases_lt i (length f.numbers)) [ inl less ↦ inl less | inr more ↦ inr (omega (arith, length_push f.numbers n)) ]

  pub IsSearch-pushed : IsSearch a w (pushed f n way)
  IsSearch-pushed = record {
    some = omega (arith, length_push f.numbers n);
    paired = length_push f.ways way ∙ ap (λ k. k + 1) s.paired ∙ sym (length_push f.numbers n);
    within = λ i lt. elim (either i lt) [
      | inl less ↦ subst (λ k. k < length w.sets) (sym (number-old f n way i less)) (s.within i less)
      | inr e ↦ subst (λ k. k < length w.sets) (sym (number-new f n way i e)) at.within
    ];
    free = λ i lt. elim (either i lt) [
      | inl less ↦ ap (λ x. holds x (accepting_state a)) (set-old i less) ∙ s.free i less
      | inr e ↦ ap (λ x. holds x (accepting_state a)) (set-new i e) ∙ free
    ];
    reached = λ i lt. subst (λ x. Reached a x (found_set w (pushed f n way) i)) (sym (set-old 0 s.some)) (elim (either i lt) [
      | inl less ↦ subst (Reached a (found_set w f 0)) (sym (set-old i less)) (s.reached i less)
      | inr e ↦ subst (Reached a (found_set w f 0)) (sym (set-new i e)) reached-new
    ]);
    steps = λ i some lt. pushed-step i some (either i lt);
  }

-- What was looked at stays looked at.
pub IsLookedAt-extends : (a : Automaton) (w : Walk) (f g : Found) (k c : ℕ) → k < length f.numbers → Extends f g → IsLookedAt a w f k c → IsLookedAt a w g k c
IsLookedAt-extends a w f g k c in' x looked = record {
  ended = λ i less lt. ap (λ m. holds (image a (set_at w m) (letters_count a)) (accepting_state a)) (x.same i (omega arith)) ∙ looked.ended i less (omega arith);
  covered = λ i l past lt small.
      let old : i < length f.numbers = within-old i l past in
      elim (looked.covered i l past old small) [
        | inl h ↦ inl (h.0, omega (arith, h.1, x.longer), ap (set_at w) (x.same h.0 h.1) ∙ h.2 ∙ ap (λ m. image a (set_at w m) l) (sym (x.same i old)))
        | inr dead ↦ inr (λ live. dead (subst (λ m. IsLive a (image a (set_at w m) l)) (x.same i old) live))
      ];
}
  where
    within-old : (i l : ℕ) → IsPast k c i l → i < length f.numbers
    within-old i l (inl less) = omega arith
    within-old i l (inr here') = omega (arith, here'.0)

-- The next letter.
pub IsLookedAt-letter : (a : Automaton) (w : Walk) (f : Found) (k c : ℕ) → IsLookedAt a w f k c → IsCovered a w f (image a (found_set w f k) c) → IsLookedAt a w f k (c + 1)
IsLookedAt-letter a w f k c looked new = record {
  ended = looked.ended;
  covered = λ i l past lt small. by i l past lt small;
}
  where
    by : (i l : ℕ) → IsPast k (c + 1) i l → i < length f.numbers → l < letters_count a → IsCovered a w f (image a (found_set w f i) l)
    by i l (inl less) lt small = looked.covered i l (inl less) lt small
    by i l (inr at) lt small =
        elim (cases_lt l c) [
          | inl less ↦ looked.covered i l (inr (at.0, less)) lt small
          | inr more ↦
              let e : c ≡ l = omega (arith, at.1) in
              subst (λ m. IsCovered a w f (image a (found_set w f i) m)) e (subst (λ m. IsCovered a w f (image a (found_set w f m) c)) (sym at.0) new)
        ]

-- The next set.
pub IsLookedAt-next : (a : Automaton) (w : Walk) (f : Found) (k c : ℕ) → letters_count a ≤ c → holds (image a (found_set w f k) (letters_count a)) (accepting_state a) ≡ true → IsLookedAt a w f k c → IsLookedAt a w f (k + 1) 0
IsLookedAt-next a w f k c all end looked = record {
  ended = λ i less lt. elim (cases_lt i k) [
    | inl before ↦ looked.ended i before lt
    | inr after ↦ let e : k ≡ i = omega arith in subst (λ m. holds (image a (found_set w f m) (letters_count a)) (accepting_state a) ≡ true) e end
  ];
  covered = λ i l past lt small. by i l past lt small;
}
  where
    by : (i l : ℕ) → IsPast (k + 1) 0 i l → i < length f.numbers → l < letters_count a → IsCovered a w f (image a (found_set w f i) l)
    by i l (inl less) lt small = looked.covered i l (elim (cases_eq i k) [ inl e ↦ inr (e, omega arith) | inr other ↦ inl (omega arith) ]) lt small
    by i l (inr at) lt small = absurd (omega (arith, at.1))

-- If all sets were looked at, none of them refuses a rest.
pub all-looked : (a : Automaton) (w : Walk) (f : Found) (k : ℕ) → IsAutomaton a → IsSearch a w f → length f.numbers ≤ k → IsLookedAt a w f k 0 → (i : ℕ) → i < length f.numbers → IsLive a (found_set w f i) → ⊥
all-looked a w f k is s all looked i lt live =
    all-dead a is (length f.numbers) (found_set w f) s.free (λ j small. looked.ended j (omega arith) small) (λ j letter small below. looked.covered j letter (inl (omega arith)) small below) live.0 i lt live.1 live.2

-- The first set of a search.
pub IsSearch-start : (a : Automaton) (w : Walk) (n : ℕ) → n < length w.sets → holds (set_at w n) (accepting_state a) ≡ false → IsSearch a w (record { numbers = n ∷ []; ways = root_way ∷ [] })
IsSearch-start a w n lt free = record {
  some = omega arith;
  paired = refl;
  within = λ i small. let e : i ≡ 0 = omega arith in subst (λ k. get_or (n ∷ []) k 0 < length w.sets) (sym e) lt;
  free = λ i small. let e : i ≡ 0 = omega arith in subst (λ k. holds (set_at w (get_or (n ∷ []) k 0)) (accepting_state a) ≡ false) (sym e) free;
  reached = λ i small. let e : i ≡ 0 = omega arith in subst (λ k. Reached a (set_at w n) (set_at w (get_or (n ∷ []) k 0))) (sym e) here;
  steps = λ i some small. absurd (omega arith);
}

pub IsLookedAt-start : (a : Automaton) (w : Walk) (f : Found) → IsLookedAt a w f 0 0
IsLookedAt-start a w f = record {
  ended = λ i less lt. absurd (omega arith);
  covered = λ i l past lt small. absurd (none i l past);
}
  where
    none : (i l : ℕ) → IsPast 0 0 i l → ⊥
    none i l (inl less) = omega arith
    none i l (inr at) = omega (arith, at.1)

-- ---- a step from a found set
reached-step : (a : Automaton) (w : Walk) (f : Found) (place letter n : ℕ) → IsSearch a w f → place < length f.numbers → letter ≤ letters_count a → n ≡ number_at f place → Reached a (found_set w f 0) (image a (set_at w n) letter)
reached-step a w f place letter n s in' small e =
    subst (λ k. Reached a (found_set w f 0) (image a (set_at w k) letter)) (sym e) (further letter (s.reached place in') (s.free place in') small)

pub grown-step : (a : Automaton) (old new : Walk) (f : Found) (place letter n : ℕ) (r : Result ℕ SetsError) → IsSearch a old f → place < length f.numbers → letter ≤ letters_count a → n ≡ number_at f place
    → IfOk r (IsListed old.sets new.sets (image a (set_at old n) letter)) → OnErr r (new.sets ≡ old.sets) → IsGrown a (found_set old f 0) old.sets new.sets
grown-step a old new f place letter n (Ok k) s in' small e listed same = IsGrown-listed a (found_set old f 0) (image a (set_at old n) letter) old.sets new.sets k (reached-step a old f place letter n s in' small e) listed
grown-step a old new f place letter n (Err x) s in' small e listed same = IsGrown-same a (found_set old f 0) old.sets new.sets same

pub over-step : (a : Automaton) (old : Walk) (f : Found) (place letter n : ℕ) (r : Result ℕ SetsError) → IsMadeFor old a → IsSearch a old f → place < length f.numbers → letter ≤ letters_count a → n ≡ number_at f place
    → IfErr r (λ e. e ≡ Sets → IsFull old.sets old.limit (image a (set_at old n) letter)) → IfErr r (λ e. e ≡ Sets → IsOver a (found_set old f 0) old.sets old.limit)
over-step a old f place letter n (Ok k) made s in' small e full = tt
over-step a old f place letter n (Err x) made s in' small e full =
    λ is. IsOver-full a (found_set old f 0) (image a (set_at old n) letter) old.sets old made (IsGrown-same a (found_set old f 0) old.sets old.sets refl) (reached-step a old f place letter n s in' small e) (full is)

pub image-step : (a : Automaton) (old new : Walk) (f : Found) (place letter n : ℕ) (r : Result ℕ SetsError) → IsSearch a old f → place < length f.numbers → letter ≤ letters_count a → n ≡ number_at f place
    → IfOk r (IsListed old.sets new.sets (image a (set_at old n) letter)) → OnErr r (new.sets ≡ old.sets) → IfOk r (IsImageAt a new f place letter)
image-step a old new f place letter n (Err x) s in' small e listed same = tt
image-step a old new f place letter n (Ok k) s in' small e listed same =
    let g = grown-step a old new f place letter n (Ok k) s in' small e listed same in
    record {
      within = slice_get_within new.sets k (image a (set_at old n) letter) listed.stands;
      is = get_or_from_slice_get new.sets k (image a (set_at old n) letter) [] listed.stands ∙ ap (λ m. image a (set_at old m) letter) e ∙ ap (λ x. image a x letter) (sym (found-kept a (found_set old f 0) old new f s g place in'));
    }
