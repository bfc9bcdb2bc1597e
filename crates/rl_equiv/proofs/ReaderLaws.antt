-- Laws of automata of trees that are matched whole: no letter leads to the accepting state, and the end letter leads to
-- no other one. So what a search says about two automata is true of the trees that they stand for.
use Rattle.std.proofs.Common.{◌≡◌, ◌≢◌, ◌∙◌, ℕ, zero, suc, ◌/◌, ◌<◌, ◌⊎◌, inl, inr, List, [], ◌∷◌, ◌++◌, length, get_or, map, filter, slice_get, Option, Some, All, Bool, true, false, not, ◌||◌, ◌&&◌, cond, eqb, eqb-true, eq-eqb, ne_eqb, nat_lt, if◌then◌else◌, refl, sym, ap, ap₂, subst, arith}
use Rattle.std.specs.List.{list_any, list_all}
use Rattle.std.proofs.lemmas.Bool.{false≢true, both_ways, and_parts, and_from, or_cases, or_left, or_from, cond_both, lt-ltb, false_from_ne_true}
use Rattle.std.proofs.lemmas.List.Elements.{All-nil, All-cons, All-head, All-tail}
use Rattle.std.proofs.lemmas.List.Folds.{list_all-append, list_any-append}
use Rattle.std.proofs.lemmas.Nat.{mul-add-lt}
use Rattle.std.proofs.lemmas.Option.{slice_get-get_or}
use Rattle.rl_ranges.specs.declared.universe.Universe.{Universe}
use Rattle.rl_ranges.specs.Letters.{classes, letter_at}
use Rattle.rl_ranges.specs.Text.{code_count, IsText}
use Rattle.rl_ranges.proofs.LetterLemmas.{class_of-lt, classes-below}
use Rattle.rl_syntax.specs.declared.re.Ending.TheVariants.{AtEnd}
use Rattle.rl_syntax.specs.Tree.{Tree, places, guard_sets}
use Rattle.rl_syntax.specs.Cost.{matched}
use Rattle.rl_prio.specs.Items.{Item, test_at, pass, after, set_of as place_set, all_hold}
use Rattle.rl_prio.specs.Letters.{all_sets, kinds, kind_of}
use Rattle.rl_prio.specs.States.{place_states, state_of, accepting, dead, test_target, end_target, moves_on, items_of, kind_before}
use Rattle.rl_prio.specs.Automaton.{Automaton, IsAutomaton, letters_count, accepting_state, dead_state, moves_at}
use Rattle.rl_prio.specs.Walk.{word_at}
use Rattle.rl_prio.specs.StandsFor.{StandsOver}
use Rattle.rl_prio.proofs.LikenessLemmas.{Finer-itself, Finer-first, Finer-second, ItemsKnown, first-known, after-known}
use Rattle.rl_prio.proofs.MatchLemmas.{matched_to_end}
use Rattle.rl_prio.proofs.WholeLemmas.{end_moves}
use Rattle.rl_sets.specs.Live.{below, holds, set_where, image, refuses}
use Rattle.rl_sets.specs.Walk.{set_of}
use Rattle.rl_sets.proofs.SetLemmas.{same_tests, filter_same, filter-below_suc}
use Rattle.rl_sets.proofs.LiveLemmas.{found_in}
use Rattle.rl_equiv.specs.SetPairs.{joint_sets, SetPairs, set_pairs}
use Rattle.rl_equiv.specs.Languages.{IsIn, IsOfOne, IsTrueAnswer}
use Rattle.rl_equiv.specs.Numbering.{IsAnswer}
use Rattle.rl_equiv.specs.declared.sameness.Sameness.{Sameness}
use Rattle.rl_equiv.specs.declared.sameness.Sameness.TheVariants.{Equal, Apart, Passed}
use Rattle.rl_equiv.specs.Joined.{StandTogether}
use Rattle.rl_equiv.specs.internal.Machines.{all_proper, pairs_of}
use Rattle.rl_equiv.specs.internal.Searching.{IsReader, AreReaders, sample_of, IsApart, TellsApart}
use Rattle.rl_equiv.proofs.RiseLaws.{rises-under, rises-below}
use Rattle.rl_equiv.proofs.ImageLaws.{moves-all, same_count, pairs_of-trees}
use Rattle.rl_equiv.proofs.ClosedLaws.{letters-same, matched-refuses, closed-same}

-- ---- letters

holds-append : (l m : List ℕ) (q : ℕ) → holds (l ++ m) q ≡ (holds l q || holds m q)
holds-append l m q = list_any-append (λ x. eqb x q) l m

-- If a code follows, no move of known items leads to the accepting state.
module _ (t : Tree) (n c : ℕ) (in_codes : c < n) (before : Option ℕ) where
  place_below : (p : ℕ) → p < places t → state_of t n p (kind_of t n c) < accepting t n
  place_below p in_places =
      omega (arith, mul-add-lt p (length (kinds t n)) (kind_of t n c) (places t) in_places (class_of-lt (guard_sets t) n c in_codes))

  not_test : (p : ℕ) → p < places t → test_target t n p (Some c) ≢ accepting t n
  not_test p in_places =
      cond_both (place_set t 0 p c) (state_of t n p (kind_of t n c)) (dead t n) (λ q. q ≢ accepting t n) (λ _ e. omega (arith, place_below p in_places, e)) (λ _ e. omega (arith, e))

  one-free : (b : Bool) (q : ℕ) → q ≢ accepting t n → holds (if b then q ∷ [] else []) (accepting t n) ≡ false
  one-free true q other = or_from (eqb q (accepting t n)) false (ne_eqb q (accepting t n) other) refl
  one-free false q other = refl

  free-on : (l : List Item) → ItemsKnown (guard_sets t) (places t) l → holds (moves_on t AtEnd n before (Some c) l) (accepting t n) ≡ false
  free-on [] known = refl
  free-on (test_at gs p ∷ l) known =
      let here = if all_hold gs before (Some c) then test_target t n p (Some c) ∷ [] else [] in
      holds-append here (moves_on t AtEnd n before (Some c) l) (accepting t n)
      ∙ or_from (holds here (accepting t n)) (holds (moves_on t AtEnd n before (Some c) l) (accepting t n)) (one-free (all_hold gs before (Some c)) (test_target t n p (Some c)) (not_test p known.1)) (free-on l known.2)
  free-on (pass gs ∷ l) known =
      let here = if all_hold gs before (Some c) then end_target t AtEnd n (Some c) ∷ [] else [] in
      holds-append here (moves_on t AtEnd n before (Some c) l) (accepting t n)
      ∙ or_from (holds here (accepting t n)) (holds (moves_on t AtEnd n before (Some c) l) (accepting t n)) (one-free (all_hold gs before (Some c)) (end_target t AtEnd n (Some c)) (λ e. omega (arith, e))) (free-on l known.1)

items-known : (t : Tree) (n q : ℕ) → ItemsKnown (guard_sets t) (places t) (items_of t n q)
items-known t n zero = first-known (guard_sets t) (places t) t 0 (omega arith) (Finer-itself (guard_sets t))
items-known t n (suc r) =
    cond_both (nat_lt r (place_states t n)) (after t 0 (r / length (kinds t n))) [] (ItemsKnown (guard_sets t) (places t))
    (λ _. after-known (guard_sets t) (places t) t 0 (r / length (kinds t n)) (omega arith) (Finer-itself (guard_sets t))) (λ _. tt)

all-filter : (f p : ℕ → Bool) (n : ℕ) → ((q : ℕ) → q < n → p q ≡ true → f q ≡ true) → list_all f (filter p (below n)) ≡ true
all-filter f p zero each = refl
all-filter f p (suc n) each =
    ap (list_all f) (filter-below_suc p n)
    ∙ list_all-append f (filter p (below n)) (cond (p n) (n ∷ []) [])
    ∙ and_from (list_all f (filter p (below n))) (list_all f (cond (p n) (n ∷ []) [])) (all-filter f p n (λ q lt. each q (omega arith))) (last (p n) (each n (omega arith)))
  where
    last : (b : Bool) → (b ≡ true → f n ≡ true) → list_all f (cond b (n ∷ []) []) ≡ true
    last true h = and_from (f n) true (h refl) refl
    last false h = refl

-- What holds for each member of a list holds for this one.
held : (P : ℕ → Type 0) (l : List ℕ) (x : ℕ) → All P l → holds l x ≡ true → P x
held P [] x each e = absurd (false≢true e)
held P (y ∷ l) x each e =
    elim (or_cases (eqb y x) (holds l x) e) [
      | inl here ↦ subst P (eqb-true y x here) (All-head P y l each)
      | inr later ↦ held P l x (All-tail P y l each) later
    ]

one-held : (y x : ℕ) → holds (y ∷ []) x ≡ true → y ≡ x
one-held y x e = elim (or_cases (eqb y x) false e) [ inl h ↦ eqb-true y x h | inr h ↦ absurd (false≢true h) ]

module _ (a : Automaton) (t : Tree) (sets : List (ℕ → Bool)) (whole : IsAutomaton a) (stands : StandsOver a t AtEnd sets) where
  no-accept : (letter : ℕ) → letter < letters_count a → (q : ℕ) → holds (moves_at a q letter) (accepting_state a) ≡ false
  no-accept letter lt q =
      let n = a.table.codes in
      let in_classes : letter < length (classes sets n) = omega (arith, stands.same_letters.same_count) in
      let c = get_or (classes sets n) letter 0 in
      let read : slice_get (classes sets n) letter ≡ Some c = slice_get-get_or (classes sets n) letter 0 in_classes in
      let acc : accepting_state a ≡ accepting t n = omega (arith, stands.same_states) in
      ap₂ holds (moves-all a t sets stands letter (omega arith) q ∙ ap (λ (o : Option ℕ). moves_on t AtEnd n (kind_before t n q) o (items_of t n q)) read) acc
      ∙ free-on t n c (classes-below sets n letter in_classes) (kind_before t n q) (items_of t n q) (items-known t n q)

  on-letters : (set : List ℕ) (letter : ℕ) → letter < letters_count a → all_proper a (image a set letter) ≡ true
  unfolding image
  on-letters set letter lt =
      let reached = λ (x : ℕ). not (eqb x (dead_state a)) && list_any (λ q. holds (moves_at a q letter) x) set in
      rises-under 0 a.states (accepting_state a) (filter reached (below a.states)) (rises-below reached a.states)
      (all-filter (λ q. nat_lt q (accepting_state a)) reached a.states
      (λ q small e.
      let p = and_parts (not (eqb q (dead_state a))) (list_any (λ r. holds (moves_at a r letter) q) set) e in
      let r = found_in (λ r. holds (moves_at a r letter) q) set p.1 in
      let alive : q ≢ dead_state a = λ d. false≢true (sym (ap not (eq-eqb q (dead_state a) d)) ∙ p.0) in
      let other : q ≢ accepting_state a = λ d. both_ways (holds (moves_at a r.0 letter) (accepting_state a)) (no-accept letter lt r.0) (subst (λ (x : ℕ). holds (moves_at a r.0 letter) x ≡ true) d r.2) in
      lt-ltb q (accepting_state a) (omega (arith, whole.three_states))))

  at-end : (set : List ℕ) → (image a set (letters_count a) ≡ set_of a []) ⊎ (image a set (letters_count a) ≡ set_of a (accepting_state a ∷ []))
  unfolding image
  at-end set = by (list_any (λ q. holds (moves_at a q (letters_count a)) (accepting_state a)) set) refl
    where
      only : (x : ℕ) → not (eqb x (dead_state a)) && list_any (λ q. holds (moves_at a q (letters_count a)) x) set ≡ true → x ≡ accepting_state a
      only x e =
          let p = and_parts (not (eqb x (dead_state a))) (list_any (λ q. holds (moves_at a q (letters_count a)) x) set) e in
          let r = found_in (λ q. holds (moves_at a q (letters_count a)) x) set p.1 in
          elim (held (λ y. (y ≡ accepting_state a) ⊎ (y ≡ dead_state a)) (moves_at a r.0 (letters_count a)) x (end_moves a t AtEnd sets stands r.0) r.2) [
            | inl acc ↦ acc
            | inr dead ↦ absurd (false≢true (sym (ap not (eq-eqb x (dead_state a) dead)) ∙ p.0))
          ]

      by : (b : Bool) → list_any (λ q. holds (moves_at a q (letters_count a)) (accepting_state a)) set ≡ b
          → (set_where a (λ x. not (eqb x (dead_state a)) && list_any (λ q. holds (moves_at a q (letters_count a)) x) set) ≡ set_of a [])
          ⊎ (set_where a (λ x. not (eqb x (dead_state a)) && list_any (λ q. holds (moves_at a q (letters_count a)) x) set) ≡ set_of a (accepting_state a ∷ []))
      by true e = inr (filter_same _ (holds (accepting_state a ∷ [])) a.states (λ x lt. same_tests _ _
          (λ h. or_left (eqb (accepting_state a) x) false (eq-eqb (accepting_state a) x (sym (only x h))))
          (λ h. let here : accepting_state a ≡ x = one-held (accepting_state a) x h in
          subst (λ (y : ℕ). not (eqb y (dead_state a)) && list_any (λ q. holds (moves_at a q (letters_count a)) y) set ≡ true) here
          (and_from (not (eqb (accepting_state a) (dead_state a))) (list_any (λ q. holds (moves_at a q (letters_count a)) (accepting_state a)) set)
          (ap not (ne_eqb (accepting_state a) (dead_state a) (λ d. omega (arith, whole.three_states)))) e))))
      by false e = inl (filter_same _ (holds []) a.states (λ x lt. false_from_ne_true _ (λ h.
          both_ways (list_any (λ q. holds (moves_at a q (letters_count a)) (accepting_state a)) set) e
          (subst (λ (y : ℕ). list_any (λ q. holds (moves_at a q (letters_count a)) y) set ≡ true) (only x h) (and_parts (not (eqb x (dead_state a))) (list_any (λ q. holds (moves_at a q (letters_count a)) x) set) h).1))))

  pub reads : IsReader a
  reads = record { whole = whole; on_letters = on-letters; at_end = at-end }

pub are-readers : (u : Universe) (s t : Tree) (a b : Automaton) → StandTogether u s t a b → AreReaders a b
are-readers u s t a b st = record {
  first_reads = reads a s (joint_sets s t) st.first_whole st.first_stands;
  second_reads = reads b t (joint_sets s t) st.second_whole st.second_stands;
  same_letters = same_count u s t a b st;
}

-- ---- texts

-- The letters of the samples of letters are these letters.
pub samples-back : (u : Universe) (s t : Tree) (a b : Automaton) → StandTogether u s t a b → (word : List ℕ) → All (λ l. l < letters_count a) word
    → IsText u (map (sample_of a) word) × (map (letter_at a.table) (map (sample_of a) word) ≡ word)
samples-back u s t a b st [] small = (All-nil (λ c. c < code_count u), refl)
samples-back u s t a b st (l ∷ word) small =
    let letters = st.first_stands.same_letters in
    let x = letters.same_sample l (All-head (λ k. k < letters_count a) l word small) in
    let more = samples-back u s t a b st word (All-tail (λ k. k < letters_count a) l word small) in (
      All-cons (λ c. c < code_count u) (sample_of a l) (map (sample_of a) word) (omega (arith, x.within, st.first_codes)) more.0,
      ap₂ (λ (y : ℕ) (ys : List ℕ). y ∷ ys) (letters.same_letter (sample_of a l) x.within ∙ x.in_it) more.1,
    )

one-of : (u : Universe) (s t : Tree) (w : List ℕ) → IsText u w → not (matched s AtEnd w) ≢ not (matched t AtEnd w) → IsOfOne u s t w
one-of u s t w text other = record { text = text; one = by (matched s AtEnd w) (matched t AtEnd w) refl refl }
  where
    by : (x y : Bool) → matched s AtEnd w ≡ x → matched t AtEnd w ≡ y → (IsIn s w × (IsIn t w → ⊥)) ⊎ ((IsIn s w → ⊥) × IsIn t w)
    by true true e f = absurd (other (ap not (e ∙ sym f)))
    by true false e f = inl ((matched_to_end s w).0 e, λ i. false≢true (sym f ∙ (matched_to_end t w).1 i))
    by false true e f = inr (λ i. false≢true (sym e ∙ (matched_to_end s w).1 i), (matched_to_end t w).0 f)
    by false false e f = absurd (other (ap not (e ∙ sym f)))

-- A text that tells the automata apart is in exactly one of the languages.
module _ (u : Universe) (s t : Tree) (a b : Automaton) (st : StandTogether u s t a b) where
  apart-told : (w : List ℕ) → IsApart a b w → IsOfOne u s t w
  apart-told w i =
      let x = samples-back u s t a b st i.word i.small in
      let text : IsText u w = subst (IsText u) (sym i.spelled) x.0 in
      let first_word : word_at a w ≡ i.word ++ letters_count a ∷ [] = ap (λ (l : List ℕ). map (letter_at a.table) l ++ letters_count a ∷ []) i.spelled ∙ ap (λ (l : List ℕ). l ++ letters_count a ∷ []) x.1 in
      let second_word : word_at b w ≡ i.word ++ letters_count b ∷ [] =
      ap (λ (l : List ℕ). l ++ letters_count b ∷ []) (sym (letters-same u s t a b st w text) ∙ ap (map (letter_at a.table)) i.spelled ∙ x.1) in
      let first = matched-refuses u s a (joint_sets s t) st.first_whole st.first_stands (Finer-first (all_sets s) (all_sets t)) st.first_codes w text in
      let second = matched-refuses u t b (joint_sets s t) st.second_whole st.second_stands (Finer-second (all_sets s) (all_sets t)) st.second_codes w text in
      one-of u s t w text (λ e. i.apart (ap (refuses a (0 ∷ [])) (sym first_word) ∙ first ∙ e ∙ sym second ∙ ap (refuses b (0 ∷ [])) second_word))

  pub answer-told : (limit : ℕ) (found : Sameness) → IsAnswer (pairs_of a b) limit found → TellsApart a b found → IsAnswer (set_pairs u s t) limit found × IsTrueAnswer u s t found
  answer-told limit found answer apart =
      let here : IsAnswer (set_pairs u s t) limit found = subst (λ (d : SetPairs). IsAnswer d limit found) (pairs_of-trees u s t a b st) answer in
      (here, by found here apart)
    where
      by : (x : Sameness) → IsAnswer (set_pairs u s t) limit x → TellsApart a b x → IsTrueAnswer u s t x
      by (Equal relation) h k = closed-same u s t a b relation st h.closed
      by (Apart text) h k = apart-told text k
      by Passed h k = tt
