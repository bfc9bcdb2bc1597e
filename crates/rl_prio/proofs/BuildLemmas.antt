-- Lemmas on the automaton that is built: its rows are the moves of its tree.
use Rattle.std.proofs.Common.{◌≡◌, ℕ, zero, suc, ◌+◌, ◌*◌, ◌-◌, ◌/◌, ◌%◌, ◌<◌, ◌≤◌, inl, inr, Bool, true, false, ◌&&◌, nat_lt, List, [], ◌∷◌, ◌++◌, length, map, get_or, slice_get, Option, None, Some, All, refl, sym, ap, ap₂, subst, ◌∙◌, arith}
use Rattle.std.specs.Prelude.{if◌then◌else◌}
use Rattle.std.proofs.Math.Nat.{div-lt_iff_lt-mul}
use Rattle.std.proofs.lemmas.Bool.{cases_lt, cond-true, cond-false, cond_both, lt-ltb, le-ltb, eq-eqb, ne_eqb}
use Rattle.std.proofs.lemmas.List.{get_or_default, length-append, length-map, get_or-map, get_or_append_left, get_or-append_right}
use Rattle.std.proofs.lemmas.List.Elements.{All-nil, All-cons, All-append}
use Rattle.std.proofs.lemmas.Option.{slice_get-get_or, slice_get_past}
use Rattle.rl_ranges.specs.Text.{code_count}
use Rattle.rl_ranges.specs.declared.universe.Universe.{Universe}
use Rattle.rl_ranges.specs.declared.universe.Universe.TheVariants.{Str, Bytes}
use Rattle.rl_ranges.specs.Letters.{LetterTable, IsLetters, alike, classes, class_of, letter_at}
use Rattle.rl_ranges.proofs.LetterLemmas.{class_of-same, class_of-only, class_of-lt, class_of-first, classes-below}
use Rattle.rl_syntax.specs.declared.re.Ending.{Ending}
use Rattle.rl_syntax.specs.declared.re.Ending.TheVariants.{AtEnd, Anywhere}
use Rattle.rl_syntax.specs.Tree.{Tree, empty, one, guard, both, either, many, size, places, sets_in, guard_sets}
use Rattle.rl_syntax.specs.declared.limits.TheConstants.{MOST_NODES}
use Rattle.rl_prio.specs.Items.{Item, test_at, pass, after, set_of, all_hold}
use Rattle.rl_prio.specs.Letters.{all_sets, kinds, kind_of}
use Rattle.rl_prio.specs.States.{place_states, state_of, accepting, dead, state_count, test_target, ends_here, end_target, moves_on, items_of, kind_before, moves_over}
use Rattle.rl_prio.specs.Automaton.{Automaton, IsAutomaton}
use Rattle.rl_prio.specs.StandsFor.{StandsOver}
use Rattle.rl_prio.specs.internal.GuardSets.{guard_set, shown, nothing_shown, code_shown, holding}
use Rattle.rl_prio.specs.internal.Attempts.{attempts, lists_of}
use Rattle.rl_prio.specs.internal.Plans.{plan_letters, plan_kinds, plan_place_states, plan_states, holds_at, test_goes, may_end, end_goes, moves_of, attempts_at, before_at, row_at, IsPlaced, IsSound, AreRows, IsPlan}
use Rattle.rl_prio.specs.declared.build.guards.Shown.{Shown}
use Rattle.rl_prio.specs.declared.build.attempts.Attempt.TheVariants.{Test, End}
use Rattle.rl_prio.specs.declared.build.plan.Plan.{Plan}
use Rattle.rl_ranges.specs.declared.letters.LettersError.{LettersError}
use Rattle.rl_ranges.specs.declared.letters.LettersError.TheVariants.{TooMany, OutOfMemory}
use Rattle.rl_ranges.specs.declared.letters.TheConstants.{MOST_LETTERS}
use Rattle.rl_prio.specs.declared.build.attempts.ListError.{ListError}
use Rattle.rl_prio.specs.declared.build.attempts.ListError.TheVariants.{TooLong, OutOfMemory as NoRoom}
use Rattle.rl_prio.specs.declared.error.PrioError.TheVariants.{Letters, Moves}
use Rattle.rl_prio.specs.Errors.{letters_error}
use Rattle.rl_prio.specs.internal.Errors.{list_error}
use Rattle.rl_prio.proofs.AutomatonLemmas.{automaton_of, moves_at-inside}
use Rattle.rl_prio.proofs.LikenessLemmas.{Finer, Finer-itself, Finer-left, Finer-right, Like, Like-finer, all_hold-like, ItemsKnown, first-known, after-known, set_of-alike}
use Rattle.rl_prio.proofs.GuardLemmas.{Below, met-all_hold}
use Rattle.rl_prio.proofs.WidthLemmas.{length-lists_of, lists-at}
use Rattle.rl_prio.proofs.PlanLemmas.{place_state}

-- ---- places and sets

places-small : (t : Tree) → places t ≤ size t
places-small empty = omega arith
places-small (one s) = omega arith
places-small (guard g) = omega arith
places-small (both e f) = omega (arith, places-small e, places-small f)
places-small (either e f) = omega (arith, places-small e, places-small f)
places-small (many e greedy) = omega (arith, places-small e)

length-sets_in : (t : Tree) → length (sets_in t) ≡ places t
length-sets_in empty = refl
length-sets_in (one s) = refl
length-sets_in (guard g) = refl
length-sets_in (both e f) = omega (arith, length-append (sets_in e) (sets_in f), length-sets_in e, length-sets_in f)
length-sets_in (either e f) = omega (arith, length-append (sets_in e) (sets_in f), length-sets_in e, length-sets_in f)
length-sets_in (many e greedy) = length-sets_in e

set_parts : (e f : Tree) (b k c : ℕ) (d : ℕ → Bool) → k < places e + places f
    → (k < places e → get_or (sets_in e) k d c ≡ set_of e b (b + k) c)
    → ((j : ℕ) → j < places f → get_or (sets_in f) j d c ≡ set_of f (b + places e) (b + places e + j) c)
    → get_or (sets_in e ++ sets_in f) k d c ≡ (if nat_lt (b + k) (b + places e) then set_of e b (b + k) c else set_of f (b + places e) (b + k) c)
set_parts e f b k c d lt left right = elim (cases_lt k (places e)) [
  | inl h ↦
      let inside : k < length (sets_in e) = omega (arith, length-sets_in e) in
      ap (λ s. s c) (get_or_append_left (sets_in e) (sets_in f) d k inside) ∙ left h
      ∙ sym (cond-true (nat_lt (b + k) (b + places e)) (set_of e b (b + k) c) (set_of f (b + places e) (b + k) c) (lt-ltb (b + k) (b + places e) (omega arith)))
  | inr h ↦
      let at : b + places e + (k - places e) ≡ b + k = omega arith in
      ap (λ s. s c) (get_or-append_right (sets_in e) (sets_in f) (places e) k d (length-sets_in e) h) ∙ right (k - places e) (omega arith)
      ∙ ap (λ j. set_of f (b + places e) j c) at
      ∙ sym (cond-false (nat_lt (b + k) (b + places e)) (set_of e b (b + k) c) (set_of f (b + places e) (b + k) c) (le-ltb (b + k) (b + places e) (omega arith)))
]

-- The set at a place.
set_at : (t : Tree) (b k c : ℕ) (d : ℕ → Bool) → k < places t → get_or (sets_in t) k d c ≡ set_of t b (b + k) c
set_at empty b k c d lt = absurd (omega arith)
set_at (one s) b k c d lt = let at : k ≡ 0 = omega arith in ap (λ j. get_or (s ∷ []) j d c) at
set_at (guard g) b k c d lt = absurd (omega arith)
set_at (both e f) b k c d lt = set_parts e f b k c d lt (λ h. set_at e b k c d h) (λ j h. set_at f (b + places e) j c d h)
set_at (either e f) b k c d lt = set_parts e f b k c d lt (λ h. set_at e b k c d h) (λ j h. set_at f (b + places e) j c d h)
set_at (many e greedy) b k c d lt = set_at e b k c d lt

-- ---- samples

pub sample-below : (table : LetterTable) (sets : List (ℕ → Bool)) (n l : ℕ) → IsLetters table sets n → l < length table.samples → get_or table.samples l 0 < n
sample-below table sets n l h lt = (h.same_sample l lt).within

-- No sample is outside the codes.
samples-below : (table : LetterTable) (sets : List (ℕ → Bool)) (n l : ℕ) → IsLetters table sets n → Below n (slice_get table.samples l)
samples-below table sets n l h = elim (cases_lt l (length table.samples)) [
  | inl lt ↦ subst (Below n) (sym (slice_get-get_or table.samples l 0 lt)) (sample-below table sets n l h lt)
  | inr le ↦ subst (Below n) (sym (slice_get_past table.samples l le)) tt
]

-- All samples are codes.
pub all-samples-below : (table : LetterTable) (sets : List (ℕ → Bool)) (n : ℕ) → IsLetters table sets n → All (λ c. c < n) table.samples
all-samples-below table sets n h = λ k d lt. omega (arith, get_or_default table.samples k d 0 lt, sample-below table sets n k h lt)

sample-alike : (table : LetterTable) (sets : List (ℕ → Bool)) (n l : ℕ) → IsLetters table sets n → l < length table.samples
    → alike sets (get_or table.samples l 0) (get_or (classes sets n) l 0) ≡ true
sample-alike table sets n l h lt =
    let known : l < length (classes sets n) = omega (arith, h.same_count) in
    class_of-only sets n (get_or table.samples l 0) (get_or (classes sets n) l 0) (sample-below table sets n l h lt) (classes-below sets n l known)
    ((h.same_sample l lt).in_it ∙ sym (class_of-first sets n l known))

-- The sample of a letter isn't distinguished from its least code, and there is neither for the end letter.
sample-like : (table : LetterTable) (sets : List (ℕ → Bool)) (n l : ℕ) → IsLetters table sets n → Like sets (slice_get table.samples l) (slice_get (classes sets n) l)
sample-like table sets n l h = elim (cases_lt l (length table.samples)) [
  | inl lt ↦
      let known : l < length (classes sets n) = omega (arith, h.same_count) in
      subst (λ o. Like sets o (slice_get (classes sets n) l)) (sym (slice_get-get_or table.samples l 0 lt))
      (subst (λ o. Like sets (Some (get_or table.samples l 0)) o) (sym (slice_get-get_or (classes sets n) l 0 known)) (sample-alike table sets n l h lt))
  | inr le ↦
      let beyond : length (classes sets n) ≤ l = omega (arith, h.same_count) in
      subst (λ o. Like sets o (slice_get (classes sets n) l)) (sym (slice_get_past table.samples l le))
      (subst (λ o. Like sets None o) (sym (slice_get_past (classes sets n) l beyond)) tt)
]

single_at : (x : Shown) (j : ℕ) → get_or (x ∷ []) j x ≡ x
single_at x zero = refl
single_at x (suc j) = refl

-- What codes show, the end letter behind them.
shown_end : (kinds : LetterTable) (codes : List ℕ) (l : ℕ) → get_or (map (code_shown kinds) codes ++ nothing_shown ∷ []) l nothing_shown ≡ shown kinds (slice_get codes l)
shown_end kinds codes l =
    let f : ℕ → Shown = code_shown kinds in
    let size : length (map f codes) ≡ length codes = length-map codes f in
    elim (cases_lt l (length codes)) [
      | inl lt ↦
          let inside : l < length (map f codes) = omega arith in
          get_or_append_left (map f codes) (nothing_shown ∷ []) nothing_shown l inside ∙ get_or-map f codes l 0 nothing_shown lt
          ∙ ap (shown kinds) (sym (slice_get-get_or codes l 0 lt))
      | inr le ↦
          get_or-append_right (map f codes) (nothing_shown ∷ []) (length codes) l nothing_shown size le ∙ single_at nothing_shown (l - length codes)
          ∙ ap (shown kinds) (sym (slice_get_past codes l le))
    ]

shown_all : (kinds : LetterTable) (codes : List ℕ) (l : ℕ) → l < length codes → get_or (map (code_shown kinds) codes) l nothing_shown ≡ shown kinds (slice_get codes l)
shown_all kinds codes l lt = get_or-map (code_shown kinds) codes l 0 nothing_shown lt ∙ ap (shown kinds) (sym (slice_get-get_or codes l 0 lt))

placed_items : (table : LetterTable) (sets : List (ℕ → Bool)) (n : ℕ) (l : List Item) → ItemsKnown sets n l → All (IsPlaced n) (attempts table l)
placed_items table sets n [] h = All-nil (IsPlaced n)
placed_items table sets n (test_at gs k ∷ l) h = All-cons (IsPlaced n) (Test (guard_set table gs) k) (attempts table l) h.1 (placed_items table sets n l h.2)
placed_items table sets n (pass gs ∷ l) h = All-cons (IsPlaced n) (End (guard_set table gs)) (attempts table l) tt (placed_items table sets n l h.1)

-- ---- the plan of a tree

module _ (p : Plan) (t : Tree) (sets : List (ℕ → Bool)) (n : ℕ) (lt kt : LetterTable) (ending : Ending) (plan : IsPlan p t lt kt ending) (is_letters : IsLetters lt sets n)
    (is_kinds : IsLetters kt (guard_sets t) n) (some : 0 < n)
  where
    letters_are : plan_letters p ≡ length lt.samples
    letters_are = ap length plan.same_kinds ∙ length-map lt.samples (letter_at kt)

    kinds_are : plan_kinds p ≡ length (kinds t n)
    kinds_are = omega (arith, ap length plan.same_before, length-map kt.samples (code_shown kt), is_kinds.same_count)

    places_are : length p.after.items ≡ places t
    places_are = ap length plan.same_after ∙ length-map (lists_of t 0) (attempts kt) ∙ length-lists_of t 0

    place_states_are : plan_place_states p ≡ place_states t n
    place_states_are = ap₂ (λ x y. x * y) places_are kinds_are

    some_kind : 0 < length (kinds t n)
    some_kind = omega (arith, class_of-lt (guard_sets t) n 0 some)

    before_code : ℕ → Option ℕ
    before_code zero = None
    before_code (suc r) = slice_get kt.samples (r % length (kinds t n))

    before-shown : (q : ℕ) → before_at p q ≡ shown kt (before_code q)
    unfolding before_at before_code
    before-shown zero = ap (λ l. get_or l 0 nothing_shown) plan.same_before
    before-shown (suc r) =
        let j = r % plan_kinds p in
        let below : j < length kt.samples = omega (arith, kinds_are, some_kind, is_kinds.same_count) in
        ap (λ l. get_or l (suc j) nothing_shown) plan.same_before ∙ shown_all kt kt.samples j below
        ∙ ap (λ g. shown kt (slice_get kt.samples (r % g))) kinds_are

    before-below : (q : ℕ) → Below n (before_code q)
    unfolding before_code
    before-below zero = tt
    before-below (suc r) = samples-below kt (guard_sets t) n (r % length (kinds t n)) is_kinds

    before-like : (q : ℕ) → Like (guard_sets t) (before_code q) (kind_before t n q)
    unfolding before_code
    before-like zero = tt
    before-like (suc r) = sample-like kt (guard_sets t) n (r % length (kinds t n)) is_kinds

    next-shown : (l : ℕ) → get_or p.next.items l nothing_shown ≡ shown kt (slice_get lt.samples l)
    next-shown l = ap (λ x. get_or x l nothing_shown) plan.same_next ∙ shown_end kt lt.samples l

    known-items : (q : ℕ) → ItemsKnown (guard_sets t) (places t) (items_of t n q)
    known-items zero = first-known (guard_sets t) (places t) t 0 (omega arith) (Finer-itself (guard_sets t))
    known-items (suc r) =
        cond_both (nat_lt r (place_states t n)) (after t 0 (r / length (kinds t n))) [] (ItemsKnown (guard_sets t) (places t))
        (λ _. after-known (guard_sets t) (places t) t 0 (r / length (kinds t n)) (omega arith) (Finer-itself (guard_sets t))) (λ _. tt)

    attempts-items : (q : ℕ) → attempts_at p q ≡ attempts kt (items_of t n q)
    unfolding attempts_at
    attempts-items zero = plan.same_first
    attempts-items (suc r) =
        let g = length (kinds t n) in
        let there = get_or p.after.items (r / plan_kinds p) [] in
        let here = after t 0 (r / g) in
        elim (cases_lt r (place_states t n)) [
          | inl h ↦
              let below : r / g < places t = (div-lt_iff_lt-mul {k = g} {x = r} {y = places t} some_kind).1 h in
              let known : r / g < length (lists_of t 0) = omega (arith, length-lists_of t 0) in
              cond-true (nat_lt r (plan_place_states p)) there [] (lt-ltb r (plan_place_states p) (omega (arith, place_states_are)))
              ∙ ap (λ k. get_or p.after.items (r / k) []) kinds_are
              ∙ ap (λ l. get_or l (r / g) []) plan.same_after
              ∙ get_or-map (attempts kt) (lists_of t 0) (r / g) [] [] known
              ∙ ap (attempts kt) (lists-at t (r / g) below ∙ sym (cond-true (nat_lt r (place_states t n)) here [] (lt-ltb r (place_states t n) h)))
          | inr h ↦
              cond-false (nat_lt r (plan_place_states p)) there [] (le-ltb r (plan_place_states p) (omega (arith, place_states_are)))
              ∙ ap (attempts kt) (sym (cond-false (nat_lt r (place_states t n)) here [] (le-ltb r (place_states t n) h)))
        ]

    pub sound-plan : size t ≤ MOST_NODES → length lt.samples ≤ MOST_LETTERS → length kt.samples ≤ MOST_LETTERS → IsSound p
    sound-plan small few few_kt =
        let all : length p.members.items ≡ places t =
        ap length plan.same_members ∙ length-map (sets_in t) (λ set. map set lt.samples) ∙ length-sets_in t in
        record {
          few_places = omega (arith, places_are, places-small t);
          some_kind = omega (arith, kinds_are, some_kind);
          few_kinds = omega (arith, kinds_are, is_kinds.same_count);
          few_letters = omega (arith, letters_are);
          next_count = omega (arith, ap length plan.same_next, length-append (map (code_shown kt) lt.samples) (nothing_shown ∷ []), length-map lt.samples (code_shown kt), letters_are);
          same_places = all ∙ sym places_are;
          same_letters = λ k k_in.
              let here : k < length (sets_in t) = omega (arith, length-sets_in t) in
              let row : get_or p.members.items k [] ≡ map (get_or (sets_in t) k (λ c. false)) lt.samples =
              ap (λ l. get_or l k []) plan.same_members ∙ get_or-map (λ set. map set lt.samples) (sets_in t) k (λ c. false) [] here in
              ap length row ∙ length-map lt.samples (get_or (sets_in t) k (λ c. false)) ∙ sym letters_are;
          kinds_below = λ l l_in.
              let here : l < length lt.samples = omega (arith, letters_are) in
              let s = get_or lt.samples l 0 in
              let kind : get_or p.kinds_of.items l 0 ≡ class_of (guard_sets t) n s =
              ap (λ x. get_or x l 0) plan.same_kinds ∙ get_or-map (letter_at kt) lt.samples l 0 0 here
              ∙ is_kinds.same_letter s (sample-below lt sets n l is_letters here) in
              omega (arith, kind, class_of-lt (guard_sets t) n s (sample-below lt sets n l is_letters here), kinds_are);
          placed = λ q.
              subst (λ m. All (IsPlaced m) (attempts_at p q)) (sym places_are)
              (subst (All (IsPlaced (places t))) (sym (attempts-items q)) (placed_items kt (guard_sets t) (places t) (items_of t n q) (known-items q)));
        }

    -- ---- the moves

    module _ (finer : Finer sets (all_sets t)) (few_kt : length kt.samples ≤ MOST_LETTERS) where
      holds-set : (place l : ℕ) → place < places t → l < length lt.samples → holds_at p place l ≡ set_of t 0 place (get_or (classes sets n) l 0)
      unfolding holds_at
      holds-set place l p_in l_in =
          let s = get_or lt.samples l 0 in
          let none : ℕ → Bool = λ c. false in
          let here : place < length (sets_in t) = omega (arith, length-sets_in t) in
          let at : 0 + place ≡ place = omega arith in
          ap (λ b. b && get_or (get_or p.members.items place []) l false) (lt-ltb l (plan_letters p) (omega (arith, letters_are)))
          ∙ ap (λ x. get_or x l false) (ap (λ x. get_or x place []) plan.same_members ∙ get_or-map (λ set. map set lt.samples) (sets_in t) place none [] here)
          ∙ get_or-map (get_or (sets_in t) place none) lt.samples l 0 false l_in
          ∙ set_at t 0 place s none p_in
          ∙ ap (λ k. set_of t 0 k s) at
          ∙ set_of-alike sets t 0 place s (get_or (classes sets n) l 0) (Finer-left sets (sets_in t) (guard_sets t) finer) (sample-alike lt sets n l is_letters l_in)

      kind-is : (l : ℕ) → l < length lt.samples → get_or p.kinds_of.items l 0 ≡ kind_of t n (get_or (classes sets n) l 0)
      kind-is l l_in =
          let s = get_or lt.samples l 0 in
          ap (λ x. get_or x l 0) plan.same_kinds ∙ get_or-map (letter_at kt) lt.samples l 0 0 l_in
          ∙ is_kinds.same_letter s (sample-below lt sets n l is_letters l_in)
          ∙ class_of-same (guard_sets t) n s (get_or (classes sets n) l 0)
          (Finer-right sets (sets_in t) (guard_sets t) finer s (get_or (classes sets n) l 0) (sample-alike lt sets n l is_letters l_in))

      dead-is : plan_place_states p + 2 ≡ dead t n
      dead-is = omega (arith, place_states_are)

      test-same : (place l : ℕ) → place < places t → test_goes p place l ≡ test_target t n place (slice_get (classes sets n) l)
      unfolding test_goes holds_at
      test-same place l p_in = elim (cases_lt l (length lt.samples)) [
        | inl l_in ↦
            let r = get_or (classes sets n) l 0 in
            let known : l < length (classes sets n) = omega (arith, is_letters.same_count) in
            let state : suc (place * plan_kinds p + get_or p.kinds_of.items l 0) ≡ state_of t n place (kind_of t n r) =
            ap₂ (λ g k. suc (place * g + k)) kinds_are (kind-is l l_in) in
            ap (λ b. if b then suc (place * plan_kinds p + get_or p.kinds_of.items l 0) else plan_place_states p + 2) (holds-set place l p_in l_in)
            ∙ ap₂ (λ x y. if set_of t 0 place r then x else y) state dead-is
            ∙ ap (test_target t n place) (sym (slice_get-get_or (classes sets n) l 0 known))
        | inr beyond ↦
            let past : length (classes sets n) ≤ l = omega (arith, is_letters.same_count) in
            let miss : holds_at p place l ≡ false =
            ap (λ b. b && get_or (get_or p.members.items place []) l false) (le-ltb l (plan_letters p) (omega (arith, letters_are))) in
            cond-false (holds_at p place l) (suc (place * plan_kinds p + get_or p.kinds_of.items l 0)) (plan_place_states p + 2) miss
            ∙ dead-is ∙ ap (test_target t n place) (sym (slice_get_past (classes sets n) l past))
      ]

      may_end-is : (e : Ending) (l : ℕ) → l ≤ length lt.samples → may_end e l (plan_letters p) ≡ ends_here e (slice_get (classes sets n) l)
      may_end-is Anywhere l le = refl
      may_end-is AtEnd l le = elim (cases_lt l (length lt.samples)) [
        | inl l_in ↦
            let known : l < length (classes sets n) = omega (arith, is_letters.same_count) in
            ne_eqb l (plan_letters p) (λ e. absurd (omega (arith, e, letters_are))) ∙ ap (ends_here AtEnd) (sym (slice_get-get_or (classes sets n) l 0 known))
        | inr beyond ↦
            let past : length (classes sets n) ≤ l = omega (arith, is_letters.same_count) in
            eq-eqb l (plan_letters p) (omega (arith, letters_are)) ∙ ap (ends_here AtEnd) (sym (slice_get_past (classes sets n) l past))
      ]

      end-same : (l : ℕ) → l ≤ length lt.samples → end_goes p l ≡ end_target t ending n (slice_get (classes sets n) l)
      unfolding end_goes
      end-same l le =
          let acc : plan_place_states p + 1 ≡ accepting t n = omega (arith, place_states_are) in
          ap (λ e. if may_end e l (plan_letters p) then plan_place_states p + 1 else plan_place_states p + 2) plan.same_ending
          ∙ ap (λ b. if b then plan_place_states p + 1 else plan_place_states p + 2) (may_end-is ending l le)
          ∙ ap₂ (λ x y. if ends_here ending (slice_get (classes sets n) l) then x else y) acc dead-is

      moves-same : (l : ℕ) (b c d : Option ℕ) → l ≤ length lt.samples → Below n b → Below n d → Like (guard_sets t) b c → Like sets d (slice_get (classes sets n) l) → (items : List Item)
          → ItemsKnown (guard_sets t) (places t) items
          → moves_of p (holding (shown kt b) (shown kt d)) l (attempts kt items) ≡ moves_on t ending n c (slice_get (classes sets n) l) items
      moves-same l b c d le b_in d_in before next [] known = refl
      moves-same l b c d le b_in d_in before next (test_at gs k ∷ items) known =
          let o = slice_get (classes sets n) l in
          let nearer = Like-finer sets (guard_sets t) d o (Finer-right sets (sets_in t) (guard_sets t) finer) next in
          ap₂ (λ x y. x ++ y)
          (ap₂ (λ x y. if x then y ∷ [] else []) (met-all_hold kt (guard_sets t) n is_kinds few_kt gs b d known.0 b_in d_in ∙ all_hold-like (guard_sets t) gs b c d o known.0 before nearer) (test-same k l known.1))
          (moves-same l b c d le b_in d_in before next items known.2)
      moves-same l b c d le b_in d_in before next (pass gs ∷ items) known =
          let o = slice_get (classes sets n) l in
          let nearer = Like-finer sets (guard_sets t) d o (Finer-right sets (sets_in t) (guard_sets t) finer) next in
          ap₂ (λ x y. x ++ y)
          (ap₂ (λ x y. if x then y ∷ [] else []) (met-all_hold kt (guard_sets t) n is_kinds few_kt gs b d known.0 b_in d_in ∙ all_hold-like (guard_sets t) gs b c d o known.0 before nearer) (end-same l le))
          (moves-same l b c d le b_in d_in before next items known.1)

      row-same : (q l : ℕ) → l ≤ length lt.samples → row_at p q l ≡ moves_over sets t ending n q l
      row-same q l le =
          ap₂ (λ x y. moves_of p (holding x y) l (attempts_at p q)) (before-shown q) (next-shown l)
          ∙ ap (moves_of p (holding (shown kt (before_code q)) (shown kt (slice_get lt.samples l))) l) (attempts-items q)
          ∙ moves-same l (before_code q) (kind_before t n q) (slice_get lt.samples l) le (before-below q) (samples-below lt sets n l is_letters) (before-like q) (sample-like lt sets n l is_letters) (items_of t n q) (known-items q)

      -- The moves lead to states.
      test-below : (place l : ℕ) → place < places t → test_target t n place (slice_get (classes sets n) l) < state_count t n
      test-below place l p_in = elim (cases_lt l (length (classes sets n))) [
        | inl l_in ↦
            let r = get_or (classes sets n) l 0 in
            let known : kind_of t n r < length (kinds t n) = class_of-lt (guard_sets t) n r (classes-below sets n l l_in) in
            subst (λ o. test_target t n place o < state_count t n) (sym (slice_get-get_or (classes sets n) l 0 l_in))
            (cond_both (set_of t 0 place r) (state_of t n place (kind_of t n r)) (dead t n) (λ x. x < state_count t n)
            (λ _. omega (arith, place_state (places t) (length (kinds t n)) place (kind_of t n r) p_in known)) (λ _. omega arith))
        | inr beyond ↦ subst (λ o. test_target t n place o < state_count t n) (sym (slice_get_past (classes sets n) l beyond)) (omega arith)
      ]

      moves-below : (l : ℕ) (before : Option ℕ) (items : List Item) → ItemsKnown (guard_sets t) (places t) items
          → All (λ x. x < state_count t n) (moves_on t ending n before (slice_get (classes sets n) l) items)
      moves-below l before [] known = All-nil (λ x. x < state_count t n)
      moves-below l before (test_at gs k ∷ items) known =
          let o = slice_get (classes sets n) l in
          let P : ℕ → Type 0 = λ x. x < state_count t n in
          All-append P (if all_hold gs before o then test_target t n k o ∷ [] else []) (moves_on t ending n before o items)
          (cond_both (all_hold gs before o) (test_target t n k o ∷ []) [] (All P) (λ _. All-cons P (test_target t n k o) [] (test-below k l known.1) (All-nil P)) (λ _. All-nil P))
          (moves-below l before items known.2)
      moves-below l before (pass gs ∷ items) known =
          let o = slice_get (classes sets n) l in
          let P : ℕ → Type 0 = λ x. x < state_count t n in
          All-append P (if all_hold gs before o then end_target t ending n o ∷ [] else []) (moves_on t ending n before o items)
          (cond_both (all_hold gs before o) (end_target t ending n o ∷ []) [] (All P)
          (λ _. All-cons P (end_target t ending n o) [] (cond_both (ends_here ending o) (accepting t n) (dead t n) P (λ _. omega arith) (λ _. omega arith)) (All-nil P)) (λ _. All-nil P))
          (moves-below l before items known.1)

      -- Beyond the states of places there is no move.
      stopped : (r l : ℕ) → place_states t n ≤ r → moves_over sets t ending n (suc r) l ≡ []
      stopped r l le =
          let o = slice_get (classes sets n) l in
          ap (moves_on t ending n (kind_before t n (suc r)) o) (cond-false (nat_lt r (place_states t n)) (after t 0 (r / length (kinds t n))) [] (le-ltb r (place_states t n) le))

      module _ (rows : List (List ℕ)) (are : AreRows p rows) where
        built : Automaton
        built = record { table = lt; states = plan_states p; rows = rows }

        states_are : plan_states p ≡ state_count t n
        states_are = omega (arith, place_states_are)

        read : (q l : ℕ) → q < plan_states p → l ≤ length lt.samples → get_or rows (q * suc (length lt.samples) + l) [] ≡ moves_over sets t ending n q l
        read q l q_in l_in =
            ap (λ m. get_or rows (q * suc m + l) []) (sym letters_are) ∙ are.each q l q_in (omega (arith, letters_are)) ∙ row-same q l l_in

        pub automaton : IsAutomaton (record { table = lt; states = plan_states p; rows = rows })
        automaton = automaton_of (record { table = lt; states = plan_states p; rows = rows })
            (omega arith)
            (are.count ∙ ap (λ m. plan_states p * suc m) letters_are)
            (λ q l q_in l_in.
            subst (All (λ target. target < plan_states p)) (sym (read q l q_in l_in))
            (subst (λ m. All (λ target. target < m) (moves_over sets t ending n q l)) (sym states_are) (moves-below l (kind_before t n q) (items_of t n q) (known-items q))))
            (λ l l_in.
            let at : plan_states p - 2 ≡ suc (plan_place_states p) = omega arith in
            read (plan_states p - 2) l (omega arith) l_in ∙ ap (λ q. moves_over sets t ending n q l) at ∙ stopped (plan_place_states p) l (omega (arith, place_states_are)))
            (λ l l_in.
            let at : plan_states p - 1 ≡ suc (suc (plan_place_states p)) = omega arith in
            read (plan_states p - 1) l (omega arith) l_in ∙ ap (λ q. moves_over sets t ending n q l) at ∙ stopped (suc (plan_place_states p)) l (omega (arith, place_states_are)))

        pub stands : StandsOver (record { table = lt; states = plan_states p; rows = rows }) t ending sets
        stands = record {
          same_letters = subst (IsLetters lt sets) (sym is_letters.same_codes) is_letters;
          same_states = states_are ∙ ap (state_count t) (sym is_letters.same_codes);
          same_moves = λ q l q_in l_in.
              moves_at-inside (record { table = lt; states = plan_states p; rows = rows }) q l q_in l_in ∙ read q l q_in l_in
              ∙ ap (λ m. moves_over sets t ending m q l) (sym is_letters.same_codes);
        }

-- ---- errors

pub too_many : (x : LettersError) → letters_error x ≡ Letters → x ≡ TooMany
too_many TooMany e = refl
too_many OutOfMemory e = cc

pub too_long : (x : ListError) → list_error x ≡ Moves → x ≡ TooLong
too_long TooLong e = refl
too_long NoRoom e = cc

pub some_codes : (u : Universe) → 0 < code_count u
some_codes Str = omega arith
some_codes Bytes = omega arith
