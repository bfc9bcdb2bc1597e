-- For any two trees there is an automaton for each of them, over the letters of both.
use Rattle.std.proofs.Common.{◌≡◌, ◌⊎◌, ◌∙◌, ℕ, zero, suc, ◌+◌, ◌*◌, ◌-◌, ◌/◌, ◌%◌, ◌<◌, ◌≤◌, inl, inr, List, [], ◌∷◌, ◌++◌, length, map, get_or, slice_get, Option, All, Bool, true, false, ◌&&◌, nat_lt, nat_le, eqb, refl, sym, ap, ap₂, subst, arith}
use Rattle.std.specs.Prelude.{if◌then◌else◌}
use Rattle.std.proofs.lemmas.Bool.{cases_lt, cond-false, cond_both, le-ltb}
use Rattle.std.proofs.lemmas.Bool.Decides.{nat_tests}
use Rattle.std.proofs.lemmas.Nat.{div-mul-add, mod-mul-add}
use Rattle.std.proofs.lemmas.List.{length-map, map-append}
use Rattle.std.proofs.lemmas.List.Elements.{All-nil, All-cons, All-append}
use Rattle.std.proofs.lemmas.Option.{slice_get-get_or, slice_get_past}
use Rattle.rl_ranges.specs.declared.universe.Universe.{Universe}
use Rattle.rl_ranges.specs.Letters.{LetterTable, IsLetters, IsPlain, IsSample, classes, class_of, letter_from, letter_at}
use Rattle.rl_ranges.specs.Text.{code_count}
use Rattle.rl_ranges.proofs.LetterLemmas.{class_of-lt, class_of-first, classes-below}
use Rattle.rl_syntax.specs.declared.re.Ending.TheVariants.{AtEnd}
use Rattle.rl_syntax.specs.Tree.{Tree, places, guard_sets}
use Rattle.rl_prio.specs.Items.{Item, test_at, pass, after, set_of, all_hold}
use Rattle.rl_prio.specs.Letters.{kinds, kind_of}
use Rattle.rl_prio.specs.States.{place_states, state_of, accepting, dead, state_count, test_target, ends_here, end_target, moves_on, items_of, kind_before, moves_over}
use Rattle.rl_prio.specs.Automaton.{Automaton, IsAutomaton}
use Rattle.rl_prio.specs.StandsFor.{StandsOver}
use Rattle.rl_prio.proofs.AutomatonLemmas.{automaton_of, moves_at-inside}
use Rattle.rl_prio.proofs.LikenessLemmas.{Finer-itself, ItemsKnown, first-known, after-known}
use Rattle.rl_prio.proofs.PlanLemmas.{place_state}
use Rattle.rl_sets.specs.Live.{below}
use Rattle.rl_equiv.specs.SetPairs.{joint_sets}
use Rattle.rl_equiv.specs.Joined.{StandTogether}
use Rattle.rl_equiv.proofs.ImageLaws.{length-below, get_or-below}

-- The least number below a bound that passes a test, if there is one.
least_below : (test : ℕ → Bool) (k : ℕ) → ((c : ℕ) × (c < k) × (test c ≡ true) × ((d : ℕ) → d < c → test d ≡ false)) ⊎ ((d : ℕ) → d < k → test d ≡ false)
least_below test zero = inr (λ d l. absurd (omega (arith, l)))
least_below test (suc k) = go (least_below test k) (test k) refl
  where
    go : ((c : ℕ) × (c < k) × (test c ≡ true) × ((d : ℕ) → d < c → test d ≡ false)) ⊎ ((d : ℕ) → d < k → test d ≡ false) → (b : Bool) → test k ≡ b
        → ((c : ℕ) × (c < suc k) × (test c ≡ true) × ((d : ℕ) → d < c → test d ≡ false)) ⊎ ((d : ℕ) → d < suc k → test d ≡ false)
    go (inl x) b e = let l : x.0 < suc k = omega (arith, x.1) in inl (x.0, l, x.2, x.3)
    go (inr none) true e = let l : k < suc k = omega arith in inl (k, l, e, none)
    go (inr none) false e = inr (λ d l. elim (cases_lt d k) [
      | inl less ↦ none d less
      | inr more ↦ let here : d ≡ k = omega (arith, l, more) in ap test here ∙ e
    ])

module _ (sets : List (ℕ → Bool)) (n : ℕ) where
  -- ---- a sample of each letter

  abbrev serves : ℕ → ℕ → Bool
  serves l c = nat_lt c n && (eqb (class_of sets n c) l && (nat_le 32 c && nat_le c 126))

  serves-true : (l c : ℕ) → serves l c ≡ true → (c < n) × (class_of sets n c ≡ l) × (32 ≤ c) × (c ≤ 126)
  serves-true l c e =
      let k : c < n = grind (arith, nat_tests, e) in
      let s : class_of sets n c ≡ l = grind (arith, nat_tests, e) in
      let x : 32 ≤ c = grind (arith, nat_tests, e) in
      let y : c ≤ 126 = grind (arith, nat_tests, e) in
      (k, s, x, y)

  serves-from : (l c : ℕ) → c < n → class_of sets n c ≡ l → IsPlain c → serves l c ≡ false → ⊥
  serves-from l c k s (x, y) e = grind (arith, nat_tests, k, s, x, y, e)

  sample_code : ℕ → ℕ
  sample_code l = elim (least_below (serves l) 127) [ inl x ↦ x.0 | inr none ↦ get_or (classes sets n) l 0 ]

  sample-is : (l : ℕ) → l < length (classes sets n) → IsSample sets n l (sample_code l)
  unfolding sample_code
  sample-is l lt = elim (least_below (serves l) 127) as (λ z. IsSample sets n l (elim z [ inl x ↦ x.0 | inr none ↦ get_or (classes sets n) l 0 ])) [
    | inl x ↦ let t = serves-true l x.0 x.2 in record {
      within = t.0;
      in_it = t.1;
      least = λ d less e p. serves-from l d (omega (arith, less, t.0)) e p (x.3 d less);
      plain = inl (t.2, t.3);
    }
    | inr none ↦ record {
      within = classes-below sets n l lt;
      in_it = class_of-first sets n l lt;
      least = λ d less e p. serves-from l d (omega (arith, less, classes-below sets n l lt)) e p (none d (omega (arith, p.1)));
      plain = inr (slice_get-get_or (classes sets n) l 0 lt, λ d less e p. serves-from l d less e p (none d (omega (arith, p.1))));
    }
  ]

  -- ---- the table

  last-stretch : (found code : ℕ) (xs : List (ℕ × ℕ)) (s : ℕ × ℕ) → letter_from found (xs ++ s ∷ []) code ≡ (if nat_le s.0 code then s.1 else letter_from found xs code)
  last-stretch found code [] s = refl
  last-stretch found code (x ∷ xs) s = last-stretch (if nat_le x.0 code then x.1 else found) code xs s

  each-stretch : (f : ℕ → ℕ) (k code : ℕ) → code < k → letter_from 0 (map (λ c. (c, f c)) (below k)) code ≡ f code
  each-stretch f zero code lt = absurd (omega (arith, lt))
  each-stretch f (suc k) code lt =
      ap (λ xs. letter_from 0 xs code) (map-append (λ c. (c, f c)) (below k) (k ∷ []))
      ∙ last-stretch 0 code (map (λ c. (c, f c)) (below k)) (k, f k)
      ∙ elim (cases_lt code k) [
        | inl less ↦ let e : nat_le k code ≡ false = grind (arith, nat_tests, less) in ap (λ b. if b then f k else letter_from 0 (map (λ c. (c, f c)) (below k)) code) e ∙ each-stretch f k code less
        | inr more ↦ let e : nat_le k code ≡ true = grind (arith, nat_tests, more) in let here : k ≡ code = omega (arith, lt, more) in ap (λ b. if b then f k else letter_from 0 (map (λ c. (c, f c)) (below k)) code) e ∙ ap f here
      ]

  table : LetterTable
  table = record { codes = n; stretches = map (λ c. (c, class_of sets n c)) (below n); samples = map sample_code (below (length (classes sets n))) }

  samples-count : length (table.samples) ≡ length (classes sets n)
  unfolding table
  samples-count = length-map (below (length (classes sets n))) sample_code ∙ length-below (length (classes sets n))

  table-letters : IsLetters table sets n
  unfolding table letter_at
  table-letters = record {
    same_codes = refl;
    same_count = samples-count;
    same_letter = λ c lt. each-stretch (class_of sets n) n c lt;
    same_sample = λ l lt. let less : l < length (classes sets n) = omega (arith, lt, samples-count) in subst (IsSample sets n l) (sym (get_or-below sample_code (length (classes sets n)) l 0 less)) (sample-is l less);
  }

  -- ---- the moves

  module _ (t : Tree) where
    width : ℕ
    width = suc (length table.samples)

    made : Automaton
    made = record { table = table; states = state_count t n; rows = map (λ k. moves_over sets t AtEnd n (k / width) (k % width)) (below (state_count t n * width)) }

    read : (q l : ℕ) → q < state_count t n → l ≤ length table.samples → get_or made.rows (q * suc (length table.samples) + l) [] ≡ moves_over sets t AtEnd n q l
    unfolding made width
    read q l q_in l_in =
        let w = suc (length table.samples) in
        let less : l < w = omega (arith, l_in) in
        get_or-below (λ k. moves_over sets t AtEnd n (k / w) (k % w)) (state_count t n * w) (q * w + l) [] (place_state (state_count t n) w q l q_in less)
        ∙ ap₂ (λ x y. moves_over sets t AtEnd n x y) (div-mul-add q w l less) (mod-mul-add q w l less)

    known-items : (q : ℕ) → ItemsKnown (guard_sets t) (places t) (items_of t n q)
    known-items zero = first-known (guard_sets t) (places t) t 0 (omega arith) (Finer-itself (guard_sets t))
    known-items (suc r) =
        cond_both (nat_lt r (place_states t n)) (after t 0 (r / length (kinds t n))) [] (ItemsKnown (guard_sets t) (places t))
        (λ _. after-known (guard_sets t) (places t) t 0 (r / length (kinds t n)) (omega arith) (Finer-itself (guard_sets t))) (λ _. tt)

    test-below : (place l : ℕ) → place < places t → test_target t n place (slice_get (classes sets n) l) < state_count t n
    test-below place l p_in = elim (cases_lt l (length (classes sets n))) [
      | inl l_in ↦
          let r = get_or (classes sets n) l 0 in
          let known : kind_of t n r < length (kinds t n) = class_of-lt (guard_sets t) n r (classes-below sets n l l_in) in
          subst (λ o. test_target t n place o < state_count t n) (sym (slice_get-get_or (classes sets n) l 0 l_in))
          (cond_both (set_of t 0 place r) (state_of t n place (kind_of t n r)) (dead t n) (λ x. x < state_count t n)
          (λ _. omega (arith, place_state (places t) (length (kinds t n)) place (kind_of t n r) p_in known)) (λ _. omega arith))
      | inr beyond ↦ subst (λ o. test_target t n place o < state_count t n) (sym (slice_get_past (classes sets n) l beyond)) (omega arith)
    ]

    moves-below : (l : ℕ) (before : Option ℕ) (items : List Item) → ItemsKnown (guard_sets t) (places t) items
        → All (λ x. x < state_count t n) (moves_on t AtEnd n before (slice_get (classes sets n) l) items)
    moves-below l before [] known = All-nil (λ x. x < state_count t n)
    moves-below l before (test_at gs k ∷ items) known =
        let o = slice_get (classes sets n) l in
        let P : ℕ → Type 0 = λ x. x < state_count t n in
        All-append P (if all_hold gs before o then test_target t n k o ∷ [] else []) (moves_on t AtEnd n before o items)
        (cond_both (all_hold gs before o) (test_target t n k o ∷ []) [] (All P) (λ _. All-cons P (test_target t n k o) [] (test-below k l known.1) (All-nil P)) (λ _. All-nil P))
        (moves-below l before items known.2)
    moves-below l before (pass gs ∷ items) known =
        let o = slice_get (classes sets n) l in
        let P : ℕ → Type 0 = λ x. x < state_count t n in
        All-append P (if all_hold gs before o then end_target t AtEnd n o ∷ [] else []) (moves_on t AtEnd n before o items)
        (cond_both (all_hold gs before o) (end_target t AtEnd n o ∷ []) [] (All P)
        (λ _. All-cons P (end_target t AtEnd n o) [] (cond_both (ends_here AtEnd o) (accepting t n) (dead t n) P (λ _. omega arith) (λ _. omega arith)) (All-nil P)) (λ _. All-nil P))
        (moves-below l before items known.1)

    stopped : (r l : ℕ) → place_states t n ≤ r → moves_over sets t AtEnd n (suc r) l ≡ []
    stopped r l le =
        let o = slice_get (classes sets n) l in
        ap (moves_on t AtEnd n (kind_before t n (suc r)) o) (cond-false (nat_lt r (place_states t n)) (after t 0 (r / length (kinds t n))) [] (le-ltb r (place_states t n) le))

    made-rows : length made.rows ≡ state_count t n * suc (length table.samples)
    unfolding made width
    made-rows =
        let w = suc (length table.samples) in
        length-map (below (state_count t n * w)) (λ k. moves_over sets t AtEnd n (k / w) (k % w)) ∙ length-below (state_count t n * w)

    made-whole : IsAutomaton made
    unfolding made
    made-whole = automaton_of made (omega arith) made-rows
        (λ q l q_in l_in. subst (All (λ x. x < state_count t n)) (sym (read q l q_in l_in)) (moves-below l (kind_before t n q) (items_of t n q) (known-items q)))
        (λ l l_in.
        let at : state_count t n - 2 ≡ suc (place_states t n) = omega arith in
        read (state_count t n - 2) l (omega arith) l_in ∙ ap (λ q. moves_over sets t AtEnd n q l) at ∙ stopped (place_states t n) l (omega arith))
        (λ l l_in.
        let at : state_count t n - 1 ≡ suc (suc (place_states t n)) = omega arith in
        read (state_count t n - 1) l (omega arith) l_in ∙ ap (λ q. moves_over sets t AtEnd n q l) at ∙ stopped (suc (place_states t n)) l (omega arith))

    made-stands : StandsOver made t AtEnd sets
    unfolding made table
    made-stands = record {
      same_letters = table-letters;
      same_states = refl;
      same_moves = λ q l q_in l_in. moves_at-inside made q l q_in l_in ∙ read q l q_in l_in;
    }

    made-codes : made.table.codes ≡ n
    unfolding made table
    made-codes = refl

-- Automata that stand for two trees over the letters of both.
pub together : (u : Universe) (s t : Tree) → (a : Automaton) × (b : Automaton) × StandTogether u s t a b
together u s t =
    let sets = joint_sets s t in
    let n = code_count u in (
      made sets n s,
      made sets n t,
      record {
        first_stands = made-stands sets n s;
        second_stands = made-stands sets n t;
        first_codes = made-codes sets n s;
        second_codes = made-codes sets n t;
        first_whole = made-whole sets n s;
        second_whole = made-whole sets n t;
      },
    )
