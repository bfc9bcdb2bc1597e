-- The walk of an automaton that stands for a tree is the run of the tree: it has the same steps, with the same hits and
-- misses.
use Rattle.std.proofs.Common.{◌≡◌, ℕ, suc, ◌+◌, ◌*◌, ◌/◌, ◌%◌, ◌<◌, ◌≤◌, Bool, true, false, ◌==◌, List, [], ◌∷◌, ◌++◌, length, map, All, Option, None, Some, slice_get, nat_lt, if◌then◌else◌, ◌⊎◌, inl, inr, ⊎_elim, refl, sym, ap, ap₂, subst, ◌∙◌, arith, append_assoc}
use Rattle.std.proofs.lemmas.Bool.{cond-true, cond-false, lt-ltb, le-ltb, eq-eqb, ne_eqb, cases_lt}
use Rattle.std.proofs.lemmas.List.{append-nil}
use Rattle.std.proofs.lemmas.List.Elements.{All-head, All-tail}
use Rattle.std.proofs.lemmas.Nat.{mul-add-lt, div-mul-add, mod-mul-add}
use Rattle.std.proofs.lemmas.Option.{none-some, same_Some, slice_get_past}
use Rattle.rl_ranges.specs.Letters.{classes, class_of, letter_at}
use Rattle.rl_ranges.proofs.LetterLemmas.{class_found, class_of-same, class_of-lt, alike-back}
use Rattle.rl_syntax.specs.declared.re.Ending.{Ending}
use Rattle.rl_syntax.specs.declared.re.Ending.TheVariants.{AtEnd, Anywhere}
use Rattle.rl_syntax.specs.Guards.{is_in, code_before}
use Rattle.rl_syntax.specs.Tree.{Tree, places, sets_in, guard_sets}
use Rattle.rl_syntax.specs.Run.{Step, test, end}
use Rattle.rl_syntax.specs.Cost.{tests, is_hit, all_tests, up_to_hit, has_hit, cost, matched}
use Rattle.rl_prio.specs.Items.{Item, test_at, pass, first, after, set_of, all_hold}
use Rattle.rl_prio.specs.Letters.{all_sets, kinds, kind_of}
use Rattle.rl_prio.specs.States.{place_states, state_of, accepting, dead, state_count, test_target, ends_here, end_target, moves_on, items_of, kind_before, moves_over}
use Rattle.rl_prio.specs.Automaton.{Automaton, letters_count, accepting_state, moves_at}
use Rattle.rl_prio.specs.Walk.{stepped, walk, word_at, walk_cost, walk_matched}
use Rattle.rl_prio.specs.StandsFor.{StandsOver, StandsFor}
use Rattle.rl_prio.proofs.AutomatonLemmas.{moves_at-outside}
use Rattle.rl_prio.proofs.LikenessLemmas.{Finer, Finer-itself, Finer-left, Finer-right, Like, Like-finer, ItemsKnown, all_hold-like, first-known, after-known, set_of-alike}
use Rattle.rl_prio.proofs.TraceLemmas.{tried, trace, trace_goes, trace-run}

pub tests-append : (hit : ℕ → Bool) (l m : List Step) → tests hit (l ++ m) ≡ tests hit l ++ tests hit m
tests-append hit [] m = refl
tests-append hit (test ∷ l) m = ap (λ n. false ∷ n) (tests-append hit l m)
tests-append hit (end j ∷ l) m = ap (λ n. hit j ∷ n) (tests-append hit l m)

pub stepped-append : (acc : ℕ) (k : ℕ → List Bool) (l m : List ℕ) → stepped acc k (l ++ m) ≡ stepped acc k l ++ stepped acc k m
stepped-append acc k [] m = refl
stepped-append acc k (q ∷ l) m =
    let x : List Bool = if q == acc then true ∷ [] else false ∷ k q in
    ap (λ n. x ++ n) (stepped-append acc k l m) ∙ sym (append_assoc x (stepped acc k l) (stepped acc k m))

-- One move that is no hit, and one that is.
pub stepped-miss : (acc : ℕ) (k : ℕ → List Bool) (q : ℕ) → (q ≡ acc → ⊥) → stepped acc k (q ∷ []) ≡ false ∷ k q
stepped-miss acc k q other = append-nil (if q == acc then true ∷ [] else false ∷ k q) ∙ cond-false (q == acc) (true ∷ []) (false ∷ k q) (ne_eqb q acc other)

pub stepped-hit : (acc : ℕ) (k : ℕ → List Bool) (q : ℕ) → q ≡ acc → stepped acc k (q ∷ []) ≡ true ∷ []
stepped-hit acc k q same = append-nil (if q == acc then true ∷ [] else false ∷ k q) ∙ cond-true (q == acc) (true ∷ []) (false ∷ k q) (eq-eqb q acc same)

-- A move under guards, and the steps under the same guards.
under : (acc : ℕ) (k : ℕ → List Bool) (hit : ℕ → Bool) (b : Bool) (q : ℕ) (s : List Step) → stepped acc k (q ∷ []) ≡ tests hit s
    → stepped acc k (if b then q ∷ [] else []) ≡ tests hit (if b then s else [])
under acc k hit true q s h = h
under acc k hit false q s h = refl

-- A state with given items, after a code that its kind doesn't distinguish from the given one.
pub record StateAt (t : Tree) (n q : ℕ) (items : List Item) (before : Option ℕ) : Type 0 where
  pub in_states : q < state_count t n
  pub same_items : items_of t n q ≡ items
  pub same_kind : Like (guard_sets t) (kind_before t n q) before

start_at : (t : Tree) (n : ℕ) → StateAt t n 0 (first t 0) None
start_at t n = record { in_states = omega arith; same_items = refl; same_kind = tt }

-- The state of a place and the kind of a code.
place_at : (t : Tree) (n p c : ℕ) → p < places t → c < n → StateAt t n (state_of t n p (kind_of t n c)) (after t 0 p) (Some c)
place_at t n p c in_places in_codes =
    let g = length (kinds t n) in
    let k = kind_of t n c in
    let k_in : k < g = class_of-lt (guard_sets t) n c in_codes in
    let below : p * g + k < place_states t n = omega (arith, mul-add-lt p g k (places t) in_places k_in) in
    let found = class_found (guard_sets t) n c in_codes in
    let kind : slice_get (kinds t n) ((p * g + k) % g) ≡ Some found.0 = ap (slice_get (kinds t n)) (mod-mul-add p g k k_in) ∙ found.1 in
    record {
      in_states = omega arith;
      same_items = cond-true (nat_lt (p * g + k) (place_states t n)) (after t 0 ((p * g + k) / g)) [] (lt-ltb (p * g + k) (place_states t n) below) ∙ ap (after t 0) (div-mul-add p g k k_in);
      same_kind = subst (λ o. Like (guard_sets t) o (Some c)) (sym kind) (alike-back (guard_sets t) c found.0 found.2);
    }

-- A place's state is neither the accepting nor the dead one.
place_below : (t : Tree) (n p c : ℕ) → p < places t → c < n → state_of t n p (kind_of t n c) < accepting t n
place_below t n p c in_places in_codes =
    let g = length (kinds t n) in
    let k = kind_of t n c in
    omega (arith, mul-add-lt p g k (places t) in_places (class_of-lt (guard_sets t) n c in_codes))

-- The moves of items at a place of a text are the steps of their trace; `k` is the walk from a state, and `follow` the trace
-- after the test of a place.
module _ (t : Tree) (ending : Ending) (sets : List (ℕ → Bool)) (n : ℕ) (finer : Finer sets (all_sets t)) (w : List ℕ) (i : ℕ) (k : ℕ → List Bool) (follow : ℕ → List Step) (hit : ℕ → Bool)
    (stops : k (dead t n) ≡ [])
    (goes : (p c : ℕ) → p < places t → slice_get w i ≡ Some c → (c < n) × (k (state_of t n p (kind_of t n c)) ≡ tests hit (follow p))) where
  miss : stepped (accepting t n) k (dead t n ∷ []) ≡ false ∷ []
  miss = stepped-miss (accepting t n) k (dead t n) (λ e. omega (arith, e)) ∙ ap (λ l. false ∷ l) stops

  one_test : (p : ℕ) (o next : Option ℕ) → p < places t → next ≡ slice_get w i → Like sets o next
      → stepped (accepting t n) k (test_target t n p o ∷ []) ≡ tests hit (test ∷ (if is_in (set_of t 0 p) next then follow p else []))
  unfolding is_in
  one_test p None None lt at like = miss
  one_test p None (Some c) lt at like = absurd like
  one_test p (Some r) None lt at like = absurd like
  one_test p (Some r) (Some c) lt at like =
      let on = goes p c lt (sym at) in
      ap₂ (λ (b : Bool) j. stepped (accepting t n) k ((if b then state_of t n p j else dead t n) ∷ []))
      (set_of-alike sets t 0 p r c (Finer-left sets (sets_in t) (guard_sets t) finer) like)
      (class_of-same (guard_sets t) n r c (Finer-right sets (sets_in t) (guard_sets t) finer r c like))
      ∙ both_sides (set_of t 0 p c) (state_of t n p (kind_of t n c)) (follow p)
      (stepped-miss (accepting t n) k (state_of t n p (kind_of t n c)) (λ e. omega (arith, e, place_below t n p c lt on.0)) ∙ ap (λ l. false ∷ l) on.1)
    where
      both_sides : (b : Bool) (q : ℕ) (s : List Step) → stepped (accepting t n) k (q ∷ []) ≡ false ∷ tests hit s
          → stepped (accepting t n) k ((if b then q else dead t n) ∷ []) ≡ false ∷ tests hit (if b then s else [])
      both_sides true q s h = h
      both_sides false q s h = miss

  one_pass : (o : Option ℕ) → ends_here ending o ≡ hit i → stepped (accepting t n) k (end_target t ending n o ∷ []) ≡ tests hit (end i ∷ [])
  one_pass o same = both_sides (ends_here ending o) ∙ ap (λ b. b ∷ []) same
    where
      both_sides : (b : Bool) → stepped (accepting t n) k ((if b then accepting t n else dead t n) ∷ []) ≡ b ∷ []
      both_sides true = stepped-hit (accepting t n) k (accepting t n) refl
      both_sides false = miss

  steps-tried : (before o : Option ℕ) → Like (guard_sets t) before (code_before w i) → Like sets o (slice_get w i) → ends_here ending o ≡ hit i
      → (l : List Item) → ItemsKnown (guard_sets t) (places t) l
      → stepped (accepting t n) k (moves_on t ending n before o l) ≡ tests hit (tried (set_of t 0) w follow l i)
  steps-tried before o was like same [] known = refl
  steps-tried before o was like same (test_at gs p ∷ l) known =
      let b = all_hold gs before o in
      let v = all_hold gs (code_before w i) (slice_get w i) in
      let step : List Step = test ∷ (if is_in (set_of t 0 p) (slice_get w i) then follow p else []) in
      stepped-append (accepting t n) k (if b then test_target t n p o ∷ [] else []) (moves_on t ending n before o l)
      ∙ ap₂ (λ x y. x ++ y)
      (under (accepting t n) k hit b (test_target t n p o) step (one_test p o (slice_get w i) known.1 refl like)
      ∙ ap (λ x. tests hit (if x then step else []))
      (all_hold-like (guard_sets t) gs before (code_before w i) o (slice_get w i) known.0 was
      (Like-finer sets (guard_sets t) o (slice_get w i) (Finer-right sets (sets_in t) (guard_sets t) finer) like)))
      (steps-tried before o was like same l known.2)
      ∙ sym (tests-append hit (if v then step else []) (tried (set_of t 0) w follow l i))
  steps-tried before o was like same (pass gs ∷ l) known =
      let b = all_hold gs before o in
      let v = all_hold gs (code_before w i) (slice_get w i) in
      let step : List Step = end i ∷ [] in
      stepped-append (accepting t n) k (if b then end_target t ending n o ∷ [] else []) (moves_on t ending n before o l)
      ∙ ap₂ (λ x y. x ++ y)
      (under (accepting t n) k hit b (end_target t ending n o) step (one_pass o same)
      ∙ ap (λ x. tests hit (if x then step else []))
      (all_hold-like (guard_sets t) gs before (code_before w i) o (slice_get w i) known.0 was
      (Like-finer sets (guard_sets t) o (slice_get w i) (Finer-right sets (sets_in t) (guard_sets t) finer) like)))
      (steps-tried before o was like same l known.1)
      ∙ sym (tests-append hit (if v then step else []) (tried (set_of t 0) w follow l i))

hit_here : (ending : Ending) (size i : ℕ) → size ≡ i → ends_here ending None ≡ is_hit ending size i
hit_here AtEnd size i same = sym (eq-eqb i size (sym same))
hit_here Anywhere size i same = refl

hit_before : (ending : Ending) (size i c : ℕ) → i < size → ends_here ending (Some c) ≡ is_hit ending size i
hit_before AtEnd size i c lt = sym (ne_eqb i size (λ e. absurd (omega arith)))
hit_before Anywhere size i c lt = refl

module _ (a : Automaton) (t : Tree) (ending : Ending) (sets : List (ℕ → Bool)) (stands : StandsOver a t ending sets) where
  pub accepting_is : accepting_state a ≡ accepting t a.table.codes
  accepting_is = omega (arith, stands.same_states)

  -- The moves of any state, on a letter or beyond the letters.
  pub moves_is : (q letter : ℕ) → q < state_count t a.table.codes → (moves_at a q letter ≡ moves_over sets t ending a.table.codes q letter) ⊎ (moves_at a q letter ≡ [])
  moves_is q letter lt = ⊎_elim
      (λ le. inl (stands.same_moves q letter (omega (arith, stands.same_states)) (omega arith)))
      (λ beyond. inr (moves_at-outside a q letter (inr (omega arith))))
      (cases_lt letter (suc (letters_count a)))

  no_moves : (r letter : ℕ) → place_states t a.table.codes ≤ r → suc r < state_count t a.table.codes → moves_at a (suc r) letter ≡ []
  no_moves r letter le lt =
      let n = a.table.codes in
      ⊎_elim
      (λ e. e ∙ ap (moves_on t ending n (kind_before t n (suc r)) (slice_get (classes sets n) letter))
      (cond-false (nat_lt r (place_states t n)) (after t 0 (r / length (kinds t n))) [] (le-ltb r (place_states t n) le)))
      (λ e. e)
      (moves_is (suc r) letter lt)

  pub accepting_moves : (letter : ℕ) → moves_at a (accepting t a.table.codes) letter ≡ []
  accepting_moves letter = no_moves (place_states t a.table.codes) letter (omega arith) (omega arith)

  pub dead_moves : (letter : ℕ) → moves_at a (dead t a.table.codes) letter ≡ []
  dead_moves letter = no_moves (suc (place_states t a.table.codes)) letter (omega arith) (omega arith)

  pub walk-dead : (word : List ℕ) → walk a (dead t a.table.codes) word ≡ []
  walk-dead [] = refl
  walk-dead (letter ∷ word) = ap (stepped (accepting_state a) (λ r. walk a r word)) (dead_moves letter)

  -- The walk from a state on what is left of a text is the trace of the state's items there.
  walk_goes : Finer sets (all_sets t) → (w r : List ℕ) (i : ℕ) → ((m : ℕ) → slice_get w (i + m) ≡ slice_get r m) → length w ≡ i + length r → All (λ c. c < a.table.codes) r
      → (q : ℕ) (l : List Item) → StateAt t a.table.codes q l (code_before w i) → ItemsKnown (guard_sets t) (places t) l
      → walk a q (map (letter_at a.table) r ++ letters_count a ∷ []) ≡ tests (is_hit ending (length w)) (trace (set_of t 0) (after t 0) w l i)
  walk_goes finer w [] i rest size codes q l at known =
      let n = a.table.codes in
      let hit = is_hit ending (length w) in
      let k : ℕ → List Bool = λ r. [] in
      let follow = λ (p : ℕ). trace (set_of t 0) (after t 0) w (after t 0 p) (suc i) in
      let i_is : i + 0 ≡ i = omega arith in
      let next : slice_get w i ≡ None = ap (slice_get w) (sym i_is) ∙ rest 0 in
      let o : slice_get (classes sets n) (letters_count a) ≡ None = slice_get_past (classes sets n) (letters_count a) (omega (arith, stands.same_letters.same_count)) in
      ap₂ (λ acc m. stepped acc k m) accepting_is
      (stands.same_moves q (letters_count a) (omega (arith, at.in_states, stands.same_states)) (omega arith)
      ∙ ap₂ (λ x items. moves_on t ending n (kind_before t n q) x items) o at.same_items)
      ∙ steps-tried t ending sets n finer w i k follow hit refl
      (λ p c lt e. absurd (none-some c (sym next ∙ e)))
      (kind_before t n q) None at.same_kind (subst (λ x. Like sets None x) (sym next) tt) (hit_here ending (length w) i (omega (arith, size))) l known
      ∙ ap (tests hit) (sym (trace_goes (set_of t 0) (after t 0) w l i))
  walk_goes finer w (c ∷ r) i rest size codes q l at known =
      let n = a.table.codes in
      let hit = is_hit ending (length w) in
      let word = map (letter_at a.table) r ++ letters_count a ∷ [] in
      let k : ℕ → List Bool = λ q. walk a q word in
      let follow = λ (p : ℕ). trace (set_of t 0) (after t 0) w (after t 0 p) (suc i) in
      let i_is : i + 0 ≡ i = omega arith in
      let next : slice_get w i ≡ Some c = ap (slice_get w) (sym i_is) ∙ rest 0 in
      let c_in : c < n = All-head (λ x. x < n) c r codes in
      let found = class_found sets n c c_in in
      let letter : letter_at a.table c ≡ class_of sets n c = stands.same_letters.same_letter c c_in in
      let o : slice_get (classes sets n) (letter_at a.table c) ≡ Some found.0 = ap (slice_get (classes sets n)) letter ∙ found.1 in
      let letter_in : letter_at a.table c ≤ letters_count a = omega (arith, letter, class_of-lt sets n c c_in, stands.same_letters.same_count) in
      let shorter : (m : ℕ) → slice_get w (suc i + m) ≡ slice_get r m = λ m. (let e : suc i + m ≡ i + suc m = omega arith in ap (slice_get w) e ∙ rest (suc m)) in
      ap₂ (λ acc m. stepped acc k m) accepting_is
      (stands.same_moves q (letter_at a.table c) (omega (arith, at.in_states, stands.same_states)) letter_in
      ∙ ap₂ (λ x items. moves_on t ending n (kind_before t n q) x items) o at.same_items)
      ∙ steps-tried t ending sets n finer w i k follow hit (walk-dead word)
      (λ p d lt e.
      let same : c ≡ d = same_Some c d (sym next ∙ e) in
      subst (λ x. (x < n) × (k (state_of t n p (kind_of t n x)) ≡ tests hit (follow p))) same (
        c_in,
        walk_goes finer w r (suc i) shorter (omega (arith, size)) (All-tail (λ x. x < n) c r codes)
            (state_of t n p (kind_of t n c)) (after t 0 p)
            (subst (λ x. StateAt t n (state_of t n p (kind_of t n c)) (after t 0 p) x) (sym next) (place_at t n p c lt c_in))
            (after-known (guard_sets t) (places t) t 0 p (omega arith) (Finer-itself (guard_sets t))),
      ))
      (kind_before t n q) (Some found.0) at.same_kind
      (subst (λ x. Like sets (Some found.0) x) (sym next) (alike-back sets c found.0 found.2))
      (hit_before ending (length w) i found.0 (omega (arith, size))) l known
      ∙ ap (tests hit) (sym (trace_goes (set_of t 0) (after t 0) w l i))

  -- The walk on a text is the run, over any sets that distinguish what the tree's sets do.
  pub walk-run_over : Finer sets (all_sets t) → (w : List ℕ) → All (λ c. c < a.table.codes) w → walk a 0 (word_at a w) ≡ all_tests t ending w
  unfolding all_tests
  walk-run_over finer w codes =
      walk_goes finer w w 0 (λ m. let e : 0 + m ≡ m = omega arith in ap (slice_get w) e) (omega arith) codes 0 (first t 0) (start_at t a.table.codes)
      (first-known (guard_sets t) (places t) t 0 (omega arith) (Finer-itself (guard_sets t)))
      ∙ ap (tests (is_hit ending (length w))) (trace-run t w 0)

  pub walk_cost-cost_over : Finer sets (all_sets t) → (w : List ℕ) → All (λ c. c < a.table.codes) w → walk_cost a (word_at a w) ≡ cost t ending w
  walk_cost-cost_over finer w codes = ap (λ l. suc (up_to_hit l)) (walk-run_over finer w codes)

  pub walk-matched_over : Finer sets (all_sets t) → (w : List ℕ) → All (λ c. c < a.table.codes) w → walk_matched a (word_at a w) ≡ matched t ending w
  walk-matched_over finer w codes = ap has_hit (walk-run_over finer w codes)

pub walk_cost-cost : (a : Automaton) (t : Tree) (ending : Ending) (w : List ℕ) → StandsFor a t ending → All (λ c. c < a.table.codes) w
    → walk_cost a (word_at a w) ≡ cost t ending w
walk_cost-cost a t ending w stands codes = walk_cost-cost_over a t ending (all_sets t) stands (Finer-itself (all_sets t)) w codes

pub walk-matched : (a : Automaton) (t : Tree) (ending : Ending) (w : List ℕ) → StandsFor a t ending → All (λ c. c < a.table.codes) w
    → walk_matched a (word_at a w) ≡ matched t ending w
walk-matched a t ending w stands codes = walk-matched_over a t ending (all_sets t) stands (Finer-itself (all_sets t)) w codes
