-- Laws of images: those of an automaton that stands for a tree are those of the tree, and they are rising lists.
use Rattle.std.proofs.Common.{◌≡◌, ◌≢◌, ◌∙◌, All, ℕ, zero, suc, ◌/◌, ◌<◌, ◌≤◌, inl, inr, List, [], ◌∷◌, ◌++◌, length, get_or, map, filter, Bool, true, not, ◌&&◌, nat_lt, eqb, eqb-true, slice_get, refl, sym, ap, ap₂, subst, arith}
use Rattle.std.specs.List.{list_any, list_all}
use Rattle.std.proofs.lemmas.Bool.{cases_lt, cond-false, le-ltb, and_parts, or_cases, ltb-true, false≢true}
use Rattle.std.proofs.lemmas.List.Elements.{All-cons}
use Rattle.std.proofs.lemmas.List.{map-append, get_or_push, get_or_append_left, length-map, length_push}
use Rattle.rl_ranges.specs.declared.universe.Universe.{Universe}
use Rattle.rl_ranges.specs.Letters.{classes}
use Rattle.rl_ranges.specs.Text.{code_count}
use Rattle.rl_syntax.specs.declared.re.Ending.TheVariants.{AtEnd}
use Rattle.rl_syntax.specs.Tree.{Tree}
use Rattle.rl_prio.specs.Items.{after}
use Rattle.rl_prio.specs.Letters.{kinds}
use Rattle.rl_prio.specs.States.{place_states, state_count, accepting, dead, moves_on, kind_before, moves_over}
use Rattle.rl_prio.specs.Automaton.{Automaton, letters_count, accepting_state, dead_state, moves_at}
use Rattle.rl_prio.specs.StandsFor.{StandsOver}
use Rattle.rl_prio.proofs.AutomatonLemmas.{moves_at-outside}
use Rattle.rl_sets.specs.Live.{below, holds, set_where, image}
use Rattle.rl_sets.specs.Walk.{set_of}
use Rattle.rl_sets.proofs.SetLemmas.{same_tests, any-there, any-from}
use Rattle.rl_sets.proofs.LiveLemmas.{found_in, found_from}
use Rattle.rl_equiv.specs.declared.pair.SetPair.{SetPair}
use Rattle.rl_equiv.specs.SetPairs.{joint_sets, image_over, rises, set_pairs}
use Rattle.rl_equiv.specs.Joined.{StandTogether}
use Rattle.rl_equiv.specs.internal.Machines.{pair_on, ends, all_proper, pairs_of}
use Rattle.rl_equiv.proofs.RiseLaws.{rises-parts, rises-holds, rises-below}

-- The numbers below `n`, in order.

pub length-below : (n : ℕ) → length (below n) ≡ n
length-below zero = refl
length-below (suc n) = omega (arith, length_push (below n) n, length-below n)

pub map-below : {A : Type 0} (f g : ℕ → A) (n : ℕ) → ((l : ℕ) → l < n → f l ≡ g l) → map f (below n) ≡ map g (below n)
map-below f g zero same = refl
map-below f g (suc n) same =
    map-append f (below n) (n ∷ []) ∙ ap₂ (λ x y. x ++ y ∷ []) (map-below f g n (λ l lt. same l (omega arith))) (same n (omega arith)) ∙ sym (map-append g (below n) (n ∷ []))

pub get_or-below : {A : Type 0} (f : ℕ → A) (n l : ℕ) (d : A) → l < n → get_or (map f (below n)) l d ≡ f l
get_or-below f zero l d lt = absurd (omega arith)
get_or-below {A = A} f (suc n) l d lt =
    let long : length (map f (below n)) ≡ n = length-map (below n) f ∙ length-below n in
    ap (λ (xs : List A). get_or xs l d) (map-append f (below n) (n ∷ []))
    ∙ elim (cases_lt l n) [
      | inl less ↦ get_or_append_left (map f (below n)) (f n ∷ []) d l (omega (arith, long)) ∙ get_or-below f n l d less
      | inr more ↦
          let here : l ≡ n = omega arith in
          get_or_push (map f (below n)) (f n) d l (omega (arith, long)) ∙ ap f (sym here)
    ]

-- Numbers that aren't states have no moves.

no-moves-over : (t : Tree) (sets : List (ℕ → Bool)) (n letter q : ℕ) → state_count t n ≤ q → moves_over sets t AtEnd n q letter ≡ []
no-moves-over t sets n letter zero le = absurd (omega arith)
no-moves-over t sets n letter (suc r) le =
    ap (moves_on t AtEnd n (kind_before t n (suc r)) (slice_get (classes sets n) letter))
    (cond-false (nat_lt r (place_states t n)) (after t 0 (r / length (kinds t n))) [] (le-ltb r (place_states t n) (omega arith)))

pub moves-all : (a : Automaton) (t : Tree) (sets : List (ℕ → Bool)) → StandsOver a t AtEnd sets → (letter : ℕ) → letter ≤ letters_count a → (q : ℕ)
    → moves_at a q letter ≡ moves_over sets t AtEnd a.table.codes q letter
moves-all a t sets stands letter le q =
    elim (cases_lt q a.states) [
      | inl lt ↦ stands.same_moves q letter lt le
      | inr ge ↦ moves_at-outside a q letter (inl ge) ∙ sym (no-moves-over t sets a.table.codes letter q (omega (arith, stands.same_states)))
    ]

pub image-over : (a : Automaton) (t : Tree) (sets : List (ℕ → Bool)) → StandsOver a t AtEnd sets → (set : List ℕ) (letter : ℕ) → letter ≤ letters_count a
    → image a set letter ≡ image_over sets t a.table.codes set letter
unfolding image image_over
image-over a t sets stands set letter le =
    let m = moves-all a t sets stands letter le in
    let d : dead_state a ≡ dead t a.table.codes = omega (arith, stands.same_states) in
    λ i. filter (λ x. not (eqb x (d i)) && list_any (λ q. holds (m q i) x) set) (below (stands.same_states i))

-- The set pairs of automata that stand for two trees are those of the trees.
module _ (u : Universe) (s t : Tree) (a b : Automaton) (st : StandTogether u s t a b) where
  pub first_count : letters_count a ≡ length (classes (joint_sets s t) (code_count u))
  first_count = st.first_stands.same_letters.same_count ∙ ap (λ (n : ℕ). length (classes (joint_sets s t) n)) st.first_codes

  second_count : letters_count b ≡ length (classes (joint_sets s t) (code_count u))
  second_count = st.second_stands.same_letters.same_count ∙ ap (λ (n : ℕ). length (classes (joint_sets s t) n)) st.second_codes

  pub same_count : letters_count a ≡ letters_count b
  same_count = first_count ∙ sym second_count

  first_image : (set : List ℕ) (letter : ℕ) → letter ≤ letters_count a → image a set letter ≡ image_over (joint_sets s t) s (code_count u) set letter
  first_image set letter le =
      image-over a s (joint_sets s t) st.first_stands set letter le ∙ ap (λ (n : ℕ). image_over (joint_sets s t) s n set letter) st.first_codes

  second_image : (set : List ℕ) (letter : ℕ) → letter ≤ letters_count b → image b set letter ≡ image_over (joint_sets s t) t (code_count u) set letter
  second_image set letter le =
      image-over b t (joint_sets s t) st.second_stands set letter le ∙ ap (λ (n : ℕ). image_over (joint_sets s t) t n set letter) st.second_codes

  first_accepting : accepting_state a ≡ accepting s (code_count u)
  first_accepting =
      let e : accepting_state a ≡ accepting s a.table.codes = omega (arith, st.first_stands.same_states) in
      e ∙ ap (accepting s) st.first_codes

  second_accepting : accepting_state b ≡ accepting t (code_count u)
  second_accepting =
      let e : accepting_state b ≡ accepting t b.table.codes = omega (arith, st.second_stands.same_states) in
      e ∙ ap (accepting t) st.second_codes

  first_ends : (set : List ℕ) → ends a set ≡ holds (image_over (joint_sets s t) s (code_count u) set (length (classes (joint_sets s t) (code_count u)))) (accepting s (code_count u))
  first_ends set =
      let e : image a set (letters_count a) ≡ image_over (joint_sets s t) s (code_count u) set (length (classes (joint_sets s t) (code_count u))) =
      first_image set (letters_count a) (omega arith) ∙ ap (image_over (joint_sets s t) s (code_count u) set) first_count in
      ap₂ holds e first_accepting

  second_ends : (set : List ℕ) → ends b set ≡ holds (image_over (joint_sets s t) t (code_count u) set (length (classes (joint_sets s t) (code_count u)))) (accepting t (code_count u))
  second_ends set =
      let e : image b set (letters_count b) ≡ image_over (joint_sets s t) t (code_count u) set (length (classes (joint_sets s t) (code_count u))) =
      second_image set (letters_count b) (omega arith) ∙ ap (image_over (joint_sets s t) t (code_count u) set) second_count in
      ap₂ holds e second_accepting

  next_same : (p : SetPair) (letter : ℕ) → letter < letters_count a
      → pair_on a b p letter ≡ record { first = image_over (joint_sets s t) s (code_count u) p.first letter; second = image_over (joint_sets s t) t (code_count u) p.second letter }
  next_same p letter lt =
      let x = first_image p.first letter (omega arith) in
      let y = second_image p.second letter (omega (arith, same_count)) in
      λ i. record { first = x i; second = y i }

  pub pairs_of-trees : pairs_of a b ≡ set_pairs u s t
  unfolding pairs_of set_pairs
  pairs_of-trees =
      let n = code_count u in
      let sets = joint_sets s t in
      let next : ℕ → SetPair → SetPair = λ letter p. record { first = image_over sets s n p.first letter; second = image_over sets t n p.second letter } in
      let e = λ (p : SetPair). map-below (pair_on a b p) (λ letter. next letter p) (letters_count a) (next_same p) ∙ ap (λ (k : ℕ). map (λ letter. next letter p) (below k)) first_count in
      λ i. record {
        nexts = λ p. e p i;
        ends_first = λ p. first_ends p.first i;
        ends_second = λ p. second_ends p.second i;
        proper = λ p. rises 0 (first_accepting i) p.first && rises 0 (second_accepting i) p.second;
      }

-- An image rises.

pub image-rises : (sets : List (ℕ → Bool)) (t : Tree) (n : ℕ) (set : List ℕ) (letter : ℕ) → rises 0 (state_count t n) (image_over sets t n set letter) ≡ true
unfolding image_over
image-rises sets t n set letter =
    rises-below (λ q. not (eqb q (dead t n)) && list_any (λ p. holds (moves_over sets t AtEnd n p letter) q) set) (state_count t n)

-- The image of members that rise is that of their set.

pub below-proper : (a : Automaton) (set : List ℕ) (q : ℕ) → all_proper a set ≡ true → holds set q ≡ true → q < accepting_state a
below-proper a set q proper in' = (rises-holds 0 (accepting_state a) set q proper in').1

any-set : (a : Automaton) (set : List ℕ) (f : ℕ → Bool) → all_proper a set ≡ true → list_any f (set_of a set) ≡ list_any f set
any-set a set f proper =
    same_tests _ _
    (λ e. let h = any-there f (holds set) a.states e in found_from f set h.0 h.2 h.3)
    (λ e. let h = found_in f set e in any-from f (holds set) a.states h.0 (omega (arith, below-proper a set h.0 proper h.1)) h.1 h.2)

pub image-set : (a : Automaton) (set : List ℕ) (letter : ℕ) → all_proper a set ≡ true → image a (set_of a set) letter ≡ image a set letter
unfolding image
image-set a set letter proper =
    let e = λ (t : ℕ). any-set a set (λ q. holds (moves_at a q letter) t) proper in
    λ i. set_where a (λ t. not (eqb t (dead_state a)) && e t i)

states-from : (a : Automaton) (low : ℕ) (set : List ℕ) → 3 ≤ a.states → rises low (accepting_state a) set ≡ true → All (λ q. (q < a.states) × (q ≢ dead_state a)) set
states-from a low [] three e = λ k d lt. absurd (omega arith)
states-from a low (x ∷ set) three e =
    let p = rises-parts low (accepting_state a) x set e in
    let lt : x < accepting_state a = p.1 in
    All-cons (λ q. (q < a.states) × (q ≢ dead_state a)) x set (omega arith, λ e. omega arith) (states-from a (suc x) set three p.2)

pub proper-states : (a : Automaton) (set : List ℕ) → 3 ≤ a.states → all_proper a set ≡ true → All (λ q. (q < a.states) × (q ≢ dead_state a)) set
proper-states a set three proper = states-from a 0 set three proper
