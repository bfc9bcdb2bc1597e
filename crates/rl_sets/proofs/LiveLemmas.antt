-- Lemmas on accepted and refused rests.
use Rattle.std.proofs.Common.{◌≡◌, ◌≢◌, ℕ, ◌<◌, ◌⊎◌, Bool, true, false, not, ◌&&◌, eqb, List, [], ◌∷◌, All, refl, sym, ap, ◌∙◌, subst, inl, inr, arith}
use Rattle.std.specs.List.{list_any}
use Rattle.std.proofs.lemmas.Bool.{both_ways, eq-eqb, ne_eqb, eqb-true, or_cases, or_left, or_right, or_from, and_parts, and_from, not_from_false, true≢false, false≢true}
use Rattle.std.proofs.lemmas.List.Elements.{All-head, All-tail}
use Rattle.rl_prio.specs.Automaton.{Automaton, IsAutomaton, letters_count, accepting_state, dead_state, moves_at}
use Rattle.rl_sets.specs.Live.{holds, accepts, image, refuses, IsRest, IsLive}
use Rattle.rl_sets.proofs.SetLemmas.{same_tests, any-there, holds-from}

-- A test that is true for some element.
pub found_in : (p : ℕ → Bool) (xs : List ℕ) → list_any p xs ≡ true → (x : ℕ) × (holds xs x ≡ true) × (p x ≡ true)
found_in p [] e = absurd (false≢true e)
found_in p (y ∷ ys) e =
    elim (or_cases (p y) (list_any p ys) e) [
      | inl h ↦ (y, or_left (eqb y y) (holds ys y) (eq-eqb y y refl), h)
      | inr h ↦ let r = found_in p ys h in (r.0, or_right (eqb y r.0) (holds ys r.0) r.1, r.2)
    ]

pub found_from : (p : ℕ → Bool) (xs : List ℕ) (x : ℕ) → holds xs x ≡ true → p x ≡ true → list_any p xs ≡ true
found_from p [] x e h = absurd (false≢true e)
found_from p (y ∷ ys) x e h =
    elim (or_cases (eqb y x) (holds ys x) e) [
      | inl s ↦ or_left (p y) (list_any p ys) (subst (λ k. p k ≡ true) (sym (eqb-true y x s)) h)
      | inr r ↦ or_right (p y) (list_any p ys) (found_from p ys x r h)
    ]

holds_below : (n : ℕ) (xs : List ℕ) (x : ℕ) → All (λ t. t < n) xs → holds xs x ≡ true → x < n
holds_below n [] x each e = absurd (false≢true e)
holds_below n (y ∷ ys) x each e =
    elim (or_cases (eqb y x) (holds ys x) e) [
      | inl s ↦ subst (λ k. k < n) (eqb-true y x s) (All-head (λ t. t < n) y ys each)
      | inr r ↦ holds_below n ys x (All-tail (λ t. t < n) y ys each) r
    ]

-- The accepting state accepts every rest, and the dead state none.
accepting-accepts : (a : Automaton) (word : List ℕ) → accepts a (accepting_state a) word ≡ true
accepting-accepts a [] = eq-eqb (accepting_state a) (accepting_state a) refl
accepting-accepts a (l ∷ w) = or_left _ _ (eq-eqb (accepting_state a) (accepting_state a) refl)

dead-accepts : (a : Automaton) → IsAutomaton a → (word : List ℕ) → accepts a (dead_state a) word ≡ false
dead-accepts a is [] = ne_eqb (dead_state a) (accepting_state a) (λ e. omega (arith, is.three_states))
dead-accepts a is (l ∷ w) =
    or_from _ _ (ne_eqb (dead_state a) (accepting_state a) (λ e. omega (arith, is.three_states))) (ap (list_any (λ t. accepts a t w)) (is.died l))

-- Some member accepts a letter and the following letters if some member of the image accepts the following letters.
accepts-image : (a : Automaton) → IsAutomaton a → (set : List ℕ) (letter : ℕ) (word : List ℕ) → holds set (accepting_state a) ≡ false
    → list_any (λ q. accepts a q (letter ∷ word)) set ≡ list_any (λ t. accepts a t word) (image a set letter)
unfolding image
accepts-image a is set letter word free =
    let p = λ (t : ℕ). not (eqb t (dead_state a)) && list_any (λ q. holds (moves_at a q letter) t) set in
    same_tests _ _ (λ e.
    let r = found_in (λ q. accepts a q (letter ∷ word)) set e in
    elim (or_cases (eqb r.0 (accepting_state a)) (list_any (λ t. accepts a t word) (moves_at a r.0 letter)) r.2) [
      | inl same ↦ absurd (both_ways (holds set (accepting_state a)) free (subst (λ k. holds set k ≡ true) (eqb-true r.0 (accepting_state a) same) r.1))
      | inr some ↦
          let m = found_in (λ t. accepts a t word) (moves_at a r.0 letter) some in
          let small : m.0 < a.states = holds_below a.states (moves_at a r.0 letter) m.0 (is.targets r.0 letter) m.1 in
          let alive : m.0 ≢ dead_state a = λ s. both_ways (accepts a (dead_state a) word) (dead-accepts a is word) (subst (λ k. accepts a k word ≡ true) s m.2) in
          let in' : p m.0 ≡ true = and_from (not (eqb m.0 (dead_state a))) (list_any (λ q. holds (moves_at a q letter) m.0) set) (not_from_false (eqb m.0 (dead_state a)) (ne_eqb m.0 (dead_state a) alive)) (found_from (λ q. holds (moves_at a q letter) m.0) set r.0 r.1 m.1) in
          found_from (λ t. accepts a t word) _ m.0 (holds-from p a.states m.0 small in') m.2
    ]) (λ e.
    let h = any-there (λ t. accepts a t word) p a.states e in
    let parts = and_parts (not (eqb h.0 (dead_state a))) (list_any (λ q. holds (moves_at a q letter) h.0) set) h.2 in
    let r = found_in (λ q. holds (moves_at a q letter) h.0) set parts.1 in
    found_from (λ q. accepts a q (letter ∷ word)) set r.0 r.1 (or_right (eqb r.0 (accepting_state a)) (list_any (λ t. accepts a t word) (moves_at a r.0 letter)) (found_from (λ t. accepts a t word) (moves_at a r.0 letter) h.0 r.2 h.3)))

-- A set refuses a letter and the following letters if its image refuses the following letters.
pub refuses-image : (a : Automaton) → IsAutomaton a → (set : List ℕ) (letter : ℕ) (word : List ℕ) → holds set (accepting_state a) ≡ false → refuses a set (letter ∷ word) ≡ refuses a (image a set letter) word
unfolding refuses
refuses-image a is set letter word free = ap not (accepts-image a is set letter word free)

-- It refuses nothing if it holds the accepting state.
pub refuses-nothing : (a : Automaton) (set : List ℕ) → refuses a set [] ≡ not (holds set (accepting_state a))
unfolding refuses
refuses-nothing a set = refl

-- A set with the accepting state isn't live.
pub accepting-dead : (a : Automaton) (set : List ℕ) → holds set (accepting_state a) ≡ true → IsLive a set → ⊥
unfolding refuses
accepting-dead a set in' live =
    true≢false (sym live.2 ∙ ap not (found_from (λ q. accepts a q live.0) set (accepting_state a) in' (accepting-accepts a live.0)))

-- If the image on the end letter lacks the accepting state, the end letter is refused.
pub end-refused : (a : Automaton) → IsAutomaton a → (set : List ℕ) → holds set (accepting_state a) ≡ false → holds (image a set (letters_count a)) (accepting_state a) ≡ false → refuses a set (letters_count a ∷ []) ≡ true
end-refused a is set free after =
    refuses-image a is set (letters_count a) [] free ∙ refuses-nothing a (image a set (letters_count a)) ∙ ap not after

-- Sets that all accept the end, and whose images are among them or dead, are dead.
pub all-dead : (a : Automaton) → IsAutomaton a → (count : ℕ) (found : ℕ → List ℕ)
    → ((i : ℕ) → i < count → holds (found i) (accepting_state a) ≡ false)
    → ((i : ℕ) → i < count → holds (image a (found i) (letters_count a)) (accepting_state a) ≡ true)
    → ((i letter : ℕ) → i < count → letter < letters_count a → ((j : ℕ) × (j < count) × (found j ≡ image a (found i) letter)) ⊎ (IsLive a (image a (found i) letter) → ⊥))
    → (word : List ℕ) (i : ℕ) → i < count → IsRest a word → refuses a (found i) word ≡ true → ⊥
all-dead a is count found free ended closed [] i lt rest refused = rest
all-dead a is count found free ended closed (letter ∷ word) i lt rest refused =
    let set = found i in
    let after : refuses a (image a set letter) word ≡ true = sym (refuses-image a is set letter word (free i lt)) ∙ refused in
    elim rest [
      | inl e ↦
          let last : refuses a (image a set (letters_count a)) [] ≡ true = subst (λ (w : List ℕ). refuses a (image a set (letters_count a)) w ≡ true) e.1 (subst (λ (l : ℕ). refuses a (image a set l) word ≡ true) e.0 after) in
          true≢false (sym last ∙ refuses-nothing a (image a set (letters_count a)) ∙ ap not (ended i lt))
      | inr more ↦ elim (closed i letter lt more.0) [
        | inl there ↦ all-dead a is count found free ended closed word there.0 there.1 more.1 (ap (λ s. refuses a s word) there.2 ∙ after)
        | inr dead ↦ dead (word, more.1, after)
      ]
    ]
