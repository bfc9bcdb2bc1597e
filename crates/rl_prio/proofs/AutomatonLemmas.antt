-- Lemmas on the moves of an automaton.
use Rattle.std.proofs.Common.{◌≡◌, ℕ, suc, ◌+◌, ◌*◌, ◌<◌, ◌≤◌, ◌&&◌, List, [], length, slice_index_or, nat_lt, nat_le, All, sym, ap, subst, ◌∙◌, ◌⊎◌, inl, inr, ⊎_elim, arith}
use Rattle.std.proofs.lemmas.Bool.{lt-ltb, le-ltb, le-leb, lt-leb, and_from, and_left, and_right, cond-true, cond-false, cases_lt}
use Rattle.rl_prio.specs.Automaton.{Automaton, IsAutomaton, letters_count, accepting_state, dead_state, moves_at}

-- Within the states and the letters the moves are a row.
pub moves_at-inside : (a : Automaton) (q letter : ℕ) → q < a.states → letter ≤ letters_count a
    → moves_at a q letter ≡ slice_index_or a.rows (q * suc (letters_count a) + letter) []
unfolding moves_at
moves_at-inside a q letter lt le =
    cond-true (nat_lt q a.states && nat_le letter (letters_count a)) (slice_index_or a.rows (q * suc (letters_count a) + letter) []) []
    (and_from (nat_lt q a.states) (nat_le letter (letters_count a)) (lt-ltb q a.states lt) (le-leb letter (letters_count a) le))

-- A row that was read by its number is the moves.
pub moves_of_row : (a now : Automaton) (count q letter : ℕ) (row : List ℕ) → a ≡ now → count ≡ letters_count a → q < now.states → letter ≤ letters_count now
    → row ≡ slice_index_or a.rows (q * (count + 1) + letter) [] → row ≡ moves_at now q letter
moves_of_row a now count q letter row same counted lt le read =
    let P : Automaton → Type 0 = λ b. q < b.states → letter ≤ letters_count b → row ≡ moves_at b q letter in
    let width : count + 1 ≡ suc (letters_count a) = omega (arith, counted) in
    subst P same (λ l m. read ∙ ap (λ w. slice_index_or a.rows (q * w + letter) []) width ∙ sym (moves_at-inside a q letter l m)) lt le

-- And leads to states.
pub targets_of_row : (a now : Automaton) (q letter : ℕ) (row : List ℕ) → a ≡ now → IsAutomaton a → row ≡ moves_at now q letter
    → All (λ target. target < now.states) row
targets_of_row a now q letter row same automaton read =
    let P : Automaton → Type 0 = λ b. row ≡ moves_at b q letter → All (λ target. target < b.states) row in
    subst P same (λ e. let Q : List ℕ → Type 0 = λ l. All (λ target. target < a.states) l in subst Q (sym e) (automaton.targets q letter)) read

-- Beyond the states and the letters there is no move.
pub moves_at-outside : (a : Automaton) (q letter : ℕ) → (a.states ≤ q) ⊎ (letters_count a < letter) → moves_at a q letter ≡ []
unfolding moves_at
moves_at-outside a q letter (inl beyond) =
    cond-false (nat_lt q a.states && nat_le letter (letters_count a)) (slice_index_or a.rows (q * suc (letters_count a) + letter) []) []
    (and_left (nat_lt q a.states) (nat_le letter (letters_count a)) (le-ltb q a.states beyond))
moves_at-outside a q letter (inr beyond) =
    cond-false (nat_lt q a.states && nat_le letter (letters_count a)) (slice_index_or a.rows (q * suc (letters_count a) + letter) []) []
    (and_right (nat_lt q a.states) (nat_le letter (letters_count a)) (lt-leb letter (letters_count a) beyond))

no_moves : (n : ℕ) (l : List ℕ) → l ≡ [] → All (λ target. target < n) l
no_moves n l e = let P : List ℕ → Type 0 = λ m. All (λ target. target < n) m in subst P (sym e) (λ k d lt. absurd (omega arith))

le_or_more : (m n : ℕ) → (m ≤ n) ⊎ (n < m)
le_or_more m n = ⊎_elim (λ lt. inl (omega arith)) (λ le. inr (omega arith)) (cases_lt m (suc n))

stopped : (a : Automaton) (q letter : ℕ) → q < a.states
    → ((l : ℕ) → l ≤ letters_count a → slice_index_or a.rows (q * suc (letters_count a) + l) [] ≡ []) → moves_at a q letter ≡ []
stopped a q letter lt none =
    ⊎_elim (λ le. moves_at-inside a q letter lt le ∙ none letter le) (λ beyond. moves_at-outside a q letter (inr beyond)) (le_or_more letter (letters_count a))

-- What is to be shown of the rows of an automaton.
pub automaton_of : (a : Automaton) → 3 ≤ a.states → length a.rows ≡ a.states * suc (letters_count a)
    → ((q letter : ℕ) → q < a.states → letter ≤ letters_count a → All (λ target. target < a.states) (slice_index_or a.rows (q * suc (letters_count a) + letter) []))
    → ((letter : ℕ) → letter ≤ letters_count a → slice_index_or a.rows (accepting_state a * suc (letters_count a) + letter) [] ≡ [])
    → ((letter : ℕ) → letter ≤ letters_count a → slice_index_or a.rows (dead_state a * suc (letters_count a) + letter) [] ≡ [])
    → IsAutomaton a
automaton_of a three counted below accepted died = record {
  three_states = three;
  row_count = counted;
  targets = λ q letter. ⊎_elim
      (λ lt. ⊎_elim
      (λ le. let P : List ℕ → Type 0 = λ m. All (λ target. target < a.states) m in subst P (sym (moves_at-inside a q letter lt le)) (below q letter lt le))
      (λ beyond. no_moves a.states _ (moves_at-outside a q letter (inr beyond)))
      (le_or_more letter (letters_count a)))
      (λ beyond. no_moves a.states _ (moves_at-outside a q letter (inl beyond)))
      (cases_lt q a.states);
  accepted = λ letter. stopped a (accepting_state a) letter (omega arith) accepted;
  died = λ letter. stopped a (dead_state a) letter (omega arith) died;
}
