-- What follows for an automaton that stands for a tree: its moves on the end letter, and the numbers of its moves and states.
use Rattle.std.proofs.Common.{◌≡◌, ℕ, suc, ◌+◌, ◌*◌, ◌^◌, ◌<◌, ◌≤◌, Bool, List, [], ◌∷◌, length, All, Option, None, slice_get, if◌then◌else◌, ◌⊎◌, inl, inr, ⊎_elim, refl, sym, ap, subst, ◌∙◌, arith}
use Rattle.std.proofs.lemmas.Bool.{cond_both, cases_lt}
use Rattle.std.proofs.lemmas.List.Elements.{All-nil, All-cons, All-append}
use Rattle.std.proofs.lemmas.Option.{slice_get_past}
use Rattle.rl_ranges.specs.Letters.{classes}
use Rattle.rl_syntax.specs.declared.re.Ending.{Ending}
use Rattle.rl_syntax.specs.Tree.{Tree, size}
use Rattle.rl_prio.specs.Measure.{measure}
use Rattle.rl_prio.specs.Items.{Item, test_at, pass, all_hold}
use Rattle.rl_prio.specs.States.{accepting, dead, end_target, ends_here, moves_on, items_of, kind_before}
use Rattle.rl_prio.specs.Automaton.{Automaton, letters_count, accepting_state, dead_state, moves_at}
use Rattle.rl_prio.specs.StandsFor.{StandsOver}
use Rattle.rl_prio.proofs.AutomatonLemmas.{moves_at-outside}
use Rattle.rl_prio.proofs.LengthLemmas.{items-short, length-moves_on}
use Rattle.rl_prio.proofs.KindLemmas.{few_states}
use Rattle.rl_prio.proofs.WalkLemmas.{accepting_is, accepting_moves, dead_moves}

-- If no code follows, a move leads to the accepting state or the dead state.
end_targets : (t : Tree) (ending : Ending) (n : ℕ) (before : Option ℕ) (l : List Item) → All (λ q. (q ≡ accepting t n) ⊎ (q ≡ dead t n)) (moves_on t ending n before None l)
end_targets t ending n before [] = All-nil (λ q. (q ≡ accepting t n) ⊎ (q ≡ dead t n))
end_targets t ending n before (test_at gs p ∷ l) =
    let P : ℕ → Type 0 = λ q. (q ≡ accepting t n) ⊎ (q ≡ dead t n) in
    All-append P (if all_hold gs before None then dead t n ∷ [] else []) (moves_on t ending n before None l)
    (cond_both (all_hold gs before None) (dead t n ∷ []) [] (All P) (λ _. All-cons P (dead t n) [] (inr refl) (All-nil P)) (λ _. All-nil P))
    (end_targets t ending n before l)
end_targets t ending n before (pass gs ∷ l) =
    let P : ℕ → Type 0 = λ q. (q ≡ accepting t n) ⊎ (q ≡ dead t n) in
    All-append P (if all_hold gs before None then end_target t ending n None ∷ [] else []) (moves_on t ending n before None l)
    (cond_both (all_hold gs before None) (end_target t ending n None ∷ []) [] (All P)
    (λ _. All-cons P (end_target t ending n None) [] (cond_both (ends_here ending None) (accepting t n) (dead t n) P (λ _. inl refl) (λ _. inr refl)) (All-nil P))
    (λ _. All-nil P))
    (end_targets t ending n before l)

module _ (a : Automaton) (t : Tree) (ending : Ending) (sets : List (ℕ → Bool)) (stands : StandsOver a t ending sets) where
  pub end_moves : (q : ℕ) → All (λ target. (target ≡ accepting_state a) ⊎ (target ≡ dead_state a)) (moves_at a q (letters_count a))
  end_moves q =
      let n = a.table.codes in
      let P : ℕ → Type 0 = λ x. (x ≡ accepting_state a) ⊎ (x ≡ dead_state a) in
      let acc : accepting t n ≡ accepting_state a = omega (arith, stands.same_states) in
      let none : dead t n ≡ dead_state a = omega (arith, stands.same_states) in
      ⊎_elim
      (λ lt.
      let o : slice_get (classes sets n) (letters_count a) ≡ None = slice_get_past (classes sets n) (letters_count a) (omega (arith, stands.same_letters.same_count)) in
      let is : moves_at a q (letters_count a) ≡ moves_on t ending n (kind_before t n q) None (items_of t n q) =
      stands.same_moves q (letters_count a) lt (omega arith) ∙ ap (λ x. moves_on t ending n (kind_before t n q) x (items_of t n q)) o in
      subst (All P) (sym is) (subst (λ x. All (λ r. (r ≡ x) ⊎ (r ≡ dead_state a)) (moves_on t ending n (kind_before t n q) None (items_of t n q))) acc
      (subst (λ x. All (λ r. (r ≡ accepting t n) ⊎ (r ≡ x)) (moves_on t ending n (kind_before t n q) None (items_of t n q))) none
      (end_targets t ending n (kind_before t n q) (items_of t n q)))))
      (λ beyond. subst (All P) (sym (moves_at-outside a q (letters_count a) (inl beyond))) (All-nil P))
      (cases_lt q a.states)

  pub no_accepting_moves : (letter : ℕ) → moves_at a (accepting_state a) letter ≡ []
  no_accepting_moves letter = ap (λ q. moves_at a q letter) (accepting_is a t ending sets stands) ∙ accepting_moves a t ending sets stands letter

  pub no_dead_moves : (letter : ℕ) → moves_at a (dead_state a) letter ≡ []
  no_dead_moves letter =
      let is : dead_state a ≡ dead t a.table.codes = omega (arith, stands.same_states) in
      ap (λ q. moves_at a q letter) is ∙ dead_moves a t ending sets stands letter

  pub moves-short : (q letter : ℕ) → length (moves_at a q letter) ≤ 2 ^ (size t * size t)
  moves-short q letter =
      let n = a.table.codes in
      let next = slice_get (classes sets n) letter in
      let P : List ℕ → Type 0 = λ l. length l ≤ 2 ^ (size t * size t) in
      let outside : ((a.states ≤ q) ⊎ (letters_count a < letter)) → P (moves_at a q letter) = λ out. subst P (sym (moves_at-outside a q letter out)) (omega arith) in
      ⊎_elim
      (λ lt. ⊎_elim
      (λ le. subst P (sym (stands.same_moves q letter lt (omega arith)))
      (omega (arith, length-moves_on t ending n (kind_before t n q) next (items_of t n q), items-short t n q)))
      (λ beyond. outside (inr (omega arith)))
      (cases_lt letter (suc (letters_count a))))
      (λ beyond. outside (inl beyond))
      (cases_lt q a.states)

  pub states-few : a.states ≤ 4 * measure a.table.codes t + 3
  states-few = omega (arith, stands.same_states, few_states t a.table.codes)
