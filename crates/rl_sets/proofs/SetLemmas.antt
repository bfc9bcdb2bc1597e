-- Lemmas on sets as increasing lists: the members that a filter of the numbers below `n` keeps.
use Rattle.std.proofs.Common.{◌≡◌, ◌≢◌, All, get_or, ℕ, zero, suc, ◌<◌, ◌≤◌, ◌⊎◌, Bool, true, false, not, cond, ◌&&◌, ◌||◌, eqb, filter, List, [], ◌∷◌, ◌++◌, ◌+◌, refl, sym, ap, ◌∙◌, subst, inl, inr, arith}
use Rattle.std.specs.List.{list_any}
use Rattle.std.proofs.lemmas.Bool.{both_ways, cases_lt, cases_eq, cases_Bool, eq-eqb, ne_eqb, eqb-true, or_cases, or_left, or_right, or_from, cond-true, cond-false, false_from_ne_true, false≢true}
use Rattle.std.proofs.lemmas.List.{append-nil}
use Rattle.std.proofs.lemmas.List.Elements.{filter-append}
use Rattle.std.proofs.lemmas.List.Folds.{list_any-append, list_any_none}
use Rattle.rl_prio.specs.Automaton.{Automaton, dead_state, moves_at}
use Rattle.rl_sets.specs.Live.{below, holds, set_where, image, joined, left_out}
use Rattle.rl_sets.specs.Walk.{set_of, IsSetOf}

-- Two tests that give each other are equal.
pub same_tests : (x y : Bool) → (x ≡ true → y ≡ true) → (y ≡ true → x ≡ true) → x ≡ y
same_tests true y there back = sym (there refl)
same_tests false y there back = by (cases_Bool y)
  where
    by : (y ≡ true) ⊎ (y ≡ false) → false ≡ y
    by (inl e) = back e ∙ sym e
    by (inr e) = sym e

-- The last number.
pub filter-below_suc : (p : ℕ → Bool) (n : ℕ) → filter p (below (suc n)) ≡ filter p (below n) ++ cond (p n) (n ∷ []) []
filter-below_suc p n = filter-append p (below n) (n ∷ [])

-- Two tests that agree below `n` keep the same members.
pub filter_same : (p r : ℕ → Bool) (n : ℕ) → ((q : ℕ) → q < n → p q ≡ r q) → filter p (below n) ≡ filter r (below n)
filter_same p r zero same = refl
filter_same p r (suc n) same =
    filter-below_suc p n
    ∙ ap (λ l. l ++ cond (p n) (n ∷ []) []) (filter_same p r n (λ q lt. same q (omega arith)))
    ∙ ap (λ b. filter r (below n) ++ cond b (n ∷ []) []) (same n (omega arith))
    ∙ sym (filter-below_suc r n)

last_there : (f : ℕ → Bool) (b : Bool) (n : ℕ) → list_any f (cond b (n ∷ []) []) ≡ true → (b ≡ true) × (f n ≡ true)
last_there f true n e = (refl, elim (or_cases (f n) false e) [ inl h ↦ h | inr h ↦ absurd (false≢true h) ])
last_there f false n e = absurd (false≢true e)

last_from : (f : ℕ → Bool) (b : Bool) (n : ℕ) → b ≡ true → f n ≡ true → list_any f (cond b (n ∷ []) []) ≡ true
last_from f true n e h = or_left (f n) false h
last_from f false n e h = absurd (false≢true e)

-- The test is true for some member.
pub any-there : (f p : ℕ → Bool) (n : ℕ) → list_any f (filter p (below n)) ≡ true → (q : ℕ) × (q < n) × (p q ≡ true) × (f q ≡ true)
any-there f p zero e = absurd (false≢true e)
any-there f p (suc n) e =
    elim (or_cases (list_any f (filter p (below n))) (list_any f (cond (p n) (n ∷ []) [])) (sym (ap (list_any f) (filter-below_suc p n) ∙ list_any-append f (filter p (below n)) (cond (p n) (n ∷ []) [])) ∙ e)) [
      | inl more ↦ let h = any-there f p n more in (h.0, omega arith, h.2, h.3)
      | inr here ↦ let h = last_there f (p n) n here in (n, omega arith, h.0, h.1)
    ]

pub any-from : (f p : ℕ → Bool) (n q : ℕ) → q < n → p q ≡ true → f q ≡ true → list_any f (filter p (below n)) ≡ true
any-from f p zero q lt in' h = absurd (omega arith)
any-from f p (suc n) q lt in' h =
    let front = list_any f (filter p (below n)) in
    let last = list_any f (cond (p n) (n ∷ []) []) in
    let split : list_any f (filter p (below (suc n))) ≡ (front || last) = ap (list_any f) (filter-below_suc p n) ∙ list_any-append f (filter p (below n)) (cond (p n) (n ∷ []) []) in
    elim (cases_lt q n) [
      | inl less ↦ split ∙ or_left front last (any-from f p n q less in' h)
      | inr more ↦
          let here : q ≡ n = omega arith in
          split ∙ or_right front last (last_from f (p n) n (subst (λ k. p k ≡ true) here in') (subst (λ k. f k ≡ true) here h))
    ]

-- Two tests, one after the other.
pub filter_both : (f p : ℕ → Bool) (xs : List ℕ) → filter f (filter p xs) ≡ filter (λ q. p q && f q) xs
filter_both f p [] = refl
filter_both f p (x ∷ xs) = by (p x) (filter_both f p xs)
  where
    both : ℕ → Bool
    both q = p q && f q

    by : (b : Bool) → filter f (filter p xs) ≡ filter both xs → filter f (cond b (x ∷ filter p xs) (filter p xs)) ≡ cond (b && f x) (x ∷ filter both xs) (filter both xs)
    by true rest = ap (λ r. cond (f x) (x ∷ r) r) rest
    by false rest = rest

-- A member is a number below `n` for which the test is true.
pub holds-there : (p : ℕ → Bool) (n q : ℕ) → holds (filter p (below n)) q ≡ true → (q < n) × (p q ≡ true)
holds-there p n q e =
    let h = any-there (λ x. eqb x q) p n e in
    let same : h.0 ≡ q = eqb-true h.0 q h.3 in
    (omega arith, subst (λ k. p k ≡ true) same h.2)

pub holds-from : (p : ℕ → Bool) (n q : ℕ) → q < n → p q ≡ true → holds (filter p (below n)) q ≡ true
holds-from p n q lt e = any-from (λ x. eqb x q) p n q lt e (eq-eqb q q refl)

pub holds-filter : (p : ℕ → Bool) (n q : ℕ) → q < n → holds (filter p (below n)) q ≡ p q
holds-filter p n q lt = same_tests _ _ (λ e. (holds-there p n q e).1) (holds-from p n q lt)

-- The set of the members of a set is that set.
pub set_where-holds : (a : Automaton) (p : ℕ → Bool) → set_where a p ≡ set_where a (holds (set_where a p))
set_where-holds a p = filter_same p (holds (set_where a p)) a.states (λ q lt. sym (holds-filter p a.states q lt))

-- A number between that isn't a member changes nothing.
pub filter_gap : (p : ℕ → Bool) (from n : ℕ) → from ≤ n → ((k : ℕ) → from ≤ k → k < n → p k ≡ false) → filter p (below n) ≡ filter p (below from)
filter_gap p from zero le none = let e : zero ≡ from = omega arith in ap (λ k. filter p (below k)) e
filter_gap p from (suc n) le none =
    elim (cases_lt n from) [
      | inl lt ↦ let e : suc n ≡ from = omega arith in ap (λ k. filter p (below k)) e
      | inr ge ↦
          filter-below_suc p n
          ∙ ap (λ b. filter p (below n) ++ cond b (n ∷ []) []) (none n ge (omega arith))
          ∙ append-nil (filter p (below n))
          ∙ filter_gap p from n ge (λ k from_k lt. none k from_k (omega arith))
    ]

-- The least member at or above a number.
pub filter_next : (p : ℕ → Bool) (from n : ℕ) → from ≤ n → ((k : ℕ) → from ≤ k → k < n → p k ≡ false) → p n ≡ true → filter p (below (n + 1)) ≡ filter p (below from) ++ n ∷ []
filter_next p from n le none here =
    let e : n + 1 ≡ suc n = omega arith in
    ap (λ k. filter p (below k)) e
    ∙ filter-below_suc p n
    ∙ ap (λ b. filter p (below n) ++ cond b (n ∷ []) []) here
    ∙ ap (λ l. l ++ n ∷ []) (filter_gap p from n le none)

-- ---- sets of the automaton's states
pub IsSetOf-where : (a : Automaton) (p : ℕ → Bool) → p (dead_state a) ≡ false → IsSetOf a (set_where a p)
IsSetOf-where a p no_dead = record {
  rising = set_where-holds a p;
  no_dead = false_from_ne_true _ (λ e. both_ways (p (dead_state a)) no_dead (holds-there p a.states (dead_state a) e).1);
}

pub IsSetOf-image : (a : Automaton) (set : List ℕ) (letter : ℕ) → IsSetOf a (image a set letter)
unfolding image
IsSetOf-image a set letter =
    let reached = λ (t : ℕ). list_any (λ q. holds (moves_at a q letter) t) set in
    IsSetOf-where a (λ t. not (eqb t (dead_state a)) && reached t) (ap (λ b. not b && reached (dead_state a)) (eq-eqb (dead_state a) (dead_state a) refl))

pub IsSetOf-joined : (a : Automaton) (t : ℕ) (set : List ℕ) → IsSetOf a set → IsSetOf a (joined a t set)
unfolding joined
IsSetOf-joined a t set is =
    elim (cases_eq t (dead_state a)) [
      | inl here ↦ subst (IsSetOf a) (sym (cond-true (eqb t (dead_state a)) set (set_where a (λ x. eqb x t || holds set x)) (eq-eqb t (dead_state a) here))) is
      | inr other ↦
          subst (IsSetOf a) (sym (cond-false (eqb t (dead_state a)) set (set_where a (λ x. eqb x t || holds set x)) (ne_eqb t (dead_state a) other)))
          (IsSetOf-where a (λ x. eqb x t || holds set x) (or_from (eqb (dead_state a) t) (holds set (dead_state a)) (ne_eqb (dead_state a) t (λ e. other (sym e))) is.no_dead))
    ]

-- A set joined with one of its members is that set.
pub joined-member : (a : Automaton) (t : ℕ) (set : List ℕ) → IsSetOf a set → holds set t ≡ true → joined a t set ≡ set
unfolding joined
joined-member a t set is in' =
    elim (cases_eq t (dead_state a)) [
      | inl here ↦ cond-true (eqb t (dead_state a)) set (set_where a (λ x. eqb x t || holds set x)) (eq-eqb t (dead_state a) here)
      | inr other ↦
          cond-false (eqb t (dead_state a)) set (set_where a (λ x. eqb x t || holds set x)) (ne_eqb t (dead_state a) other)
          ∙ filter_same (λ x. eqb x t || holds set x) (holds set) a.states (λ x lt. same_tests _ _ (λ e. one_of x (or_cases (eqb x t) (holds set x) e)) (or_right (eqb x t) (holds set x)))
          ∙ sym is.rising
    ]
  where
    one_of : (x : ℕ) → (eqb x t ≡ true) ⊎ (holds set x ≡ true) → holds set x ≡ true
    one_of x (inl e) = subst (λ k. holds set k ≡ true) (sym (eqb-true x t e)) in'
    one_of x (inr e) = e

pub IsSetOf-left_out : (a : Automaton) (states : List Bool) (set : List ℕ) → IsSetOf a set → IsSetOf a (left_out states set)
unfolding left_out
IsSetOf-left_out a states set is =
    let kept = λ (q : ℕ). not (get_or states q false) in
    subst (IsSetOf a) (sym (ap (filter kept) is.rising ∙ filter_both kept (holds set) (below a.states)))
    (IsSetOf-where a (λ q. holds set q && kept q) (ap (λ b. b && kept (dead_state a)) is.no_dead))

pub IsSetOf-listed : (a : Automaton) (qs : List ℕ) → All (λ q. (q < a.states) × (q ≢ dead_state a)) qs → IsSetOf a (set_of a qs)
IsSetOf-listed a qs each =
    IsSetOf-where a (holds qs) (list_any_none (λ x. eqb x (dead_state a)) qs (λ k d lt. ne_eqb (get_or qs k d) (dead_state a) (each k d lt).1))
