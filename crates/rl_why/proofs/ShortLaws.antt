-- No state of an automaton has more moves than the longest item list of its tree has items.
use Rattle.std.proofs.Common.{ℕ, zero, suc, ◌*◌, ◌/◌, ◌^◌, ◌<◌, ◌≤◌, ◌⊎◌, inl, inr, ⊎_elim, nat_lt, List, [], length, slice_get, sym, subst, arith}
use Rattle.std.proofs.lemmas.Bool.{cases_lt, cond_both, ltb-true}
use Rattle.std.proofs.lemmas.Nat.{div_below}
use Rattle.rl_ranges.specs.Letters.{classes}
use Rattle.rl_syntax.specs.declared.re.Ending.{Ending}
use Rattle.rl_syntax.specs.declared.limits.TheConstants.{MOST_MOVES}
use Rattle.rl_syntax.specs.Tree.{Tree, places}
use Rattle.rl_prio.specs.Items.{after, longest}
use Rattle.rl_prio.specs.Letters.{all_sets, kinds}
use Rattle.rl_prio.specs.States.{place_states, items_of, kind_before}
use Rattle.rl_prio.specs.Automaton.{Automaton, letters_count, moves_at}
use Rattle.rl_prio.specs.StandsFor.{StandsFor}
use Rattle.rl_prio.proofs.AutomatonLemmas.{moves_at-outside}
use Rattle.rl_prio.proofs.LengthLemmas.{length-moves_on}
use Rattle.rl_prio.proofs.WidthLemmas.{longest-start, longest-at}

some_factor : (r p k : ℕ) → r < p * k → 0 < k
some_factor r p zero lt = absurd (omega (arith, lt))
some_factor r p (suc k) lt = omega arith

items-few : (t : Tree) (n q : ℕ) → length (items_of t n q) ≤ longest t
items-few t n zero = longest-start t (places t)
items-few t n (suc r) =
    let k = length (kinds t n) in
    cond_both (nat_lt r (place_states t n)) (after t 0 (r / k)) [] (λ l. length l ≤ longest t)
    (λ yes.
    let lt : r < places t * k = ltb-true r (place_states t n) yes in
    longest-at t (places t) (r / k) (div_below r k (places t) (some_factor r (places t) k lt) lt))
    (λ no. omega arith)

moves-few : (a : Automaton) (t : Tree) (ending : Ending) → StandsFor a t ending → (q letter : ℕ) → length (moves_at a q letter) ≤ longest t
moves-few a t ending stands q letter =
    let n = a.table.codes in
    let next = slice_get (classes (all_sets t) n) letter in
    let P : List ℕ → Type 0 = λ l. length l ≤ longest t in
    let outside : ((a.states ≤ q) ⊎ (letters_count a < letter)) → P (moves_at a q letter) = λ out. subst P (sym (moves_at-outside a q letter out)) (omega arith) in
    ⊎_elim
    (λ lt. ⊎_elim
    (λ le. subst P (sym (stands.same_moves q letter lt (omega arith)))
    (omega (arith, length-moves_on t ending n (kind_before t n q) next (items_of t n q), items-few t n q)))
    (λ beyond. outside (inr (omega arith)))
    (cases_lt letter (suc (letters_count a))))
    (λ beyond. outside (inl beyond))
    (cases_lt q a.states)

pub moves-short : (a : Automaton) (t : Tree) (ending : Ending) → StandsFor a t ending → longest t ≤ MOST_MOVES → (q letter : ℕ) → length (moves_at a q letter) < 2 ^ 32
moves-short a t ending stands few q letter = omega (arith, few, moves-few a t ending stands q letter)
