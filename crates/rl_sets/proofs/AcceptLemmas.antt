-- Whether a state accepts letters, by its walk: it does if it is the accepting state or its walk has a hit.
use Rattle.std.proofs.Common.{◌≡◌, ◌∙◌, ℕ, List, [], ◌∷◌, ◌++◌, Bool, true, false, ◌||◌, cond, eqb, refl, ap, ap₂}
use Rattle.std.specs.List.{list_any}
use Rattle.rl_ranges.proofs.SetLemmas.{or-false}
use Rattle.rl_syntax.specs.Cost.{has_hit}
use Rattle.rl_prio.specs.Automaton.{Automaton, accepting_state, moves_at}
use Rattle.rl_prio.specs.Walk.{stepped, walk}
use Rattle.rl_sets.specs.Live.{accepts}

has_hit-append : (l m : List Bool) → has_hit (l ++ m) ≡ (has_hit l || has_hit m)
has_hit-append [] m = refl
has_hit-append (true ∷ l) m = refl
has_hit-append (false ∷ l) m = has_hit-append l m

hit-of-step : (e : Bool) (l : List Bool) → has_hit (cond e (true ∷ []) (false ∷ l)) ≡ (e || has_hit l)
hit-of-step true l = refl
hit-of-step false l = refl

any-stepped : (a : Automaton) (w ts : List ℕ) → ((t : ℕ) → (eqb t (accepting_state a) || has_hit (walk a t w)) ≡ accepts a t w)
    → has_hit (stepped (accepting_state a) (λ r. walk a r w) ts) ≡ list_any (λ t. accepts a t w) ts
any-stepped a w [] h = refl
any-stepped a w (t ∷ ts) h =
    has_hit-append (cond (eqb t (accepting_state a)) (true ∷ []) (false ∷ walk a t w)) (stepped (accepting_state a) (λ r. walk a r w) ts)
    ∙ ap₂ (λ x y. x || y) (hit-of-step (eqb t (accepting_state a)) (walk a t w) ∙ h t) (any-stepped a w ts h)

-- A state other than the accepting one accepts exactly the letters on which its walk has a hit.
pub walk-accepts : (a : Automaton) (w : List ℕ) (q : ℕ) → (eqb q (accepting_state a) || has_hit (walk a q w)) ≡ accepts a q w
walk-accepts a [] q = or-false (eqb q (accepting_state a))
walk-accepts a (l ∷ w) q = ap (λ b. eqb q (accepting_state a) || b) (any-stepped a w (moves_at a q l) (walk-accepts a w))
