-- Laws of the states that the end letter leads to the accepting state.
use Rattle.std.proofs.Common.{◌≡◌, ◌≢◌, ◌∙◌, ℕ, ◌<◌, ◌≤◌, List, [], ◌∷◌, get_or, All, Bool, false, not, ◌&&◌, ◌||◌, eqb, refl, sym, ap, ap₂, arith}
use Rattle.std.specs.List.{list_any}
use Rattle.std.proofs.lemmas.Bool.{ne_eqb}
use Rattle.std.proofs.lemmas.List.Elements.{All-head, All-tail, All-weaker}
use Rattle.rl_prio.specs.Automaton.{Automaton, letters_count, accepting_state, dead_state, moves_at}
use Rattle.rl_sets.specs.Live.{holds, image}
use Rattle.rl_sets.specs.Walk.{IsSetOf}
use Rattle.rl_sets.proofs.SetLemmas.{holds-filter}
use Rattle.rl_trim.specs.Endings.{state_ends, AreEnding}
use Rattle.rl_trim.specs.internal.Trims.{set_ends}
use Rattle.rl_trim.proofs.SetLaws.{members-states}

-- ---- the members of a set

pub any-alike : (f g : ℕ → Bool) (xs : List ℕ) → All (λ x. f x ≡ g x) xs → list_any f xs ≡ list_any g xs
any-alike f g [] e = refl
any-alike f g (x ∷ xs) e = ap₂ (λ y z. y || z) (All-head (λ x. f x ≡ g x) x xs e) (any-alike f g xs (All-tail (λ x. f x ≡ g x) x xs e))

image-ends : (a : Automaton) (set : List ℕ) (letter : ℕ) → 3 ≤ a.states → holds (image a set letter) (accepting_state a) ≡ list_any (λ q. holds (moves_at a q letter) (accepting_state a)) set
unfolding image
image-ends a set letter three =
    let t = accepting_state a in
    let there = list_any (λ q. holds (moves_at a q letter) t) set in
    holds-filter (λ t. not (eqb t (dead_state a)) && list_any (λ q. holds (moves_at a q letter) t) set) a.states t (omega (arith, three))
    ∙ ap (λ b. not b && there) (ne_eqb t (dead_state a) (λ e. omega (arith, e, three)))

-- A set is led to the accepting state where a member of it is.
pub ending-any : (a : Automaton) (set members : List ℕ) (flags : List Bool) → 3 ≤ a.states → IsSetOf a set → AreEnding a a.states flags → members ≡ set → list_any (λ q. get_or flags q false) members ≡ set_ends a set
ending-any a set members flags three is are e =
    ap (list_any (λ q. get_or flags q false)) e
    ∙ any-alike (λ q. get_or flags q false) (state_ends a) set
    (All-weaker (λ q. (q < a.states) × (q ≢ dead_state a)) (λ q. get_or flags q false ≡ state_ends a q) (λ q h. are.1 q h.0) set (members-states a set is))
    ∙ sym (image-ends a set (letters_count a) three)
