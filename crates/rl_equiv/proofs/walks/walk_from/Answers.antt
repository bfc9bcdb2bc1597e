use Rattle.std.proofs.Common.{◌≢◌, ◌<◌, ℕ, List, All, sym, ◌∙◌, subst}
use Rattle.rl_prio.specs.Automaton.{dead_state}
use Rattle.rl_equiv.proofs.ImageLaws.{proper-states}
use Rattle.rl_equiv.proofs.walks.walk_from.Goals as goal

pub intern-requires-clause-states : goal.intern-requires-clause-states
intern-requires-clause-states c =
    let a = c.args.a.now in
    let each = proper-states a c.args.set.now c.states-states.ensures.automaton.three_states c.requires in
    subst (λ (l : List ℕ). All (λ q. (q < a.states) × (q ≢ dead_state a)) l) (sym (c.in_ok-members.ensures.items ∙ c.as_slice.ensures)) each
