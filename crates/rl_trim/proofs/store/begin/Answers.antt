use Rattle.std.proofs.Common.{◌≡◌, List, ℕ, [], ◌∷◌, subst}
use Rattle.rl_sets.specs.Walk.{set_of, IsListed}
use Rattle.rl_trim.proofs.ClosingLaws.{begun}
use Rattle.rl_trim.proofs.store.begin.Goals as goal

pub returns-in-Ok : goal.returns-in-Ok
returns-in-Ok c =
    let a = c.args.a.now in
    let first : c.in_ok-start.start.items ≡ 0 ∷ [] = c.in_ok-start.ensures.items in
    let listed = subst (λ (l : List ℕ). IsListed c.in_ok-walk.walk.sets c.intern.new.self.sets (set_of a l) c.in-Ok.field-0) first c.in-Ok.ensures.listed in
    begun a c.in_ok-walk.walk c.intern.new.self c.in-Ok.field-0 c.states-states.ensures.automaton.three_states c.in_ok-walk.ensures.empty c.in-Ok.ensures.made c.in-Ok.ensures.inside listed
