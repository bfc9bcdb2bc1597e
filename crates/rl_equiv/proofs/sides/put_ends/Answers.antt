use Rattle.std.proofs.Common.{◌≡◌, ◌-◌, ℕ, List, [], ◌∷◌, subst}
use Rattle.rl_sets.specs.Walk.{set_of}
use Rattle.rl_equiv.specs.internal.Searching.{Gets}
use Rattle.rl_equiv.proofs.SideLaws.{side-begun}
use Rattle.rl_equiv.proofs.sides.put_ends.Goals as goal

pub returns : goal.returns
returns c =
    let a = c.args.a.now in
    let none : c.new-none.result.items ≡ [] = c.new-none.ensures.items in
    let x = subst (λ (l : List ℕ). Gets a c.args.walk.now c.put.new.walk (set_of a l) c.in_ok-put.field-0) none c.in_ok-put.ensures in
    let y = subst (λ (n : ℕ). Gets a c.put.new.walk c.put_one.new.walk (set_of a ((n - 2) ∷ [])) c.in_ok-put_one.field-0) c.states.ensures.count c.in_ok-put_one.ensures in
    side-begun a c.args.walk.now c.put.new.walk c.put_one.new.walk c.in_ok-put.field-0 c.in_ok-put_one.field-0 c.requires.empty c.requires.limit x y
