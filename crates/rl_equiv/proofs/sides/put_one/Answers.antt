use Rattle.std.proofs.Common.{ℕ, List, IfOk, subst}
use Rattle.rl_sets.specs.Walk.{set_of}
use Rattle.rl_equiv.specs.internal.Searching.{Gets}
use Rattle.rl_equiv.proofs.sides.put_one.Goals as goal

pub returns : goal.returns
returns c =
    let a = c.args.a.now in
    subst (λ (l : List ℕ). IfOk c.put.result (Gets a c.args.walk.now c.put.new.walk (set_of a l))) c.in_ok-members.ensures.items c.put.ensures
