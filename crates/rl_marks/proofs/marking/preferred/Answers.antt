use Rattle.std.proofs.Common.{◌≡◌, [], ◌∷◌, ◌++◌, arith}
use Rattle.std.proofs.lemmas.Grind.{common_steps}
use Rattle.rl_marks.proofs.JoinLaws.{one_of-step}
use Rattle.rl_marks.proofs.marking.preferred.Goals as goal

pub loop-first-preserved : goal.loop-first-preserved
loop-first-preserved c =
    let e : c.loop-first.left.items ≡ c.pop-in-loop-first.new.self.items ++ c.in-Some-pop.first ∷ [] = grind (arith, common_steps) in
    one_of-step c.loop-first.left.items c.pop-in-loop-first.new.self.items c.in-Some-pop.first c.loop-first.whole c.in_ok-whole.whole c.args.trees e c.in_ok-whole.ensures c.loop-first.invariant
