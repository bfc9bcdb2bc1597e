-- A single branch is the body.
use Rattle.std.proofs.Common.{sym, ap, ◌∙◌, arith}
use Rattle.rl_pattern.specs.Tree as t
use Rattle.rl_pattern.specs.internal.Views.{branch_of}
use Rattle.rl_pattern.proofs.Layers.{branch_of-fields, one_left}
use Rattle.rl_pattern.proofs.base.whole_body.Goals as goal

pub returns-in-Some : goal.returns-in-Some
returns-in-Some c =
    sym (ap (t.whole_body c.args.place) (one_left branch_of c.args.branches c.into_vec-branches.result.items c.pop.new.self.items c.pop.result _ c.into_vec-branches.ensures c.pop.ensures.items c.in-Some.is (omega (arith, c.len.ensures)))
    ∙ ap (λ (b : t.Branch). b.body) (branch_of-fields _))
