use Rattle.std.proofs.Common.{◌≡◌, IfOk, subst}
use Rattle.rl_syntax.specs.Tree.{tree_of}
use Rattle.rl_lint.proofs.CostLineLemmas.{cost_line-within}
use Rattle.rl_lint.proofs.cost_line.lowered_line.Goals as goal

pub returns-in-Ok : goal.returns-in-Ok
returns-in-Ok c =
    let built = c.in-Ok.ensures in
    let within = cost_line-within (tree_of c.args.lowered.now.tree) c.args.lowered.now.ending c.args.text.now c.requires.small built.within.0 built.within.1 in
    subst (λ l. IfOk c.counted_line-line.result (λ line. line ≡ l)) within (c.counted_line-line.ensures _ _ built.ok)
