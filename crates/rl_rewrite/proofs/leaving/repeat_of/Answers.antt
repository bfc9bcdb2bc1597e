use Rattle.std.proofs.Common.{ap, ◌∙◌}
use Rattle.rl_syntax.specs.PatTree.{pat_of, repeat}
use Rattle.rl_rewrite.proofs.PartTrees.{repeat-tree}
use Rattle.rl_rewrite.proofs.leaving.repeat_of.Goals as goal

pub returns : goal.returns
returns c =
    let a = c.args in
    repeat-tree a.span a.mark a.min a.max a.greedy c.in_ok-body.body ∙ ap (λ b. repeat a.span a.mark a.min a.max a.greedy (pat_of b)) c.in_ok-body.ensures.ok
