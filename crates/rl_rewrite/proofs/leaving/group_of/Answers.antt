use Rattle.std.proofs.Common.{ap, ◌∙◌}
use Rattle.rl_syntax.specs.PatTree.{pat_of, group}
use Rattle.rl_rewrite.proofs.PartTrees.{group-tree}
use Rattle.rl_rewrite.proofs.leaving.group_of.Goals as goal

pub returns : goal.returns
returns c =
    group-tree c.args.span c.args.captures c.in_ok-body.body ∙ ap (λ b. group c.args.span c.args.captures (pat_of b)) c.in_ok-body.ensures.ok
