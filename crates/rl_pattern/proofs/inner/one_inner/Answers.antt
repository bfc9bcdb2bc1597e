use Rattle.std.proofs.Common.{[], ◌∷◌, ◌++◌, map, Some, ap, ◌∙◌}
use Rattle.rl_pattern.specs.Tree.{nothing}
use Rattle.rl_pattern.specs.Found.{inner_of}
use Rattle.rl_pattern.specs.internal.Views.{node_of}
use Rattle.rl_pattern.proofs.inner.one_inner.Goals as goal

pub returns : goal.returns
returns c =
    c.inner_branch.ensures
    ∙ ap (λ ps. inner_of c.args.place (nothing c.args.place) (Some (map node_of ps))) (c.in_ok-push.ensures.items ∙ ap (λ ps. ps ++ c.args.item ∷ []) c.new-items.ensures.items)
