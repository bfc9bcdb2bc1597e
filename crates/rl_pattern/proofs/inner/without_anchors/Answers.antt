-- A branch of several items.
use Rattle.std.proofs.Common.{map, Some, sym, ap, ◌∙◌}
use Rattle.rl_pattern.specs.Tree.{nothing}
use Rattle.rl_pattern.specs.internal.Views.{node_of}
use Rattle.rl_pattern.specs.Found.{items_of, inner_of}
use Rattle.rl_pattern.proofs.Anchors.{listed-nodes, node_of-seq}
use Rattle.rl_pattern.proofs.inner.without_anchors.Goals as goal

pub returns-in-Seq : goal.returns-in-Seq
returns-in-Seq c =
    let place = c.args.whole.place in
    c.inner_branch-in-Seq.ensures
    ∙ ap (λ ps. inner_of place (nothing place) (Some (map node_of ps))) c.into_vec.ensures
    ∙ ap (λ ps. inner_of place (nothing place) (Some ps)) (sym (listed-nodes (map node_of c.in-Seq.items)))
    ∙ ap (λ n. inner_of place n (items_of n)) (sym (ap node_of c.in-Seq.is ∙ node_of-seq c.in-Seq.field-0 c.in-Seq.items))
