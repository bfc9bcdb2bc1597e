use Rattle.std.proofs.Common.{◌≡◌, map, sym, ap, ◌∙◌}
use Rattle.rl_pattern.specs.Tree as t
use Rattle.rl_pattern.specs.Found.{begins_leading}
use Rattle.rl_pattern.specs.internal.Views.{node_of}
use Rattle.rl_pattern.proofs.Layers.{branch_of-fields}
use Rattle.rl_pattern.proofs.Anchors.{ends_taken}
use Rattle.rl_pattern.proofs.inner.inner_branch.Goals as goal

pub returns : goal.returns
returns c =
    let body : node_of c.branch-body.result.body ≡ t.branch_body c.args.place (map node_of c.take_trailing-trailing.new.items.items) =
    ap (λ (b : t.Branch). b.body) (sym (branch_of-fields c.branch-body.result) ∙ c.branch-body.ensures)
    ∙ ap (λ ps. t.branch_body c.args.place (map node_of ps)) c.from_vec.ensures
    in
    ends_taken c.args.place (map node_of c.args.items.items) (map node_of c.take_leading.new.items.items) (map node_of c.take_trailing-trailing.new.items.items) (node_of c.branch-body.result.body) c.begins_leading-leading.result c.take_trailing-trailing.result
    (c.begins_leading-leading.ensures ∙ ap (λ ps. begins_leading (map node_of ps)) c.as_slice.ensures.value)
    c.take_leading.ensures c.take_trailing-trailing.ensures.rest c.take_trailing-trailing.ensures.run body
