-- The body in its box.
use Rattle.std.proofs.Common.{◌≡◌, ◌+◌, suc, map, ap, ◌∙◌, arith}
use Rattle.rl_pattern.specs.Tree as t
use Rattle.rl_pattern.specs.internal.Machine as m
use Rattle.rl_pattern.specs.internal.Views.{node_of, branch_of}
use Rattle.rl_pattern.proofs.Layers.{node_of-group}
use Rattle.rl_pattern.proofs.base.closed.Goals as goal

pub returns : goal.returns
returns c =
    let b = c.args.body in
    let next : c.args.i + 1 ≡ suc c.args.i = omega arith in
    ap (m.an_atom b.opened)
    (node_of-group (t.span b.opened (c.args.i + 1)) b.kind c.in-Ok.whole
    ∙ ap (t.group (t.span b.opened (c.args.i + 1)) b.kind) (ap node_of c.in-Ok.ensures.ok ∙ c.whole_body-whole.ensures)
    ∙ ap (λ j. t.group (t.span b.opened j) b.kind (t.whole_body (t.span b.start c.args.i) (map branch_of b.branches))) next)
