use Rattle.std.proofs.Common.{◌≡◌, ℕ, ◌*◌, subst, ◌∙◌}
use Rattle.rl_graph.specs.internal.Dense.{IsDense}
use Rattle.rl_graph.proofs.HalfLaws.{halves-parts}
use Rattle.rl_graph.proofs.pairs.half_parts.Goals as goal

pub returns : goal.returns
returns c =
    let g = c.args.g.now in
    let e : c.from-count.result ≡ g.states = c.from-count.ensures ∙ c.states.ensures.number in
    let p = c.in_ok-parts.parts in
    let d = c.in_ok-cut.cut in
    halves-parts g c.args.rows.now.numbers.items c.args.rows.now.owners.items c.states.ensures.whole c.requires.rows.some c.requires.rows.numbered c.args.moving.now p d c.in_ok-parts.ensures
    (subst (λ (k : ℕ). IsDense p (k * k) d) e c.in_ok-cut.ensures)
