use Rattle.std.proofs.Common.{sym, ◌∙◌, ap₂, ◌*◌, ◌+◌}
use Rattle.rl_graph.proofs.ProductLaws.{at-place, at-place-one}
use Rattle.rl_graph.proofs.moves.chosen.Goals as goal

pub returns-then-width-eq1 : goal.returns-then-width-eq1
returns-then-width-eq1 c =
    ap₂ (λ x y. x * c.args.count + y) c.from.ensures c.from-then-width-eq1.ensures ∙ sym (at-place-one c.args.count c.args.first.now c.args.second.now c.args.number c.if-width-eq1.true c.requires.number_in)

pub returns : goal.returns
returns c =
    ap₂ (λ x y. x * c.args.count + y) c.from-2.ensures c.from-3.ensures ∙ sym (at-place c.args.count c.args.first.now c.args.second.now c.args.number c.requires.number_in)
