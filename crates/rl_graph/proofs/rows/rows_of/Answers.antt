use Rattle.std.proofs.Common.{◌+◌, sym, subst}
use Rattle.rl_graph.specs.internal.Halves.{AreNumbered}
use Rattle.rl_graph.proofs.HalfLaws.{numbered-more}
use Rattle.rl_graph.proofs.rows.rows_of.Goals as goal

pub loop-place-preserved : goal.loop-place-preserved
loop-place-preserved c =
    let g = c.args.g.now in
    let place = c.loop-place.place in
    let more = c.number_of.new.owners.items in
    subst (λ z. AreNumbered g (place + 1) z more) (sym c.in_ok-push.ensures.items)
    (numbered-more g place c.loop-place.numbers.items c.loop-place.owners.items more c.in_ok-number.number c.in_ok-number.ensures.more c.loop-place.invariant c.in_ok-number.ensures.owned)
