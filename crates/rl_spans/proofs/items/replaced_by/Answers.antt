use Rattle.std.proofs.Common.{◌<◌, ◌+◌, suc, ◌∷◌, length, ap, sym, ◌∙◌}
use Rattle.std.proofs.Math.ListN.{drop}
use Rattle.std.proofs.Math.Seq.{drop-cons}
use Rattle.rl_syntax.specs.declared.limits.TheConstants.{MOST_MOVES}
use Rattle.rl_marks.specs.MarkItems.{replaced}
use Rattle.rl_spans.proofs.LongLaws.{carried, no_room-behind}
use Rattle.rl_spans.proofs.items.replaced_by.Goals as goal

pub returns-in_err-add_prefixed-in-Pass-clause-long : goal.returns-in_err-add_prefixed-in-Pass-clause-long
returns-in_err-add_prefixed-in-Pass-clause-long c =
    let items = c.args.items.now in
    let index = c.loop-item.item-index in
    carried c.from_residual-in_err-add_prefixed-in-Pass.result c.in_err-add_prefixed-in-Pass.field-0.0
    (MOST_MOVES < length c.loop-item.list + length c.args.others.now) (MOST_MOVES < length (replaced items c.args.others.now))
    c.from_residual-in_err-add_prefixed-in-Pass.ensures.1 c.in_err-add_prefixed-in-Pass.ensures.long
    (no_room-behind c.in-Pass.acts c.loop-item.list items (drop index items) (drop (suc index) items) c.args.others.now c.loop-item.invariant
    (drop-cons items index c.item-item.result c.loop-item-test.true ∙ ap (λ x. x ∷ drop (suc index) items) (sym c.item-item.is ∙ c.in-Pass.is)))
