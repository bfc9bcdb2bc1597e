-- One more item.
use Rattle.std.proofs.Common.{◌∙◌, sym, ap, List, drop}
use Rattle.rl_sites.specs.declared.significant.SignificantToken.{SignificantToken}
use Rattle.rl_sites.proofs.Items.{items_step}
use Rattle.rl_sites.proofs.imports.push_items.Goals as goal

pub loop-rest-preserved : goal.loop-rest-preserved
loop-rest-preserved c =
    c.loop-rest.invariant
    ∙ items_step c.args.source.now c.args.kind c.loop-rest.rest.now c.rest_from-after.result.now c.rest_from-rest.result.now _ c.item_size-size.result c.loop-rest.aliases.items c.push_item.new.aliases.items
    c.in-len1-up.len_at_least c.rest_from-after.ensures (sym c.is_name.ensures ∙ c.if-not-is_name.false) c.item_size-size.ensures.value (sym c.op_at.ensures.value ∙ c.if-not-op_at.false) (c.rest_from-rest.ensures ∙ ap (λ (x : List SignificantToken). drop 1 x) c.rest_from.ensures) c.in_ok-push_item.ensures
