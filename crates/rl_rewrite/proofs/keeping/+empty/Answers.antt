use Rattle.std.proofs.Common.{◌≡◌, ◌+◌, ◌&&◌, drop, map, sym, ap, ◌∙◌}
use Rattle.rl_syntax.specs.PatTree.{pat_of, items_of}
use Rattle.rl_pattern.specs.Suggested.{among}
use Rattle.rl_rewrite.specs.internal.Keeping.{spans_empty, items_span_empty}
use Rattle.rl_rewrite.proofs.Rounds.{items_from, and_stays, and_ends}
use Rattle.rl_rewrite.proofs.keeping.+empty.Goals as goal
use Rattle.rl_rewrite.proofs.keeping.+empty.Goals.{items_may_be_empty-then-may_be_empty, items_may_be_empty-else-may_be_empty}

pub items_may_be_empty-loop-item-preserved : goal.items_may_be_empty-loop-item-preserved
items_may_be_empty-loop-item-preserved t c =
    let dropped = among c.args.dropped.now in
    let one = spans_empty dropped (pat_of c.item-item.result) in
    let rest = items_span_empty dropped (items_of (map pat_of (drop (c.loop-item.item-index + 1) c.args.items.now))) in
    let from : items_span_empty dropped (items_of (map pat_of (drop c.loop-item.item-index c.args.items.now))) ≡ (one && rest) =
    ap (items_span_empty dropped) (items_from c.args.items.now c.loop-item.item-index c.item-item.result c.loop-item-test.true c.item-item.is) in
    elim c.if-may_be_empty.branch [
      | items_may_be_empty-then-may_be_empty w ↦ and_stays c.loop-item.all c.if-may_be_empty.all one rest _ _ w.all-is (sym c.may_be_empty.ensures ∙ w.if-may_be_empty.true) from c.loop-item.invariant
      | items_may_be_empty-else-may_be_empty w ↦ and_ends c.loop-item.all c.if-may_be_empty.all one rest _ _ (w.all-is ∙ w.if-may_be_empty.false) (sym c.may_be_empty.ensures ∙ w.if-may_be_empty.false) from c.loop-item.invariant
    ]
