use Rattle.std.proofs.Common.{◌≡◌, false, ◌+◌, ◌||◌, drop, map, sym, ap, ◌∙◌}
use Rattle.rl_syntax.specs.PatTree.{pat_of, items_of}
use Rattle.rl_pattern.specs.Suggested.{among}
use Rattle.rl_rewrite.specs.internal.Keeping.{loses_empty, items_lose_empty}
use Rattle.rl_rewrite.proofs.PartTrees.{class-tree}
use Rattle.rl_rewrite.proofs.Rounds.{items_from, or_stays, or_ends}
use Rattle.rl_rewrite.proofs.keeping.+losing.Goals as goal
use Rattle.rl_rewrite.proofs.keeping.+losing.Goals.{items_may_lose_empty-in-Class, items_may_lose_empty-in_default+then-may_lose_empty, items_may_lose_empty-in_default+else-may_lose_empty}

pub items_may_lose_empty-loop-item-preserved : goal.items_may_lose_empty-loop-item-preserved
items_may_lose_empty-loop-item-preserved t c =
    let dropped = among c.args.dropped.now in
    let gone = among c.args.gone.now in
    let one = loses_empty dropped gone (pat_of c.item-item.result) in
    let rest = items_lose_empty dropped gone (items_of (map pat_of (drop (c.loop-item.item-index + 1) c.args.items.now))) in
    let from : items_lose_empty dropped gone (items_of (map pat_of (drop c.loop-item.item-index c.args.items.now))) ≡ (one || rest) =
    ap (items_lose_empty dropped gone) (items_from c.args.items.now c.loop-item.item-index c.item-item.result c.loop-item-test.true c.item-item.is) in
    elim c.match-item.branch [
      | items_may_lose_empty-in-Class w ↦
          let none : one ≡ false = ap (loses_empty dropped gone) (ap pat_of w.in-Class.is ∙ class-tree w.in-Class.span w.in-Class.set) in
          or_stays c.loop-item.some c.match-item.some one rest _ _ w.some-is none from c.loop-item.invariant
      | items_may_lose_empty-in_default+then-may_lose_empty w ↦ or_ends c.loop-item.some c.match-item.some one rest _ _ (w.some-is ∙ w.if-may_lose_empty.true) (sym w.may_lose_empty.ensures ∙ w.if-may_lose_empty.true) from c.loop-item.invariant
      | items_may_lose_empty-in_default+else-may_lose_empty w ↦ or_stays c.loop-item.some c.match-item.some one rest _ _ w.some-is (sym w.may_lose_empty.ensures ∙ w.if-may_lose_empty.false) from c.loop-item.invariant
    ]
