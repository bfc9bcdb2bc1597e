use Rattle.std.proofs.Common.{◌≡◌, true, ◌+◌, ◌&&◌, drop, map, sym, ap, ◌∙◌}
use Rattle.rl_syntax.specs.PatTree.{pat_of, items_of}
use Rattle.rl_pattern.specs.Suggested.{among, may_go, items_may_go}
use Rattle.rl_rewrite.proofs.PartTrees.{class-tree}
use Rattle.rl_rewrite.proofs.Rounds.{items_from, and_stays, and_ends}
use Rattle.rl_rewrite.proofs.going.+going.Goals as goal
use Rattle.rl_rewrite.proofs.going.+going.Goals.{items_may_go-in-Class, items_may_go-in_default+then-may_go, items_may_go-in_default+else-may_go}

pub items_may_go-loop-item-preserved : goal.items_may_go-loop-item-preserved
items_may_go-loop-item-preserved t c =
    let gone = among c.args.dropped.now in
    let one = may_go gone (pat_of c.item-item.result) in
    let rest = items_may_go gone (items_of (map pat_of (drop (c.loop-item.item-index + 1) c.args.items.now))) in
    let from : items_may_go gone (items_of (map pat_of (drop c.loop-item.item-index c.args.items.now))) ≡ (one && rest) =
    ap (items_may_go gone) (items_from c.args.items.now c.loop-item.item-index c.item-item.result c.loop-item-test.true c.item-item.is) in
    elim c.match-item.branch [
      | items_may_go-in-Class w ↦
          let passes : one ≡ true = ap (may_go gone) (ap pat_of w.in-Class.is ∙ class-tree w.in-Class.span w.in-Class.set) in
          and_stays c.loop-item.all c.match-item.all one rest _ _ w.all-is passes from c.loop-item.invariant
      | items_may_go-in_default+then-may_go w ↦ and_stays c.loop-item.all c.match-item.all one rest _ _ w.all-is (sym w.may_go.ensures ∙ w.if-may_go.true) from c.loop-item.invariant
      | items_may_go-in_default+else-may_go w ↦ and_ends c.loop-item.all c.match-item.all one rest _ _ (w.all-is ∙ w.if-may_go.false) (sym w.may_go.ensures ∙ w.if-may_go.false) from c.loop-item.invariant
    ]
