use Rattle.std.proofs.Common.{◌≡◌, ◌+◌, ◌||◌, drop, map, sym, ap, ◌∙◌}
use Rattle.rl_syntax.specs.PatTree.{pat_of, items_of, branches_of}
use Rattle.rl_syntax.specs.Counting.{branch_tree}
use Rattle.rl_ask.specs.Beyond.{holds_look, some_look, branch_look}
use Rattle.rl_rewrite.proofs.Rounds.{items_from, branches_from, or_stays, or_ends}
use Rattle.rl_ask.proofs.beyond.+looks.Goals as goal
use Rattle.rl_ask.proofs.beyond.+looks.Goals.{items_hold_look-then-holds_look, items_hold_look-else-holds_look, branches_hold_look-then-holds_look, branches_hold_look-else-holds_look}

pub items_hold_look-loop-item-preserved : goal.items_hold_look-loop-item-preserved
items_hold_look-loop-item-preserved t c =
    let one = holds_look (pat_of c.item-item.result) in
    let rest = some_look (items_of (map pat_of (drop (c.loop-item.item-index + 1) c.args.items.now))) in
    let from : some_look (items_of (map pat_of (drop c.loop-item.item-index c.args.items.now))) ≡ (one || rest) =
    ap some_look (items_from c.args.items.now c.loop-item.item-index c.item-item.result c.loop-item-test.true c.item-item.is) in
    elim c.if-holds_look.branch [
      | items_hold_look-then-holds_look w ↦ or_ends c.loop-item.held c.if-holds_look.held one rest _ _ (w.held-is ∙ w.if-holds_look.true) (sym c.holds_look.ensures ∙ w.if-holds_look.true) from c.loop-item.invariant
      | items_hold_look-else-holds_look w ↦ or_stays c.loop-item.held c.if-holds_look.held one rest _ _ w.held-is (sym c.holds_look.ensures ∙ w.if-holds_look.false) from c.loop-item.invariant
    ]

pub branches_hold_look-loop-branch-preserved : goal.branches_hold_look-loop-branch-preserved
branches_hold_look-loop-branch-preserved t c =
    let one = holds_look (pat_of c.branch-item.result.body) in
    let rest = branch_look (branches_of (map branch_tree (drop (c.loop-branch.branch-index + 1) c.args.branches.now))) in
    let from : branch_look (branches_of (map branch_tree (drop c.loop-branch.branch-index c.args.branches.now))) ≡ (one || rest) =
    ap branch_look (branches_from c.args.branches.now c.loop-branch.branch-index c.branch-item.result c.loop-branch-test.true c.branch-item.is) in
    elim c.if-holds_look.branch [
      | branches_hold_look-then-holds_look w ↦ or_ends c.loop-branch.held c.if-holds_look.held one rest _ _ (w.held-is ∙ w.if-holds_look.true) (sym c.holds_look.ensures ∙ w.if-holds_look.true) from c.loop-branch.invariant
      | branches_hold_look-else-holds_look w ↦ or_stays c.loop-branch.held c.if-holds_look.held one rest _ _ w.held-is (sym c.holds_look.ensures ∙ w.if-holds_look.false) from c.loop-branch.invariant
    ]
