use Rattle.std.proofs.Common.{◌≡◌, ◌+◌, ◌||◌, drop, map, sym, ap, ◌∙◌}
use Rattle.rl_syntax.specs.PatTree.{pat_of, items_of}
use Rattle.rl_rewrite.specs.internal.Choices.{holds_branch, items_hold_branch}
use Rattle.rl_rewrite.proofs.PlainParts.{some_branches}
use Rattle.rl_rewrite.proofs.Rounds.{items_from, or_stays, or_ends}
use Rattle.rl_rewrite.proofs.plain.+choices.Goals as goal
use Rattle.rl_rewrite.proofs.plain.+choices.Goals.{items_hold_branch-then-holds_branch, items_hold_branch-else-holds_branch}

pub items_hold_branch-loop-item-preserved : goal.items_hold_branch-loop-item-preserved
items_hold_branch-loop-item-preserved t c =
    let one = holds_branch (pat_of c.item-item.result) in
    let rest = items_hold_branch (items_of (map pat_of (drop (c.loop-item.item-index + 1) c.args.items.now))) in
    let from : items_hold_branch (items_of (map pat_of (drop c.loop-item.item-index c.args.items.now))) ≡ (one || rest) =
    ap items_hold_branch (items_from c.args.items.now c.loop-item.item-index c.item-item.result c.loop-item-test.true c.item-item.is) in
    elim c.if-holds_branch.branch [
      | items_hold_branch-then-holds_branch w ↦ or_ends c.loop-item.held c.if-holds_branch.held one rest _ _ (w.held-is ∙ w.if-holds_branch.true) (sym c.holds_branch.ensures ∙ w.if-holds_branch.true) from c.loop-item.invariant
      | items_hold_branch-else-holds_branch w ↦ or_stays c.loop-item.held c.if-holds_branch.held one rest _ _ w.held-is (sym c.holds_branch.ensures ∙ w.if-holds_branch.false) from c.loop-item.invariant
    ]

pub holds_branch-returns-in-Choice : goal.holds_branch-returns-in-Choice
holds_branch-returns-in-Choice t c = some_branches c.in-Choice.span c.in-Choice.branches c.args.part.now c.is_empty.result c.in-Choice.is c.is_empty.ensures
