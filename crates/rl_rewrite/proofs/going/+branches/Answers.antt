use Rattle.std.proofs.Common.{◌+◌, ◌∷◌, drop, map, ap}
use Rattle.rl_syntax.specs.PatTree.{pat_of, items_of, branches_of}
use Rattle.rl_syntax.specs.Counting.{branch_tree}
use Rattle.rl_pattern.specs.Suggested.{branches_in, items_branches, choice_branches}
use Rattle.rl_rewrite.proofs.Rounds.{one_more, one_and, items_from, branches_from}
use Rattle.rl_rewrite.proofs.going.+branches.Goals as goal

pub put_items_branches-loop-item-preserved : goal.put_items_branches-loop-item-preserved
put_items_branches-loop-item-preserved t c =
    one_more c.loop-item.found c.put_branches.new.found (branches_in (pat_of c.item-item.result)) (items_branches (items_of (map pat_of (drop (c.loop-item.item-index + 1) c.args.items.now)))) _ _ c.in_ok-put_branches.ensures
    (ap items_branches (items_from c.args.items.now c.loop-item.item-index c.item-item.result c.loop-item-test.true c.item-item.is)) c.loop-item.invariant

pub put_choice_branches-loop-branch-preserved : goal.put_choice_branches-loop-branch-preserved
put_choice_branches-loop-branch-preserved t c =
    let span = c.branch-item.result.span in
    let inner = branches_in (pat_of c.branch-item.result.body) in
    one_more c.loop-branch.found c.put_branches.new.found (span ∷ inner) (choice_branches (branches_of (map branch_tree (drop (c.loop-branch.branch-index + 1) c.args.branches.now)))) _ _
    (one_and c.loop-branch.found c.push.new.self c.put_branches.new.found span inner c.in_ok-push.ensures.pushed c.in_ok-put_branches.ensures)
    (ap choice_branches (branches_from c.args.branches.now c.loop-branch.branch-index c.branch-item.result c.loop-branch-test.true c.branch-item.is)) c.loop-branch.invariant
