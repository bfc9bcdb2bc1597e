use Rattle.std.proofs.Common.{◌≡◌, IfOk, sym, arith}
use Rattle.std.proofs.lemmas.Grind.{common_steps}
use Rattle.rl_syntax.specs.PatTree.{pat_of}
use Rattle.rl_syntax.specs.Lowering.{lowered, tail_of}
use Rattle.rl_syntax.specs.Counting.{trees_of_option}
use Rattle.rl_syntax.proofs.TreeJoins.{joined-copy, joined-start, options-copy}
use Rattle.rl_syntax.proofs.PartJoins.{in_turn-item, one_of-branch, branch-body}
use Rattle.rl_syntax.proofs.lowering.+lowering.Goals.{lower_repeat-in-None, lower_repeat-in-Some}
use Rattle.rl_syntax.proofs.lowering.+lowering.Goals as goal

pub lower_repeat-loop-init : goal.lower_repeat-loop-init
lower_repeat-loop-init t c =
    let e = lowered (pat_of c.args.body.now) in
    let h : IfOk c.match-max.tail (λ o. trees_of_option o ≡ tail_of c.args.greedy e c.args.min c.args.max) =
    elim c.match-max.branch [
      | lower_repeat-in-None w ↦ rw w.tail-is (rw w.in-None.is (w.any_number-tail.ensures e w.lower_part.ensures))
      | lower_repeat-in-Some w ↦ rw w.tail-is (rw w.in-Some.is (rw (sym w.saturating_sub.ensures) w.lower_options-tail.ensures))
    ] in
    joined-start c.args.greedy e c.args.min c.args.max _ (rw c.in-Ok.is at h)

pub lower_repeat-loop-preserved : goal.lower_repeat-loop-preserved
lower_repeat-loop-preserved t c =
    let e = lowered (pat_of c.args.body.now) in
    joined-copy c.loop.counter e _ (trees_of_option c.loop.rest) (tail_of c.args.greedy e c.args.min c.args.max)
    c.loop.invariant (c.in-Ok-followed.ensures e c.lower_part-copy.ensures)

pub lower_options-loop-preserved : goal.lower_options-loop-preserved
lower_options-loop-preserved t c =
    let e = lowered (pat_of c.args.body.now) in
    options-copy c.loop.counter c.args.greedy e _ (trees_of_option c.loop.rest) c.loop.invariant
    (c.in-Ok.ensures _ (c.followed-copies.ensures e c.lower_part-copy.ensures))

pub lower_items-loop-item-preserved : goal.lower_items-loop-item-preserved
lower_items-loop-item-preserved t c =
    in_turn-item c.loop-item.item-iterator.iter.rest.now c.next.new.self.iter.rest.now c.in-Some.item.now _ (trees_of_option c.loop-item.rest) _
    (grind (arith, common_steps)) (c.in-Ok.ensures _ c.lower_part-first.ensures) c.loop-item.invariant

pub lower_branches-loop-branch-preserved : goal.lower_branches-loop-branch-preserved
lower_branches-loop-branch-preserved t c =
    one_of-branch c.loop-branch.branch-iterator.iter.rest.now c.next.new.self.iter.rest.now c.in-Some.branch.now _ (trees_of_option c.loop-branch.rest) _
    (grind (arith, common_steps)) (rw (sym (branch-body c.in-Some.branch.now)) (c.in-Ok.ensures _ c.lower_part-first.ensures)) c.loop-branch.invariant
