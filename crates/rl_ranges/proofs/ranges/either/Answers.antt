use Rattle.std.proofs.Common.{ap, arith, subst, sym, ◌+◌, ◌||◌, ◌∙◌}
use Rattle.rl_ranges.proofs.SetLemmas.{has-nil, last_first_or-nil, left_moves, right_moves}
use Rattle.rl_ranges.specs.internal.Ordering.{last_first_or}
use Rattle.rl_ranges.specs.Codes.{Above, has}
use Rattle.rl_ranges.proofs.ranges.either.Goals.{else-loop-i-test, then-loop-i-test+else-j-right}
use Rattle.rl_ranges.proofs.ranges.either.Goals as goal

pub loop-i-init : goal.loop-i-init
loop-i-init c =
    let start = ap (last_first_or 0) c.new-ranges.ensures.items ∙ last_first_or-nil 0 in
    record {
      left_in = omega arith;
      right_in = omega arith;
      sorted = subst (Above 0) (sym c.new-ranges.ensures.items) tt;
      begins_left = λ _. omega arith;
      begins_right = λ _. omega arith;
      members = λ x. sym (ap (λ l. has l x || (has c.args.left.now x || has c.args.right.now x)) c.new-ranges.ensures.items ∙ ap (λ b. b || (has c.args.left.now x || has c.args.right.now x)) (has-nil x));
    }

pub loop-i-preserved-then-left-i : goal.loop-i-preserved-then-left-i
loop-i-preserved-then-left-i c =
    let i = c.loop-i.i in
    let done = c.in_ok-append.ensures in
    record {
      left_in = omega arith;
      right_in = c.loop-i.invariant.right_in;
      sorted = done.sorted;
      begins_left = λ h. omega (arith, done.begins, c.requires.left.rising i (i + 1) (omega arith) h);
      begins_right = λ h. omega (arith, done.begins, c.if-left-i.true);
      members = λ x. c.loop-i.invariant.members x
          ∙ left_moves c.args.left.now c.args.right.now c.loop-i.ranges.items c.append.new.ranges.items i c.loop-i.j x (omega arith) (done.members x);
    }

pub loop-i-preserved : goal.loop-i-preserved
loop-i-preserved c =
    let j = c.loop-i.j in
    let done = c.in_ok-append-2.ensures in
    record {
      left_in = c.loop-i.invariant.left_in;
      right_in = omega arith;
      sorted = done.sorted;
      begins_left = λ h. omega (arith, done.begins, c.if-left-i.false);
      begins_right = λ h. omega (arith, done.begins, c.requires.right.rising j (j + 1) (omega arith) h);
      members = λ x. c.loop-i.invariant.members x
          ∙ right_moves c.args.left.now c.args.right.now c.loop-i.ranges.items c.append-else-left-i.new.ranges.items c.loop-i.i j x (omega arith) (done.members x);
    }

pub append_from-requires-2-clause-begins : goal.append_from-requires-2-clause-begins
append_from-requires-2-clause-begins c = λ j_in. elim c.loop-i-test.branch [
  | then-loop-i-test+else-j-right w ↦ absurd (omega (arith, w.if-j-right.false))
  | else-loop-i-test w ↦
      let same = ap (last_first_or 0) (c.in_ok-append_from.ensures.unchanged w.loop-i-test.false) in
      omega (arith, same, c.loop-i.invariant.begins_right j_in)
]
