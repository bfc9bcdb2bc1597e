use Rattle.std.proofs.Common.{ℕ, get_or, arith, below_more}
use Rattle.rl_numbers.specs.Doubled.{number_in}
use Rattle.rl_numbers.specs.internal.DoubledFalls.{FallsBelow}
use Rattle.rl_numbers.proofs.RowLoops.{passed-all, failed-one, never-both}
use Rattle.rl_numbers.proofs.doubling.seconds_fall.Goals as goal

pub returns-then-not-falls_below : goal.returns-then-not-falls_below
returns-then-not-falls_below c =
    failed-one (λ (z : ℕ). FallsBelow (number_in c.args.index.now) c.args.most c.args.p z) c.args.row.now c.loop-q.q-index c.loop-q-test.true (λ holds. never-both c.falls_below.result c.if-not-falls_below.true (c.falls_below.ensures.1 holds))

pub loop-q-preserved : goal.loop-q-preserved
loop-q-preserved c =
    let P = λ (z : ℕ). FallsBelow (number_in c.args.index.now) c.args.most c.args.p z in
    below_more (λ (i : ℕ). P (get_or c.args.row.now i 0)) c.loop-q.q-index c.loop-q.invariant (c.falls_below.ensures.0 c.if-not-falls_below.false)

pub returns : goal.returns
returns c =
    passed-all (λ (z : ℕ). FallsBelow (number_in c.args.index.now) c.args.most c.args.p z) c.args.row.now (λ i lt. c.loop-q.invariant i (omega (arith, lt, c.loop-q-test.false)))
