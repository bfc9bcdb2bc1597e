use Rattle.std.proofs.Common.{ℕ, get_or, arith, below_more}
use Rattle.rl_numbers.specs.Doubled.{number_in}
use Rattle.rl_numbers.specs.internal.DoubledFalls.{SecondsFall}
use Rattle.rl_numbers.proofs.RowLoops.{passed-all, failed-one, never-both}
use Rattle.rl_numbers.proofs.doubling.firsts_fall.Goals as goal

pub returns-then-not-seconds_fall : goal.returns-then-not-seconds_fall
returns-then-not-seconds_fall c =
    failed-one (λ (z : ℕ). SecondsFall (number_in c.args.index.now) c.args.most z c.args.second.now) c.args.row.now c.loop-p.p-index c.loop-p-test.true (λ holds. never-both c.seconds_fall.result c.if-not-seconds_fall.true (c.seconds_fall.ensures.1 holds))

pub loop-p-preserved : goal.loop-p-preserved
loop-p-preserved c =
    let P = λ (z : ℕ). SecondsFall (number_in c.args.index.now) c.args.most z c.args.second.now in
    below_more (λ (i : ℕ). P (get_or c.args.row.now i 0)) c.loop-p.p-index c.loop-p.invariant (c.seconds_fall.ensures.0 c.if-not-seconds_fall.false)

pub returns : goal.returns
returns c =
    passed-all (λ (z : ℕ). SecondsFall (number_in c.args.index.now) c.args.most z c.args.second.now) c.args.row.now (λ i lt. c.loop-p.invariant i (omega (arith, lt, c.loop-p-test.false)))
