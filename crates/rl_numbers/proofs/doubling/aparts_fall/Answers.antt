use Rattle.std.proofs.Common.{ℕ, get_or, sym, refl, subst, arith, true≢false, below_more}
use Rattle.rl_graph.proofs.Sums.{at-short, at-get_or, get_or-at}
use Rattle.rl_numbers.specs.Doubled.{number_in}
use Rattle.rl_numbers.specs.internal.DoubledFalls.{OthersFall}
use Rattle.rl_numbers.proofs.RowLoops.{never-both}
use Rattle.rl_numbers.proofs.doubling.aparts_fall.Goals as goal

pub returns-then-not-others_fall : goal.returns-then-not-others_fall
returns-then-not-others_fall c = (
  λ e. absurd (true≢false (sym e)),
  λ all. absurd (never-both c.others_fall.result c.if-not-others_fall.true (c.others_fall.ensures.1 (all c.loop-number.number (get_or c.args.row.now c.loop-number.number 0) (get_or-at c.args.row.now c.loop-number.number 0 c.loop-number-test.true)))),
)

pub loop-number-preserved : goal.loop-number-preserved
loop-number-preserved c =
    below_more (λ (i : ℕ). OthersFall (number_in c.args.index.now) c.args.most i (get_or c.args.row.now i 0) c.args.row.now) c.loop-number.number c.loop-number.invariant (c.others_fall.ensures.0 c.if-not-others_fall.false)

pub returns : goal.returns
returns c =
    (λ e i x at. subst (λ (z : ℕ). OthersFall (number_in c.args.index.now) c.args.most i z c.args.row.now) (at-get_or c.args.row.now i x 0 at) (c.loop-number.invariant i (let lt = at-short c.args.row.now i x at in omega (arith, lt, c.loop-number-test.false))), λ e. refl)
