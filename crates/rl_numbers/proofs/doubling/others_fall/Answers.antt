use Rattle.std.proofs.Common.{◌≢◌, ℕ, get_or, sym, refl, subst, arith, true≢false, below_more}
use Rattle.rl_graph.proofs.Sums.{at-short, at-get_or, get_or-at}
use Rattle.rl_numbers.specs.Doubled.{number_in}
use Rattle.rl_numbers.specs.internal.DoubledFalls.{FallsBelow}
use Rattle.rl_numbers.proofs.RowLoops.{never-both}
use Rattle.rl_numbers.proofs.doubling.others_fall.Goals as goal

pub returns-then-not-other_falls : goal.returns-then-not-other_falls
returns-then-not-other_falls c = (
  λ e. absurd (true≢false (sym e)),
  λ all. absurd (never-both c.other_falls.result c.if-not-other_falls.true (c.other_falls.ensures.1 (λ ne. all c.loop-other.other (get_or c.args.row.now c.loop-other.other 0) ne (get_or-at c.args.row.now c.loop-other.other 0 c.loop-other-test.true)))),
)

pub loop-other-preserved : goal.loop-other-preserved
loop-other-preserved c =
    below_more (λ (j : ℕ). c.args.number ≢ j → FallsBelow (number_in c.args.index.now) c.args.most c.args.p (get_or c.args.row.now j 0)) c.loop-other.other c.loop-other.invariant (c.other_falls.ensures.0 c.if-not-other_falls.false)

pub returns : goal.returns
returns c =
    (λ e j y ne at. subst (FallsBelow (number_in c.args.index.now) c.args.most c.args.p) (at-get_or c.args.row.now j y 0 at) (c.loop-other.invariant j (let lt = at-short c.args.row.now j y at in omega (arith, lt, c.loop-other-test.false)) ne), λ e. refl)
