use Rattle.std.proofs.Common.{◌+◌, ℕ, sym, refl, arith, true≢false, below_more}
use Rattle.rl_graph.specs.Graph.{edges_of}
use Rattle.rl_numbers.specs.Doubled.{number_in}
use Rattle.rl_numbers.specs.internal.DoubledFalls.{FirstsFall}
use Rattle.rl_numbers.proofs.RowLoops.{never-both}
use Rattle.rl_numbers.proofs.DoubleLaws.{all-letters}
use Rattle.rl_numbers.proofs.doubling.steps_fall.Goals as goal

pub returns-then-not-firsts_fall : goal.returns-then-not-firsts_fall
returns-then-not-firsts_fall c = (
  λ e. absurd (true≢false (sym e)),
  λ all. absurd (never-both c.firsts_fall.result c.if-not-firsts_fall.true (c.firsts_fall.ensures.1 (rw (c.edges-firsts.ensures.targets, c.edges-seconds.ensures.targets, c.from-most.ensures) (all c.loop-letter.letter)))),
)

pub loop-letter-preserved : goal.loop-letter-preserved
loop-letter-preserved c =
    let g = c.args.g.now in
    let d = c.args.double in
    below_more (λ (i : ℕ). FirstsFall (number_in c.args.index.now) (d.number + 1) (edges_of g d.p i) (edges_of g d.q i)) c.loop-letter.letter c.loop-letter.invariant
    (rw (c.edges-firsts.ensures.targets, c.edges-seconds.ensures.targets, c.from-most.ensures) at (c.firsts_fall.ensures.0 c.if-not-firsts_fall.false))

pub returns : goal.returns
returns c = (
  λ e. all-letters c.args.g.now (number_in c.args.index.now) c.args.double c.letters-letter-end.result c.states-states.ensures.whole (omega (arith, c.letters-letter-end.ensures))
      (λ l lt. c.loop-letter.invariant l (omega (arith, lt, c.loop-letter-test.false))),
  λ e. refl,
)
