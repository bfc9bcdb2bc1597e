use Rattle.std.proofs.Common.{ℕ, sym, refl, arith, true≢false, below_more}
use Rattle.rl_graph.specs.Graph.{edges_of}
use Rattle.rl_numbers.specs.Doubled.{number_in}
use Rattle.rl_numbers.specs.internal.DoubledFalls.{ApartsFall}
use Rattle.rl_numbers.proofs.RowLoops.{never-both}
use Rattle.rl_numbers.proofs.DoubleLaws.{all-leaves}
use Rattle.rl_numbers.proofs.doubling.leaves_fall.Goals as goal

pub returns-then-not-aparts_fall : goal.returns-then-not-aparts_fall
returns-then-not-aparts_fall c = (
  λ e. absurd (true≢false (sym e)),
  λ all. absurd (never-both c.aparts_fall.result c.if-not-aparts_fall.true (c.aparts_fall.ensures.1 (rw (c.edges-row.ensures.targets, c.from-most.ensures) (all c.if-double.false c.loop-letter.letter)))),
)

pub loop-letter-preserved : goal.loop-letter-preserved
loop-letter-preserved c =
    let g = c.args.g.now in
    let d = c.args.double in
    below_more (λ (i : ℕ). ApartsFall (number_in c.args.index.now) d.number (edges_of g d.p i)) c.loop-letter.letter c.loop-letter.invariant
    (rw (c.edges-row.ensures.targets, c.from-most.ensures) at (c.aparts_fall.ensures.0 c.if-not-aparts_fall.false))

pub returns : goal.returns
returns c = (
  λ e same. all-leaves c.args.g.now (number_in c.args.index.now) c.args.double c.letters-letter-end.result c.states-states.ensures.whole (omega (arith, c.letters-letter-end.ensures))
      (λ l lt. c.loop-letter.invariant l (omega (arith, lt, c.loop-letter-test.false))),
  λ e. refl,
)
