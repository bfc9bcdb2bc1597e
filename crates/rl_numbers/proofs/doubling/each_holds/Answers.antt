use Rattle.std.proofs.Common.{◌<◌, ℕ, List, length, get_or, refl, sym, subst, arith, true≢false, below_more}
use Rattle.rl_graph.specs.Paths.{Has}
use Rattle.rl_graph.specs.Graph.{edges_of}
use Rattle.rl_graph.proofs.Sums.{each-has, Each-has, at-has, at-short, at-get_or, Has-get_or}
use Rattle.rl_numbers.specs.declared.double.Double.{Double}
use Rattle.rl_numbers.specs.Doubled.{number_in}
use Rattle.rl_numbers.specs.internal.DoubledFalls.{HoldsIn}
use Rattle.rl_numbers.proofs.RowLoops.{never-both}
use Rattle.rl_numbers.proofs.DoubleLaws.{no_double}
use Rattle.rl_numbers.proofs.doubling.each_holds.Goals as goal

at-each : (P : Double → Type 0) (l : List Double) → ((i : ℕ) → i < length l → P (get_or l i no_double)) → (t : Double) → Has t l → P t
at-each P l h t i = let r = at-has t l i in subst P (at-get_or l r.0 t no_double r.1) (h r.0 (at-short l r.0 t r.1))

pub returns-then-not-holds : goal.returns-then-not-holds
returns-then-not-holds c =
    let P = λ (t : Double). HoldsIn (edges_of c.args.g.now) c.args.g.now.states (number_in c.args.index.now) t in (
      λ e. absurd (true≢false (sym e)),
      λ all. absurd (never-both c.holds.result c.if-not-holds.true (c.holds.ensures.1 (Each-has P (get_or c.args.doubles.now c.loop-double.double-index no_double) c.args.doubles.now all (Has-get_or c.args.doubles.now c.loop-double.double-index no_double c.loop-double-test.true)))),
    )

pub loop-double-preserved : goal.loop-double-preserved
loop-double-preserved c =
    below_more (λ (i : ℕ). HoldsIn (edges_of c.args.g.now) c.args.g.now.states (number_in c.args.index.now) (get_or c.args.doubles.now i no_double)) c.loop-double.double-index c.loop-double.invariant (c.holds.ensures.0 c.if-not-holds.false)

pub returns : goal.returns
returns c =
    let P = λ (t : Double). HoldsIn (edges_of c.args.g.now) c.args.g.now.states (number_in c.args.index.now) t in
    (λ e. each-has P c.args.doubles.now (at-each P c.args.doubles.now (λ i lt. c.loop-double.invariant i (omega (arith, lt, c.loop-double-test.false)))), λ e. refl)
