use Rattle.std.proofs.Common.{◌<◌, ◌≤◌, ℕ, get_or, arith, sym, true≢false, below_more, refl}
use Rattle.rl_graph.specs.Graph.{edges_of}
use Rattle.rl_graph.specs.Paths.{Has}
use Rattle.rl_numbers.proofs.RowLoops.{never-both}
use Rattle.rl_cert.proofs.leveling.are_levels.Goals as goal

pub returns-then-not-state_falls : goal.returns-then-not-state_falls
returns-then-not-state_falls c =
    let q = c.loop-state.state in
    let lt : q < c.args.g.now.states = omega (arith, c.loop-state-test.true, c.states-state-end.ensures.number) in (
      λ e. absurd (true≢false (sym e)),
      λ all. absurd (never-both c.state_falls.result c.if-not-state_falls.true (c.state_falls.ensures.1 (all.low q lt, λ l m i. all.never_rises q l m lt i))),
    )

pub loop-state-preserved : goal.loop-state-preserved
loop-state-preserved c =
    below_more (λ (q : ℕ). (get_or c.args.ranks.now q 0 < c.args.power) × ((letter m : ℕ) → Has m (edges_of c.args.g.now q letter) → get_or c.args.ranks.now m 0 ≤ get_or c.args.ranks.now q 0))
    c.loop-state.state c.loop-state.invariant (c.state_falls.ensures.0 c.if-not-state_falls.false)

pub returns : goal.returns
returns c = (
  λ e. record {
    size = omega (arith, c.if-ranks-states.false, c.states.ensures.number);
    low = λ q lt. (c.loop-state.invariant q (omega (arith, lt, c.loop-state-test.false, c.states-state-end.ensures.number))).0;
    never_rises = λ q l m lt i. (c.loop-state.invariant q (omega (arith, lt, c.loop-state-test.false, c.states-state-end.ensures.number))).1 l m i;
  },
  λ all. refl,
)
