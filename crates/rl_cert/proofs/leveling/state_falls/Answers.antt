use Rattle.std.proofs.Common.{◌≤◌, ℕ, get_or, arith, sym, true≢false, below_more, refl}
use Rattle.rl_graph.specs.Graph.{edges_of}
use Rattle.rl_graph.specs.Paths.{Has}
use Rattle.rl_numbers.proofs.RowLoops.{row-in, never-both}
use Rattle.rl_cert.proofs.LevelLaws.{each-letter}
use Rattle.rl_cert.proofs.leveling.state_falls.Goals as goal

pub row_falls-requires : goal.row_falls-requires
row_falls-requires c = row-in c.args.g.now c.args.state c.loop-letter.letter _ _ c.states-states.ensures.whole c.edges-row.ensures.targets c.requires.size

pub returns-then-not-row_falls : goal.returns-then-not-row_falls
returns-then-not-row_falls c = (
  λ e. absurd (true≢false (sym e)),
  λ all. absurd (never-both c.row_falls.result c.if-not-row_falls.true (c.row_falls.ensures.1 (rw c.edges-row.ensures.targets (all.1 c.loop-letter.letter)))),
)

pub loop-letter-preserved : goal.loop-letter-preserved
loop-letter-preserved c =
    below_more (λ (i : ℕ). (m : ℕ) → Has m (edges_of c.args.g.now c.args.state i) → get_or c.args.ranks.now m 0 ≤ get_or c.args.ranks.now c.args.state 0) c.loop-letter.letter c.loop-letter.invariant
    (rw c.edges-row.ensures.targets at (c.row_falls.ensures.0 c.if-not-row_falls.false))

pub returns : goal.returns
returns c = (
  λ e. (omega (arith, c.if-rank-power.false), each-letter c.args.g.now (λ m. get_or c.args.ranks.now m 0 ≤ get_or c.args.ranks.now c.args.state 0) c.args.state c.loop-letter.letter c.states-states.ensures.whole (omega (arith, c.letters-letter-end.ensures, c.loop-letter-test.false)) c.loop-letter.invariant),
  λ all. refl,
)
