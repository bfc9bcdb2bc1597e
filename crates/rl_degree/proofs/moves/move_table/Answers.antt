use Rattle.std.proofs.Common.{arith}
use Rattle.rl_graph.proofs.MarkedLaws.{move-in}
use Rattle.rl_degree.proofs.moves.move_table.Goals as goal

pub returns : goal.returns
returns c =
    let g = c.args.g.now in
    let i = c.loop-state.invariant in
    record {
      high = i.high;
      wide = i.wide;
      moves = λ q t. (i.moves q t, λ h. i.all q t (omega (arith, (move-in g q c.args.letter t h).0, c.states-state-end.ensures.number, c.loop-state-test.false)) h);
    }
