use Rattle.std.proofs.Common.{arith}
use Rattle.rl_graph.specs.Graph.{edges_of}
use Rattle.rl_graph.proofs.Sums.{at-has, at-short}
use Rattle.rl_degree.proofs.moves.is_used.Goals as goal

pub returns : goal.returns
returns c = λ e w.
    let row = edges_of c.args.g.now w.0 c.args.letter in
    let i = at-has w.1 row w.3 in
    absurd (omega (arith, at-short row i.0 w.1 i.1, c.loop-state.invariant w.0 (omega (arith, w.2, c.states-state-end.ensures.number, c.loop-state-test.false))))
