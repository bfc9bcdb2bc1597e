use Rattle.std.proofs.Common.{arith}
use Rattle.rl_graph.proofs.MarkedLaws.{move-in}
use Rattle.rl_degree.proofs.entries.entries_of.Goals as goal

pub mark_moves-requires-clause-so_far : goal.mark_moves-requires-clause-so_far
mark_moves-requires-clause-so_far c = c.loop-state.invariant

pub returns : goal.returns
returns c =
    let i = c.loop-state.invariant in
    record {
      size = i.size;
      entered = λ q l m h. i.entered q l m (omega (arith, (move-in c.args.g.now q l m h).0, c.states-state-end.ensures.number, c.loop-state-test.false)) h;
    }
