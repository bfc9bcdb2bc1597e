use Rattle.std.proofs.Common.{arith}
use Rattle.rl_graph.specs.internal.Nodes.{steps_of}
use Rattle.rl_graph.proofs.WalkLaws.{next-node}
use Rattle.rl_graph.proofs.walks.Walk.expand.Goals as goal

pub returns : goal.returns
returns g c =
    let i = c.loop-letter.invariant in
    record {
      walk = i.walk;
      stands = next-node (g.M.NextStates.next c.args.m.now) (g.M.NextStates.size c.args.m.now) (g.M.NextStates.width c.args.m.now) (steps_of c.loop-letter.self) c.args.place c.loop-letter.letter c.states-states.ensures.bounded i.walk i.stands (omega (arith, c.letters-letter-end.ensures));
      extends = i.extends;
    }
