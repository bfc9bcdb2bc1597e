use Rattle.rl_graph.specs.Graph.{edges_of}
use Rattle.rl_expo.specs.internal.Sides.{IsOnWay}
use Rattle.rl_expo.proofs.twins.twin_along.Given as goal

abbrev pub invariant-loop-place : goal.invariant-loop-place
invariant-loop-place l =
    IsOnWay (edges_of l.g) l.g.states l.fn.fork.first l.fn.fork.second l.back.moves l.back.word l.place l.one l.other l.twin
