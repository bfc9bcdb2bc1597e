use Rattle.rl_graph.specs.internal.Nodes.{steps_of, IsFurther}
use Rattle.rl_graph.proofs.walks.Walk.expand_on.Given as goal

abbrev pub invariant-loop-number : goal.invariant-loop-number
invariant-loop-number g l =
    IsFurther (g.M.NextStates.next l.m) (g.M.NextStates.size l.m) l.place l.letter l.number (steps_of l.initial.self) (steps_of l.self)
