use Rattle.rl_graph.specs.internal.Nodes.{steps_of, IsFurther}
use Rattle.rl_graph.proofs.walks.Walk.expand.Given as goal

abbrev pub invariant-loop-letter : goal.invariant-loop-letter
invariant-loop-letter g l =
    IsFurther (g.M.NextStates.next l.m) (g.M.NextStates.size l.m) l.place l.letter 0 (steps_of l.initial.self) (steps_of l.self)
