use Rattle.rl_graph.specs.internal.Search.{search_state_of, IsSearch, StaysSeen, work_of}
use Rattle.rl_graph.proofs.parts.PartSearch.run.Given as goal

abbrev pub invariant-loop-frame : goal.invariant-loop-frame
invariant-loop-frame g l =
    IsSearch (g.M.NextStates.next l.m) (g.M.NextStates.size l.m) (search_state_of l.self) × StaysSeen (search_state_of l.initial.self) (search_state_of l.self)

abbrev pub decreases-loop-frame : goal.decreases-loop-frame
decreases-loop-frame g l = work_of (search_state_of l.self)
