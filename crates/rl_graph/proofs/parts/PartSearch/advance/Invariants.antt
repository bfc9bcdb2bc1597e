use Rattle.std.proofs.Common.{◌≡◌, ◌-◌}
use Rattle.rl_graph.specs.internal.Search.{search_state_of, with_top, IsSearch, IsKept}
use Rattle.rl_graph.proofs.parts.PartSearch.advance.Given as goal

abbrev pub invariant-loop-frame : goal.invariant-loop-frame
invariant-loop-frame g l =
    IsSearch (g.M.NextStates.next l.m) (g.M.NextStates.size l.m) (with_top (search_state_of l.self) l.frame) × IsKept (search_state_of l.initial.self) (search_state_of l.self) × (l.frame.state ≡ l.initial.frame.state)

abbrev pub decreases-loop-frame : goal.decreases-loop-frame
decreases-loop-frame g l = l.end - l.frame.letter
