use Rattle.std.proofs.Common.{◌≡◌, ◌-◌, ◌<◌, length}
use Rattle.rl_graph.specs.internal.Search.{search_state_of, with_top, IsSearch, IsKept}
use Rattle.rl_graph.proofs.parts.PartSearch.scan.Given as goal

abbrev pub invariant-loop-frame : goal.invariant-loop-frame
invariant-loop-frame g l =
    IsSearch (g.M.NextStates.next l.m) (g.M.NextStates.size l.m) (with_top (search_state_of l.self) l.frame) × IsKept (search_state_of l.initial.self) (search_state_of l.self) × (l.frame.letter ≡ l.initial.frame.letter) × (l.frame.state ≡ l.initial.frame.state) × (l.count ≡ length (g.M.NextStates.next l.m l.frame.state l.frame.letter)) × (l.frame.letter < g.M.NextStates.width l.m)

abbrev pub decreases-loop-frame : goal.decreases-loop-frame
decreases-loop-frame g l = l.count - l.frame.number
