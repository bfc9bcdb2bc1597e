use Rattle.std.proofs.Common.{◌≡◌, ◌-◌, ◌+◌, ◌≤◌, length}
use Rattle.rl_graph.specs.internal.Nodes.{steps_of, node_of, IsWalk, IsAt, Missed}
use Rattle.rl_graph.proofs.walks.shortest.Given as goal

abbrev pub invariant-loop-place : goal.invariant-loop-place
invariant-loop-place g l =
    IsWalk (g.M.NextStates.next l.m) (g.M.NextStates.size l.m) (steps_of l.walk) × IsAt (g.M.NextStates.next l.m) l.place 0 0 (steps_of l.walk) × Missed l.place l.to (steps_of l.walk) × ((steps_of l.walk).least ≡ l.least) × ((node_of (steps_of l.walk) 0).state ≡ l.from) × (l.place ≤ length (steps_of l.walk).nodes)

abbrev pub decreases-loop-place : goal.decreases-loop-place
decreases-loop-place g l = g.M.NextStates.size l.m + 1 - l.place
