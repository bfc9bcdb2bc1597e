use Rattle.std.proofs.Common.{◌≡◌, ◌<◌, ◌↔◌, ℕ, IsTrue, false, length, get_or}
use Rattle.rl_graph.specs.internal.InnerMoves.{HasInner}
use Rattle.rl_graph.proofs.parts.inner_marks.Given as goal

abbrev pub invariant-loop-state : goal.invariant-loop-state
invariant-loop-state g l =
    (length l.marks.items ≡ l.state) × ((q : ℕ) → q < l.state → IsTrue (get_or l.marks.items q false) ↔ HasInner (g.M.NextStates.next l.m) l.numbers q)
