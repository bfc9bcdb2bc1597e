use Rattle.std.proofs.Common.{◌≡◌, ◌<◌, ℕ, get_or}
use Rattle.rl_graph.proofs.marked.has_loop_on.Given as goal

abbrev pub invariant-loop-target : goal.invariant-loop-target
invariant-loop-target l = (i : ℕ) → i < l.target-index → get_or l.target-items i 0 ≡ l.state → ⊥
