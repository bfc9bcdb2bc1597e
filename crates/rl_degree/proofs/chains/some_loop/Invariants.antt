use Rattle.std.proofs.Common.{◌≡◌, ℕ, ◌<◌, false}
use Rattle.rl_graph.specs.Parts.{cycle_of}
use Rattle.rl_degree.proofs.chains.some_loop.Given as goal

abbrev pub invariant-loop-state : goal.invariant-loop-state
invariant-loop-state l = (q : ℕ) → q < l.state → cycle_of l.components q ≡ false
