use Rattle.std.proofs.Common.{◌==◌}
use Rattle.rl_graph.specs.Parts.{number_of}
use Rattle.rl_kernel.specs.Seats.{seats_of, HoldsUpTo}
use Rattle.rl_expo.proofs.blocks.states_of.Given as goal

abbrev pub invariant-loop-state : goal.invariant-loop-state
invariant-loop-state l =
    HoldsUpTo (λ q. number_of l.components q == l.number) l.components l.count l.state (seats_of l.kernel)
