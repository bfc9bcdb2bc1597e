use Rattle.rl_kernel.specs.Seats.{seats_of}
use Rattle.rl_degree.specs.internal.Kernel.{IsKernelUpTo}
use Rattle.rl_degree.proofs.kernel.kernel_of.Given as goal

abbrev pub invariant-loop-state : goal.invariant-loop-state
invariant-loop-state l = IsKernelUpTo l.components l.count l.state (seats_of l.kernel)
