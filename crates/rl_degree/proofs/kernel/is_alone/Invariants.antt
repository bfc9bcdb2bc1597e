use Rattle.rl_degree.specs.internal.Kernel.{IsOneComponent}
use Rattle.rl_degree.proofs.kernel.is_alone.Given as goal

abbrev pub invariant-loop-state : goal.invariant-loop-state
invariant-loop-state l = IsOneComponent l.components l.state l.number
