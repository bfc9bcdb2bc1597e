use Rattle.std.proofs.Common.{◌==◌}
use Rattle.rl_why.specs.internal.Paths.{AreFlags}
use Rattle.rl_why.proofs.paths.flags_at.Given as goal

abbrev pub invariant-loop-state : goal.invariant-loop-state
invariant-loop-state l = AreFlags l.state (λ q. q == l.to) l.flags
