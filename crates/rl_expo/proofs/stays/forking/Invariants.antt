use Rattle.rl_expo.specs.internal.Blocks.{AreForkingUpTo}
use Rattle.rl_expo.proofs.stays.forking.Given as goal

abbrev pub invariant-loop-state : goal.invariant-loop-state
invariant-loop-state l = AreForkingUpTo l.g l.components l.state l.marks.items
