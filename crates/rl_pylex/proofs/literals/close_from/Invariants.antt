-- The skipped bytes contain no closing quotes and no fault.
use Rattle.std.proofs.Common.{length, ◌-◌, ◌+◌, ◌≤◌}
use Rattle.rl_pylex.specs.internal.Bodies.{Skips}
use Rattle.rl_pylex.proofs.literals.close_from.Given as goal

abbrev pub invariant-loop-at : goal.invariant-loop-at
invariant-loop-at l = (l.at ≤ length l.body + 3) × Skips l.count l.quote l.at l.body

abbrev pub decreases-loop-at : goal.decreases-loop-at
decreases-loop-at l = length l.initial.body - l.at
