use Rattle.rl_expo.specs.internal.Dense.{AreMarks}
use Rattle.rl_expo.proofs.dense.meet_after.Given as goal

abbrev pub invariant-loop-place : goal.invariant-loop-place
invariant-loop-place l = AreMarks l.g l.components l.marks
