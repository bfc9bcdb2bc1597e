use Rattle.rl_expo.specs.internal.Dense.{AreMarks}
use Rattle.rl_expo.proofs.dense.meet_in_row.Given as goal

abbrev pub invariant-loop-via : goal.invariant-loop-via
invariant-loop-via l = AreMarks l.g l.components l.marks
