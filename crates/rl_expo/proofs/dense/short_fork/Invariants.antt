use Rattle.std.specs.Prelude.{◌≡◌, length}
use Rattle.rl_expo.specs.internal.Dense.{AreMarks}
use Rattle.rl_expo.proofs.dense.short_fork.Given as goal

abbrev pub invariant-loop-state : goal.invariant-loop-state
invariant-loop-state l = AreMarks l.g l.components l.marks.items × (length l.searched.items ≡ l.g.letters)
