use Rattle.std.specs.Prelude.{◌≡◌, length}
use Rattle.rl_expo.specs.internal.Dense.{AreMarks}
use Rattle.rl_expo.proofs.dense.meet_from.Given as goal

abbrev pub invariant-loop-letter : goal.invariant-loop-letter
invariant-loop-letter l = AreMarks l.g l.components l.marks × (length l.searched ≡ l.g.letters)
