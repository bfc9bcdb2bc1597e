-- The skipped bytes are ordinary, and no word that begins among them is the name.
use Rattle.std.proofs.Common.{length, ◌-◌, ◌≤◌}
use Rattle.rl_pylex.specs.internal.Absence.{IsSkipped}
use Rattle.rl_pylex.proofs.absence.run_without.Given as goal

abbrev pub invariant-loop-at : goal.invariant-loop-at
invariant-loop-at l = (l.at ≤ length l.text) × IsSkipped l.name l.text l.at

abbrev pub decreases-loop-at : goal.decreases-loop-at
decreases-loop-at l = length l.initial.text - l.at
