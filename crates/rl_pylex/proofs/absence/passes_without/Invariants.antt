-- The pieces up to the place have no token that is the name.
use Rattle.std.proofs.Common.{length, ◌-◌, ◌≤◌}
use Rattle.rl_pylex.specs.internal.Absence.{ReachesWithout}
use Rattle.rl_pylex.proofs.absence.passes_without.Given as goal

abbrev pub invariant-loop-at : goal.invariant-loop-at
invariant-loop-at l = (l.at ≤ length l.source) × ReachesWithout l.source l.name l.at

abbrev pub decreases-loop-at : goal.decreases-loop-at
decreases-loop-at l = length l.initial.source - l.at
