-- The place is that of the byte.
use Rattle.std.proofs.Common.{◌≡◌}
use Rattle.rl_report.specs.Places.{place_of}
use Rattle.rl_report.proofs.places.Cursor.forward.Given as goal

abbrev pub invariant-loop-at : goal.invariant-loop-at
invariant-loop-at l = l.place ≡ place_of l.source l.at
