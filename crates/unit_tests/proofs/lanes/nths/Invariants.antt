use Rattle.std.proofs.Common.{◌≡◌, length}
use Rattle.unit_tests.proofs.lanes.nths.Given as goal

abbrev pub invariant-loop-i : goal.invariant-loop-i
invariant-loop-i l = length l.row ≡ l.len
