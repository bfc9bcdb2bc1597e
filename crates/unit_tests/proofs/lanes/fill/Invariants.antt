use Rattle.std.proofs.Common.{◌≡◌, length, All, List, Bool}
use Rattle.unit_tests.proofs.lanes.fill.Given as goal

abbrev pub invariant-loop-row : goal.invariant-loop-row
invariant-loop-row l = (length l.table ≡ l.fn.rows) × All (λ (r : List Bool). length r ≡ l.fn.len) l.table
