use Rattle.std.proofs.Common.{◌≡◌, length, All, List, Bool}
use Rattle.unit_tests.proofs.lanes.fill_row.Given as goal

abbrev pub invariant-loop-i : goal.invariant-loop-i
invariant-loop-i l = (length l.table ≡ l.fn.rows) × All (λ (r : List Bool). length r ≡ l.fn.len) l.table
