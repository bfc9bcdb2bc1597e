use Rattle.std.proofs.Common.{◌≡◌, length}
use Rattle.rl_sets.proofs.split.full_row.Given as goal

abbrev pub invariant-loop-i : goal.invariant-loop-i
invariant-loop-i l = length l.row ≡ l.len
