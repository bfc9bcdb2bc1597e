use Rattle.std.proofs.Common.{◌≡◌, replicate}
use Rattle.rl_degree.proofs.rows.copies_of.Given as goal

abbrev pub invariant-loop-copy : goal.invariant-loop-copy
invariant-loop-copy l = l.copies.items ≡ replicate l._copy l.row
