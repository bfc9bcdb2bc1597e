use Rattle.std.proofs.Common.{◌≡◌, length, drop}
use Rattle.rl_sets.specs.Rows.{marked}
use Rattle.rl_sets.proofs.rows.mark.Given as goal

abbrev pub invariant-loop-q : goal.invariant-loop-q
invariant-loop-q l = (marked l.row (drop l.q-index l.states) ≡ marked l.initial.row l.states) × (length l.row ≡ length l.initial.row)
