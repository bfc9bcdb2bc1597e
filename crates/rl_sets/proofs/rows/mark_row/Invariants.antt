use Rattle.rl_sets.proofs.RowLemmas.{IsMarking}
use Rattle.rl_sets.proofs.rows.mark_row.Given as goal

abbrev pub invariant-loop-q : goal.invariant-loop-q
invariant-loop-q l = IsMarking l.initial.table l.table l.at l.states l.q-index
