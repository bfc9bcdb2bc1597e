use Rattle.rl_trim.specs.Changes.{AreRows}
use Rattle.rl_trim.proofs.changes.all_changes.Given as goal

abbrev pub invariant-loop-state : goal.invariant-loop-state
invariant-loop-state l = AreRows l.a l.state l.rows
