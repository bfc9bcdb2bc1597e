use Rattle.rl_graph.specs.internal.Halves.{AreNumbered}
use Rattle.rl_graph.proofs.rows.rows_of.Given as goal

abbrev pub invariant-loop-place : goal.invariant-loop-place
invariant-loop-place l = AreNumbered l.g l.place l.numbers.items l.owners.items
