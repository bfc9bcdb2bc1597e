use Rattle.rl_degree.specs.internal.Reached.{AreFilled}
use Rattle.rl_degree.proofs.ReachLaws.{AreThere}
use Rattle.rl_degree.proofs.hopeless.hopeless_rows.Given as goal

abbrev pub invariant-loop-place : goal.invariant-loop-place
invariant-loop-place l = record {
  so_far : AreFilled l.g.states l.components l.reached l.rows.items;
  there : AreThere l.listed l.place l.rows.items;
}
