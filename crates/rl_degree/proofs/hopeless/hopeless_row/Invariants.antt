use Rattle.rl_degree.specs.internal.Reached.{IsHopelessUpTo}
use Rattle.rl_degree.proofs.hopeless.hopeless_row.Given as goal

abbrev pub invariant-loop-state : goal.invariant-loop-state
invariant-loop-state l = IsHopelessUpTo l.g.states l.components l.reached l.component l.state l.row
