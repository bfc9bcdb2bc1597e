use Rattle.std.proofs.Common.{ℕ, ◌≡◌, ◌<◌, ◌≤◌, ◌-◌, true, false, length, get_or}
use Rattle.rl_graph.specs.Graph.{edges_of}
use Rattle.rl_graph.specs.Parts.{number_of}
use Rattle.rl_degree.specs.internal.Reached.{HasTargets}
use Rattle.rl_degree.proofs.reached.reached_row.Given as goal

abbrev pub invariant-loop-state : goal.invariant-loop-state
invariant-loop-state l = record {
  within : l.state ≤ l.g.states;
  member : l.state < l.g.states → number_of l.components l.state ≡ l.component;
  wide : length l.row ≡ l.g.states;
  own : get_or l.row l.component false ≡ true;
  joined : (q : ℕ) → q < l.state → number_of l.components q ≡ l.component → HasTargets (edges_of l.g) l.components l.rows q l.row;
}

abbrev pub decreases-loop-state : goal.decreases-loop-state
decreases-loop-state l = l.g.states - l.state
