use Rattle.std.proofs.Common.{◌≤◌}
use Rattle.rl_degree.specs.internal.Groups.{AreGroupsFrom}
use Rattle.rl_degree.proofs.groups.groups_of.Given as goal

abbrev pub invariant-loop-state : goal.invariant-loop-state
invariant-loop-state l = record {
  within : l.state ≤ l.count;
  groups : AreGroupsFrom l.components l.count l.state l.firsts.items l.nexts.items;
}

abbrev pub decreases-loop-state : goal.decreases-loop-state
decreases-loop-state l = l.state
