use Rattle.std.proofs.Common.{◌≡◌, ◌≤◌, ◌+◌, ◌-◌, ◌*◌, take}
use Rattle.rl_walk.specs.Steps.{steps_below}
use Rattle.rl_walk.specs.Visits.{moment_of}
use Rattle.rl_walk.specs.internal.Parts.{Does}
use Rattle.rl_walk.proofs.walking.+folders.Given as goal

abbrev pub decreases-enter : goal.decreases-enter
decreases-enter g l = 3 * (66 - l.level)

abbrev pub decreases-take_child : goal.decreases-take_child
decreases-take_child g l = 3 * (66 - l.level) + 1

abbrev pub decreases-take_children : goal.decreases-take_children
decreases-take_children g l = 3 * (66 - l.level) - 1

abbrev pub invariant-take_children-loop-child : goal.invariant-take_children-loop-child
invariant-take_children-loop-child g l = record {
  does : Does (steps_below l.path l.level (take l.child-index l.children))
      (moment_of g.T.Tree.told g.T.Tree.fault_count l.initial.tree) (moment_of g.T.Tree.told g.T.Tree.fault_count l.tree)
      l.initial.met l.met (g.V.Visitor.has_received l.initial.visitor) (g.V.Visitor.has_received l.visitor);
  later : g.T.Tree.fault_count l.initial.tree ≤ g.T.Tree.fault_count l.tree;
  config : g.V.Visitor.config l.visitor ≡ g.V.Visitor.config l.initial.visitor;
}
