use Rattle.std.proofs.Common.{◌≡◌, ◌≤◌, take, map, []}
use Rattle.rl_walk.specs.Steps.{named}
use Rattle.rl_walk.specs.Visits.{moment_of}
use Rattle.rl_walk.specs.internal.Parts.{Does}
use Rattle.rl_walk.proofs.walking.walk.Given as goal

abbrev pub invariant-loop-path : goal.invariant-loop-path
invariant-loop-path g l = record {
  does : Does (map named (map (λ p. p.now) (take l.path-index l.paths)))
      (moment_of g.T.Tree.told g.T.Tree.fault_count l.initial.tree) (moment_of g.T.Tree.told g.T.Tree.fault_count l.tree)
      [] l.met (g.V.Visitor.has_received l.initial.visitor) (g.V.Visitor.has_received l.visitor);
  later : g.T.Tree.fault_count l.initial.tree ≤ g.T.Tree.fault_count l.tree;
  config : g.V.Visitor.config l.visitor ≡ g.V.Visitor.config l.initial.visitor;
}
