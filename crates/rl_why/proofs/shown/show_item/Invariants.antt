use Rattle.std.proofs.Common.{◌≡◌, ◌++◌, map}
use Rattle.std.proofs.Math.ListN.{drop}
use Rattle.rl_why.specs.Shown.{taken_of}
use Rattle.rl_why.proofs.shown.show_item.Given as goal

abbrev pub invariant-loop-decision : goal.invariant-loop-decision
invariant-loop-decision l = l.took ++ map (taken_of l.nodes) (drop l.decision-index l.decisions) ≡ map (taken_of l.nodes) l.decisions
