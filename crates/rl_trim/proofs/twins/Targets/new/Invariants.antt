use Rattle.rl_trim.specs.Targets.{AreTargets}
use Rattle.rl_trim.proofs.twins.Targets.new.Given as goal

abbrev pub invariant-loop-state : goal.invariant-loop-state
invariant-loop-state l = AreTargets l.a l.state l.lists.items
