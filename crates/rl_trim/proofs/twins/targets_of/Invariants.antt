use Rattle.rl_trim.specs.Targets.{HasTargets}
use Rattle.rl_trim.proofs.twins.targets_of.Given as goal

abbrev pub invariant-loop-letter : goal.invariant-loop-letter
invariant-loop-letter l = HasTargets l.a l.state l.letter l.list.items
