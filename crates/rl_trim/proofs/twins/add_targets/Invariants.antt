use Rattle.rl_trim.proofs.TwinLaws.{IsAppending}
use Rattle.rl_trim.proofs.twins.add_targets.Given as goal

abbrev pub invariant-loop-target : goal.invariant-loop-target
invariant-loop-target l = IsAppending l.a l.state l.letter l.targets l.target-index l.list.items
