use Rattle.std.proofs.Common.{◌≡◌}
use Rattle.rl_sets.specs.Walk.{IsMadeFor}
use Rattle.rl_sets.proofs.walk.SetWalk.bury.Given as goal

abbrev pub invariant-loop-i : goal.invariant-loop-i
invariant-loop-i l = IsMadeFor l.self l.a × (l.self.limit ≡ l.initial.self.limit) × (l.self.sets ≡ l.initial.self.sets)
