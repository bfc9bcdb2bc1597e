use Rattle.std.proofs.Common.{◌≡◌, true, take, All}
use Rattle.rl_sets.specs.Live.{holds}
use Rattle.rl_trim.specs.Twins.{is_kept}
use Rattle.rl_trim.specs.internal.Twins.{stand_in}
use Rattle.rl_trim.proofs.twins.Shift.follows.Given as goal

abbrev pub invariant-loop-target : goal.invariant-loop-target
invariant-loop-target l = All (λ t. is_kept l.self.before.now t ≡ true → holds l.found (stand_in l.self.keep.now l.self.distance t) ≡ true) (take l.target-index l.target-items)
