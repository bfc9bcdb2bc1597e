use Rattle.std.proofs.Common.{◌≡◌, false, not, ◌&&◌, take, All}
use Rattle.rl_trim.specs.Twins.{is_kept}
use Rattle.rl_trim.proofs.twins.Shift.stays.Given as goal

abbrev pub invariant-loop-target : goal.invariant-loop-target
invariant-loop-target l = All (λ t. (is_kept l.self.before.now t && not (is_kept l.self.keep.now t)) ≡ false) (take l.target-index l.target-items)
