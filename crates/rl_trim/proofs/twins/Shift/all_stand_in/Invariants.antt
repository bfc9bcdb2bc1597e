use Rattle.std.proofs.Common.{ℕ, ◌<◌, ◌≤◌}
use Rattle.rl_trim.specs.internal.Twins.{stand_in, IsReplaced}
use Rattle.rl_trim.proofs.twins.Shift.all_stand_in.Given as goal

abbrev pub invariant-loop-state : goal.invariant-loop-state
invariant-loop-state l = (q : ℕ) → l.first ≤ q → q < l.state → IsReplaced l.self.automaton.now l.self.before.now l.self.keep.now (stand_in l.self.keep.now l.self.distance) q
