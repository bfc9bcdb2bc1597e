use Rattle.std.proofs.Common.{ℕ, ◌<◌}
use Rattle.rl_trim.specs.internal.Twins.{stand_in, FollowsAfter}
use Rattle.rl_trim.proofs.twins.Shift.stands_in.Given as goal

abbrev pub invariant-loop-letter : goal.invariant-loop-letter
invariant-loop-letter l = (k : ℕ) → k < l.letter → FollowsAfter l.self.automaton.now l.self.before.now (stand_in l.self.keep.now l.self.distance) l.state k
