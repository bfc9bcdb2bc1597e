use Rattle.std.proofs.Common.{◌+◌, ◌*◌, length}
use Rattle.rl_degree.specs.internal.FallingPairs.{AreFlagsUpTo}
use Rattle.rl_degree.proofs.falling.push_flags.Given as goal

abbrev pub invariant-loop-second : goal.invariant-loop-second
invariant-loop-second l = AreFlagsUpTo l.levels l.entries (length l.levels) (l.first * length l.levels + l.second) l.flags.items
