use Rattle.std.proofs.Common.{◌*◌, length}
use Rattle.rl_degree.specs.internal.FallingPairs.{AreFlagsUpTo}
use Rattle.rl_degree.proofs.falling.falling_flags.Given as goal

abbrev pub invariant-loop-first : goal.invariant-loop-first
invariant-loop-first l = AreFlagsUpTo l.levels l.entries (length l.levels) (l.first * length l.levels) l.flags.items
