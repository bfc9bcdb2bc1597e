use Rattle.std.proofs.Common.{◌*◌}
use Rattle.rl_lanes.proofs.NextLemmas.{NoBitBetween}
use Rattle.rl_lanes.proofs.row.next_bit.Given as goal

abbrev pub invariant-loop-at : goal.invariant-loop-at
invariant-loop-at l = NoBitBetween l.words l.fn.i (64 * l.at)
