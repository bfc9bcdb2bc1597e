use Rattle.std.proofs.Common.{ℕ, ◌<◌, slice_index_or}
use Rattle.rl_spans.specs.internal.Sides.{matcher_of}
use Rattle.rl_spans.specs.internal.Machines.{IsMove}
use Rattle.rl_spans.proofs.checking.are_moves.Given as goal

abbrev pub invariant-loop-letter : goal.invariant-loop-letter
invariant-loop-letter l =
    (k : ℕ) → k < l.letter → IsMove (matcher_of l.machine.first) (matcher_of l.machine.second) l.pairs l.accepts l.pair (slice_index_or l.machine.codes k 0)
