use Rattle.std.proofs.Common.{ℕ, ◌<◌, Bool, Some, slice_index_or}
use Rattle.rl_marks.specs.internal.Pairs.{begin}
use Rattle.rl_spans.specs.internal.Sides.{matcher_of}
use Rattle.rl_spans.specs.internal.Machines.{KeepsCodes}
use Rattle.rl_spans.proofs.checking.keeps_begins.Given as goal

abbrev pub invariant-loop-index : goal.invariant-loop-index
invariant-loop-index l =
    (k : ℕ) → k < l.index → (accepts : Bool)
    → KeepsCodes (matcher_of l.machine.first) (matcher_of l.machine.second) l.pairs l.machine.codes accepts (begin (Some (slice_index_or l.machine.codes k 0)))
