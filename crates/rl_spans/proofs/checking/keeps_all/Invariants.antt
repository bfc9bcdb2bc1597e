use Rattle.std.proofs.Common.{ℕ, ◌<◌, ◌≡◌, true, slice_index_or}
use Rattle.rl_marks.specs.declared.threads.ThreadPair.{ThreadPair}
use Rattle.rl_spans.specs.internal.Sides.{matcher_of}
use Rattle.rl_spans.specs.internal.Machines.{KeepsCodes}
use Rattle.rl_spans.proofs.checking.keeps_all.Given as goal

abbrev pub invariant-loop-index : goal.invariant-loop-index
invariant-loop-index l =
    (k : ℕ) → k < l.index → (p : ThreadPair) → slice_index_or l.pairs k p ≡ p
    → KeepsCodes (matcher_of l.machine.first) (matcher_of l.machine.second) l.pairs l.machine.codes true p
