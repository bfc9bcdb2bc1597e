use Rattle.std.proofs.Common.{◌≡◌, ℕ, suc, ◌<◌, [], length, slice_index_or}
use Rattle.rl_marks.specs.Marked.{marked_of}
use Rattle.rl_marks.specs.internal.Threads.{items_at}
use Rattle.rl_spans.proofs.side.rows_of.Given as goal

abbrev pub invariant-loop-place : goal.invariant-loop-place
invariant-loop-place l = (length l.rows ≡ suc l.place) × ((q : ℕ) → q < length l.rows → slice_index_or l.rows q [] ≡ items_at (marked_of l.tree) q)
