use Rattle.std.proofs.Common.{◌≡◌, ◌++◌}
use Rattle.std.proofs.Math.ListN.{drop}
use Rattle.rl_marks.specs.internal.Threads.{distinct}
use Rattle.rl_spans.proofs.DistinctLaws.{without_all}
use Rattle.rl_spans.proofs.threads.distinct_of.Given as goal

abbrev pub invariant-loop-thread : goal.invariant-loop-thread
invariant-loop-thread l = l.list ++ without_all l.list (distinct (drop l.thread-index l.threads)) ≡ distinct l.threads
