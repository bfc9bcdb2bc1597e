use Rattle.std.proofs.Common.{◌≡◌, ◌<◌, All, suc, take}
use Rattle.rl_marks.specs.declared.threads.Thread.{Thread}
use Rattle.rl_marks.specs.internal.Threads.{named}
use Rattle.rl_spans.proofs.stepping.shifted.Given as goal

abbrev pub invariant-loop-thread : goal.invariant-loop-thread
invariant-loop-thread l = (l.list ≡ named suc (take l.thread-index l.threads)) × All (λ (t : Thread). t.state < l.states) l.list
