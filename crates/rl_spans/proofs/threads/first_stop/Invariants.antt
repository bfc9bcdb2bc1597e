use Rattle.std.proofs.Common.{◌≡◌, true}
use Rattle.std.proofs.Math.ListN.{drop}
use Rattle.rl_marks.specs.internal.Threads.{stopped}
use Rattle.rl_spans.proofs.threads.first_stop.Given as goal

abbrev pub invariant-loop-item : goal.invariant-loop-item
invariant-loop-item l = stopped true (drop l.item-index l.list) ≡ stopped true l.list
