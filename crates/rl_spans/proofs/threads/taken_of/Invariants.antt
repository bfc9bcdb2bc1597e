use Rattle.std.proofs.Common.{◌≡◌, ◌++◌}
use Rattle.std.proofs.Math.ListN.{drop}
use Rattle.rl_spans.specs.internal.Shown.{taken_by}
use Rattle.rl_spans.proofs.threads.taken_of.Given as goal

abbrev pub invariant-loop-item : goal.invariant-loop-item
invariant-loop-item l = l.list ++ taken_by l.takes l.accepts (drop l.item-index l.tries) ≡ taken_by l.takes l.accepts l.tries
