use Rattle.std.proofs.Common.{◌≡◌, ◌++◌}
use Rattle.std.proofs.Math.ListN.{drop}
use Rattle.rl_spans.specs.internal.Shown.{shown_tries}
use Rattle.rl_spans.proofs.threads.add_tries.Given as goal

abbrev pub invariant-loop-item : goal.invariant-loop-item
invariant-loop-item l = l.list ++ shown_tries l.before l.next l.place (drop l.item-index l.items) l.caps ≡ l.fn.list ++ shown_tries l.before l.next l.place l.items l.caps
