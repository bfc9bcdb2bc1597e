use Rattle.std.proofs.Common.{◌≡◌, ◌++◌}
use Rattle.std.proofs.Math.ListN.{drop}
use Rattle.rl_marks.specs.internal.MarkItems.{all_prefixed}
use Rattle.rl_spans.proofs.items.add_prefixed.Given as goal

abbrev pub invariant-loop-item : goal.invariant-loop-item
invariant-loop-item l = l.list ++ all_prefixed l.acts (drop l.item-index l.items) ≡ l.fn.list ++ all_prefixed l.acts l.items
