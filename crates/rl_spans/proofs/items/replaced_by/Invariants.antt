use Rattle.std.proofs.Common.{◌≡◌, ◌++◌}
use Rattle.std.proofs.Math.ListN.{drop}
use Rattle.rl_marks.specs.internal.MarkItems.{replaced}
use Rattle.rl_spans.proofs.items.replaced_by.Given as goal

abbrev pub invariant-loop-item : goal.invariant-loop-item
invariant-loop-item l = l.list ++ replaced (drop l.item-index l.items) l.others ≡ replaced l.items l.others
