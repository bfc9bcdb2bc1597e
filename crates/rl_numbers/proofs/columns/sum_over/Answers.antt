use Rattle.std.proofs.Common.{◌∙◌, get_or}
use Rattle.rl_numbers.proofs.ColumnLaws.{sum-more}
use Rattle.rl_numbers.proofs.columns.sum_over.Goals as goal

pub loop-m-preserved : goal.loop-m-preserved
loop-m-preserved c = c.min-sum.ensures ∙ sum-more (λ m. get_or c.args.column.now m 0) c.args.row.now c.loop-m.m-index c.loop-m.sum c.loop-m-test.true c.loop-m.invariant
