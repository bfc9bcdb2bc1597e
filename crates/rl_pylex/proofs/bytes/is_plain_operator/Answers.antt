-- The table is that of the class, by computation.
use Rattle.std.proofs.Common.{refl, arith, false}
use Rattle.rl_pylex.specs.internal.Rows.{is_plain_operator}
use Rattle.rl_pylex.proofs.ClassTables.{table_from, read_table}
use Rattle.rl_pylex.proofs.bytes.is_plain_operator.Goals as goal

pub returns : goal.returns
unfolding table_from
returns c = read_table is_plain_operator _ c.args.byte false refl (omega arith)
