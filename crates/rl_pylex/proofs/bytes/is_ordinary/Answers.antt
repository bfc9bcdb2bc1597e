-- The table is that of the class, by computation.
use Rattle.std.proofs.Common.{refl, arith, false}
use Rattle.rl_pylex.specs.internal.Absence.{is_ordinary}
use Rattle.rl_pylex.proofs.ClassTables.{table_from, read_table}
use Rattle.rl_pylex.proofs.bytes.is_ordinary.Goals as goal

pub returns : goal.returns
unfolding table_from is_ordinary
returns c = read_table is_ordinary _ c.args.byte false refl (omega arith)
