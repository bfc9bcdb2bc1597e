-- The table is that of the class, by computation.
use Rattle.std.proofs.Common.{ℕ, not, ◌&&◌, refl, arith, false}
use Rattle.rl_pylex.specs.Bytes.{starts_name}
use Rattle.rl_pylex.specs.internal.Rows.{starts_literal}
use Rattle.rl_pylex.proofs.ClassTables.{table_from, read_table}
use Rattle.rl_pylex.proofs.rules.starts_plain_name.Goals as goal

pub returns : goal.returns
unfolding table_from
returns c = read_table (λ (x : ℕ). starts_name x && not (starts_literal x)) _ c.args.byte false refl (omega arith)
