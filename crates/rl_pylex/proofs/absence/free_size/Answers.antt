-- If the search stops at no byte, the name begins at none of them.
use Rattle.std.proofs.Common.{arith}
use Rattle.rl_pylex.proofs.Words.{free-run}
use Rattle.rl_pylex.proofs.absence.free_size.Goals as goal

pub returns-else-name-lt2-clause-free : goal.returns-else-name-lt2-clause-free
returns-else-name-lt2-clause-free c =
    free-run c.args.name.now c.args.text.now c.size_before_stop.result (omega arith) c.size_before_stop.ensures.free
