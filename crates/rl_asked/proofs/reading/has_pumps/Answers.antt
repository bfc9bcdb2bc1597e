use Rattle.std.proofs.Common.{arith}
use Rattle.rl_asked.proofs.ValueLemmas.{pumps_counted}
use Rattle.rl_asked.proofs.reading.has_pumps.Goals as goal

pub returns : goal.returns
returns c =
    pumps_counted c.is_one_less.result c.args.heads.now c.args.pumps.now
    (λ e. let told = c.is_one_less.ensures.yes e in omega arith) (λ e told. c.is_one_less.ensures.no e (omega arith))
