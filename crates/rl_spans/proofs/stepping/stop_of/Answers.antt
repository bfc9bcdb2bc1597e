use Rattle.rl_spans.proofs.StepLaws.{none-where}
use Rattle.rl_spans.proofs.stepping.stop_of.Goals as goal

pub returns-else-accepts : goal.returns-else-accepts
returns-else-accepts c = none-where c.args.accepts c.args.tries.now c.if-accepts.false
