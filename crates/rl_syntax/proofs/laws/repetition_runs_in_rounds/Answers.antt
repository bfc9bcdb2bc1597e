use Rattle.rl_syntax.proofs.RunLaws.{run-many}
use Rattle.rl_syntax.proofs.laws.repetition_runs_in_rounds.Goals as goal

pub returns : goal.returns
returns c = run-many
