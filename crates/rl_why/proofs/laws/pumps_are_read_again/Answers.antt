use Rattle.rl_why.proofs.EnterLaws.{pumps-again}
use Rattle.rl_why.proofs.laws.pumps_are_read_again.Goals as goal

pub returns : goal.returns
returns c = pumps-again
