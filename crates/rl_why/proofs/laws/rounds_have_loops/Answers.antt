use Rattle.rl_why.proofs.LoopLaws.{rounds-named}
use Rattle.rl_why.proofs.laws.rounds_have_loops.Goals as goal

pub returns : goal.returns
returns c = rounds-named
