use Rattle.rl_pattern.proofs.Once.{parsed_once}
use Rattle.rl_pattern.proofs.laws.parsed_once.Goals as goal

pub returns : goal.returns
returns c = parsed_once
