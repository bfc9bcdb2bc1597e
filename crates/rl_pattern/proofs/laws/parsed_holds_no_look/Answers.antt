use Rattle.rl_pattern.proofs.Extending.{parsed_lookless}
use Rattle.rl_pattern.proofs.laws.parsed_holds_no_look.Goals as goal

pub returns : goal.returns
returns c = parsed_lookless
